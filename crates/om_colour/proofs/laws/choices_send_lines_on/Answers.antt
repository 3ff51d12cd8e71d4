use Rattle.om_colour.proofs.Sending.{choices_send_on}
use Rattle.om_colour.proofs.laws.choices_send_lines_on.Goals as goal

pub returns : goal.returns
returns c = choices_send_on
