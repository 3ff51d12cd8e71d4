use Rattle.om_colour.proofs.Colours.{leg-has_colour, vertex-has_colour}
use Rattle.om_colour.proofs.laws.sides_have_colours.Goals as goal

pub returns : goal.returns
returns c = record { leg = leg-has_colour; vertex = vertex-has_colour }
