use Rattle.om_legs.proofs.PrefixParity.{window_of_one, window_doubled, whole_window}
use Rattle.om_legs.proofs.parity.odd_below.Goals as goal

pub returns : goal.returns
returns c =
    let bits = c.args.bits in
    whole_window bits _ (window_doubled bits 8 _ (window_doubled bits 4 _ (window_doubled bits 2 _ (window_doubled bits 1 _ (window_of_one bits)))))
