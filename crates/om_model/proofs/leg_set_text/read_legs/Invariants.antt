use Rattle.std.proofs.Common.{◌≡◌, eqb, length}
use Rattle.std.specs.Prelude.{option_map}
use Rattle.std.specs.List.{slice_split}
use Rattle.om_model.specs.LegSetText.{legs_read, numbers_above, set_numbers}
use Rattle.om_model.proofs.LegSetReading.{with_numbers}
use Rattle.om_model.proofs.leg_set_text.read_legs.Given as goal

-- the legs so far, and those of the numbers that are left, are all
abbrev pub invariant-loop-number : goal.invariant-loop-number
invariant-loop-number l = with_numbers l.read (numbers_above l.read.greatest (slice_split (λ b. eqb b 43) l.rest)) ≡ option_map legs_read (set_numbers l.text)

abbrev pub decreases-loop-number : goal.decreases-loop-number
decreases-loop-number l = length l.rest
