-- The words that ask for a sample, and the line that tells it.
use Rattle.std.specs.Prelude.{ℕ, ◌+◌, nat_le, if◌then◌else◌, codes, decimal, List, ◌++◌, Option, Some, None}
use Rattle.om_legs.specs.declared.leg_set.TheConstants.{MOST_LEGS}
use Rattle.om_ring.specs.Spelt.{decimal_below}
use Rattle.om_model.specs.declared.limits.TheConstants.{FEWEST_LEGS}
use Rattle.om_sample.specs.declared.limits.TheConstants.{SAMPLE_EVENTS}

abbrev pub where_enough : Option ℕ → Option ℕ
where_enough None = None
where_enough (Some legs) = if nat_le FEWEST_LEGS legs then Some legs else None

-- the number of legs that a word says, if it is the decimal of one from 3 to 12
abbrev pub legs_in : List ℕ → Option ℕ
legs_in word = where_enough (decimal_below (MOST_LEGS + 1) word)

-- the line of a sample, in which an element is written by `show`
abbrev pub sample_text : {E : Type 0} → (E → List ℕ) → ℕ → ℕ → E → List ℕ
sample_text show legs poles total =
    codes "sample legs " ++ decimal legs ++ codes " events " ++ decimal SAMPLE_EVENTS ++ codes " poles " ++ decimal poles ++ codes " sum " ++ show total ++ codes "\n"
