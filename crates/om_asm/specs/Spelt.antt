-- What a word says, where only one spelling is right.
use Rattle.std.specs.Prelude.{ℕ, ◌+◌, ◌-◌, ◌^◌, ◌==◌, if◌then◌else◌, List, Option, Some, None}
use Rattle.std.specs.Str.{bytes_eq}
use Rattle.om_ring.specs.Spelt.{spelt, decimal_below}
use Rattle.om_ring.specs.OptionSteps.{◌>>=◌}
use Rattle.om_model.specs.TermText.{place_word}
use Rattle.om_legs.specs.declared.leg_set.TheConstants.{MOST_LEGS}

-- a decimal below 2^32 that counts from 1, as the number that counts from 0
abbrev pub place_of : List ℕ → Option ℕ
place_of word = spelt place_word (2 ^ 32 - 1) word

-- the number of a leg: a decimal from 1 on, below 256
abbrev pub leg_of : List ℕ → Option ℕ
leg_of word = do
  n ← decimal_below 256 word
  if n == 0 then None else Some n

-- where a line of a flow ends: the number of a leg, or 0
abbrev pub end_of : List ℕ → Option ℕ
end_of word = decimal_below (MOST_LEGS + 1) word

-- a word that a program has to have at its place
abbrev pub literal : List ℕ → List ℕ → Option (Unit {0})
literal text word = if bytes_eq word text then Some tt else None
