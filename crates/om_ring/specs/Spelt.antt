-- What a text says, where only one spelling is right.
use Rattle.std.specs.Prelude.{ℕ, List, decimal, Option}
use Rattle.std.specs.Str.{bytes_eq}
use Rattle.om_ring.specs.FindBelow.{find_below}

-- the number below a limit whose spelling the text is, or none
unfoldable pub spelt : (ℕ → List ℕ) → ℕ → List ℕ → Option ℕ
spelt spelling limit text = find_below (λ n. bytes_eq (spelling n) text) limit

-- the number below a limit whose decimal the text is, or none
abbrev pub decimal_below : ℕ → List ℕ → Option ℕ
decimal_below limit text = spelt decimal limit text
