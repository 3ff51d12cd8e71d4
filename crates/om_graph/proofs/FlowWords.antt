-- Ends, back from their words.
use Rattle.std.proofs.Common.{◌≡◌, ℕ, zero, suc, ◌<◌, List, [], ◌∷◌, length, get_or, slice_index, refl, ap₂, sym, ◌∙◌, lit<}
use Rattle.std.proofs.lemmas.Nat.{le_bytes_8}
use Rattle.std.specs.Int.{w64, from_le_bytes, to_le_bytes}
use Rattle.om_colour.proofs.JoinedEnds.{each_leg-same}
use Rattle.om_graph.specs.Words.{eight, twelve}

module _ (ends : List ℕ) (small : (i : ℕ) → get_or ends i 0 < 256) where
  abbrev first : List ℕ
  first = eight (slice_index ends)

  abbrev last : List ℕ
  last = slice_index ends 8 ∷ slice_index ends 9 ∷ slice_index ends 10 ∷ slice_index ends 11 ∷ 0 ∷ 0 ∷ 0 ∷ 0 ∷ []

  first_bytes : (i : ℕ) → get_or first i 0 < 256
  first_bytes zero = small 0
  first_bytes (suc zero) = small 1
  first_bytes (suc (suc zero)) = small 2
  first_bytes (suc (suc (suc zero))) = small 3
  first_bytes (suc (suc (suc (suc zero)))) = small 4
  first_bytes (suc (suc (suc (suc (suc zero))))) = small 5
  first_bytes (suc (suc (suc (suc (suc (suc zero)))))) = small 6
  first_bytes (suc (suc (suc (suc (suc (suc (suc zero))))))) = small 7
  first_bytes (suc (suc (suc (suc (suc (suc (suc (suc i)))))))) = lit< tt

  last_bytes : (i : ℕ) → get_or last i 0 < 256
  last_bytes zero = small 8
  last_bytes (suc zero) = small 9
  last_bytes (suc (suc zero)) = small 10
  last_bytes (suc (suc (suc zero))) = small 11
  last_bytes (suc (suc (suc (suc zero)))) = lit< tt
  last_bytes (suc (suc (suc (suc (suc zero))))) = lit< tt
  last_bytes (suc (suc (suc (suc (suc (suc zero)))))) = lit< tt
  last_bytes (suc (suc (suc (suc (suc (suc (suc zero))))))) = lit< tt
  last_bytes (suc (suc (suc (suc (suc (suc (suc (suc i)))))))) = lit< tt

  pub words_back : length ends ≡ 12 → (low high : ℕ) → low ≡ from_le_bytes w64 first → high ≡ from_le_bytes w64 last → ends ≡ twelve (to_le_bytes w64 low) (to_le_bytes w64 high)
  words_back l low high e h =
      each_leg-same ends l ∙ sym (ap₂ twelve (le_bytes_8 first low refl first_bytes e) (le_bytes_8 last high refl last_bytes h))
