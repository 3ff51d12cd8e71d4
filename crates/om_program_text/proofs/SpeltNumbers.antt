-- Numbers that are spelt one after the other, and put in with the bytes behind them.
use Rattle.std.proofs.Common.{◌≡◌, ℕ, ◌+◌, ◌<◌, ◌≤◌, List, ◌++◌, ⊎_elim, length, get_or, take, set, ap, sym, subst, ◌∙◌, arith}
use Rattle.std.proofs.lemmas.Bool.{cases_eq}
use Rattle.std.proofs.lemmas.List.{get_or-set_same, get_or-set_other, get_or-take, length-take, length-take-le, take-take}
use Rattle.std.proofs.Math.Seq.{take-append-add}
use Rattle.om_program_text.specs.declared.spellings.Spelling.{Spelling}
use Rattle.om_program_text.specs.Spelt.{IsSpelt, AreSpelt}

-- one number more
pub spelt_more : (numbers : List Spelling) (k : ℕ) (x : Spelling) → k < length numbers → ((j : ℕ) (s : Spelling) → j < k → IsSpelt j (get_or numbers j s)) → IsSpelt k x → (j : ℕ) (s : Spelling) → j < k + 1 → IsSpelt j (get_or (set numbers k x) j s)
spelt_more numbers k x l h new j s b = ⊎_elim
    (λ (e : j ≡ k). subst (λ i. IsSpelt i (get_or (set numbers k x) i s)) (sym e) (subst (IsSpelt k) (sym (get_or-set_same numbers k x s l)) new))
    (λ (n : j ≡ k → ⊥). subst (IsSpelt j) (sym (get_or-set_other numbers k j x s n)) (h j s (omega (arith, b, n))))
    (cases_eq j k)

pub spelt_end : (count k : ℕ) (numbers : List Spelling) → count ≤ k → ((j : ℕ) (s : Spelling) → j < k → IsSpelt j (get_or numbers j s)) → AreSpelt (take count numbers)
spelt_end count k numbers l h j s b =
    let small : j < count = omega (arith, b, length-take count numbers) in
    subst (IsSpelt j) (sym (get_or-take count numbers j s small)) (h j s (omega (arith, small, l)))

-- of a piece that was put in, the front alone counts
pub less_put : (old new piece : List ℕ) (at n : ℕ) → at ≤ length old → n ≤ length piece → take (at + length piece) new ≡ take at old ++ piece → take (at + n) new ≡ take at old ++ take n piece
less_put old new piece at n l m e =
    let size : length (take at old) ≡ at = length-take-le at old l in
    sym (take-take (at + n) (at + length piece) new (omega (arith, m))) ∙ ap (take (at + n)) e
    ∙ ap (λ j. take (j + n) (take at old ++ piece)) (sym size) ∙ take-append-add (take at old) piece n
