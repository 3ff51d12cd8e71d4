-- The pieces of a line make it up.
use Rattle.std.proofs.Common.{◌≡◌, ℕ, nat_eq, List, [], ◌∷◌, refl, ap, sym, ◌∙◌, inl, inr}
use Rattle.std.proofs.lemmas.Bool.{cases_Bool, eqb-true}
use Rattle.om_event.specs.Pieces.{pieces, onto_first, spaced}
use Rattle.om_event.proofs.LineReads.{first_later}

spaced-more : (ps : List (List ℕ)) (first : List ℕ) (rest : List (List ℕ)) → ps ≡ first ∷ rest → spaced ([] ∷ ps) ≡ 32 ∷ spaced ps
spaced-more [] first rest e = cc
spaced-more (p ∷ ps) first rest e = refl

spaced-onto : (b : ℕ) (ps : List (List ℕ)) → spaced (onto_first b ps) ≡ b ∷ spaced ps
spaced-onto b [] = refl
spaced-onto b (p ∷ []) = refl
spaced-onto b (p ∷ q ∷ ps) = refl

-- the pieces, with spaces between them, are the line
pub spaced_pieces : (line : List ℕ) → spaced (pieces line) ≡ line
spaced_pieces [] = refl
spaced_pieces (b ∷ bs) = elim (cases_Bool (nat_eq b 32)) [
  | inl e ↦ rw e (spaced-more (pieces bs) _ _ (first_later bs) ∙ ap (λ (t : List ℕ). 32 ∷ t) (spaced_pieces bs)
      ∙ ap (λ (x : ℕ). x ∷ bs) (sym (eqb-true b 32 e)))
  | inr e ↦ rw e (spaced-onto b (pieces bs) ∙ ap (λ (t : List ℕ). b ∷ t) (spaced_pieces bs))
]
