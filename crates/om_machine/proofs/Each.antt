-- What holds of each member of a list.
use Rattle.std.proofs.Common.{List, [], ◌∷◌}
use Rattle.om_model.specs.Reordered.{Reordered}
use Rattle.om_model.specs.Reordered.Reordered.{same, keep, turn, chain}

-- each member is such
abbrev pub Each : {A : Type 0} → (A → Type 0) → List A → Type 0
Each P [] = Unit {0}
Each P (x ∷ xs) = P x × Each P xs

pub each-reordered : {A : Type 0} (P : A → Type 0) {xs ys : List A} → Reordered xs ys → Each P ys → Each P xs
each-reordered P same h = h
each-reordered P (keep m) h = (h.0, each-reordered P m h.1)
each-reordered P turn h = (h.1.0, (h.0, h.1.1))
each-reordered P (chain m n) h = each-reordered P m (each-reordered P n h)
