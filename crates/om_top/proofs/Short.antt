-- Facts on each member of a list, through a function.
use Rattle.std.proofs.Common.{ℕ, ◌<◌, List, [], ◌∷◌, length, map}
use Rattle.std.specs.Prelude.{All, ◌↔◌}
use Rattle.std.proofs.lemmas.List.Elements.{All-nil, All-cons, All-head, All-tail, All-map}
use Rattle.om_top.specs.declared.words.TheConstants.{WORD_LIMIT}
use Rattle.om_top.specs.Limits.{IsWithinLimits}
use Rattle.std.proofs.lemmas.List.{length-map}

from_map : {A B : Type 0} (P : B → Type 0) (f : A → B) (xs : List A) → All P (map f xs) → All (λ x. P (f x)) xs
from_map P f [] h = All-nil (λ x. P (f x))
from_map P f (x ∷ xs) h = All-cons (λ x. P (f x)) x xs (All-head P (f x) (map f xs) h) (from_map P f xs (All-tail P (f x) (map f xs) h))

-- words by their bytes
pub within : {A : Type 0} (f : A → List ℕ) (xs : List A) → length xs < WORD_LIMIT → All (λ x. length (f x) < WORD_LIMIT) xs ↔ IsWithinLimits (map f xs)
within f xs few = (
  λ short. record { few = rw length-map few; short = All-map (λ w. length w < WORD_LIMIT) f xs short },
  λ h. from_map (λ w. length w < WORD_LIMIT) f xs h.short,
)
