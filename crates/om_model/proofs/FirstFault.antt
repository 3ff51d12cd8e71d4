-- What is read in turn, up to the first fault.
use Rattle.std.proofs.Common.{◌≡◌, ℕ, List, [], ◌∷◌, ◌++◌, refl, sym, ap, append_assoc, append-nil, Result, Ok, Err}
use Rattle.om_model.specs.ProcessText.{with_first}

-- these members, and then those that follow, if they can be read
abbrev pub behind : {A : Type 0} → List A → Result (List A) ℕ → Result (List A) ℕ
behind xs (Ok more) = Ok (xs ++ more)
behind xs (Err place) = Err place

pub behind-push : {A : Type 0} (xs : List A) (x : A) (more : Result (List A) ℕ) → behind xs (with_first x more) ≡ behind (xs ++ x ∷ []) more
behind-push {A} xs x (Ok more) = ap (λ (ys : List A). let r : Result (List A) ℕ = Ok ys in r) (sym (append_assoc xs (x ∷ []) more))
behind-push xs x (Err place) = refl

pub behind-all : {A : Type 0} (xs : List A) → behind xs (Ok []) ≡ Ok xs
behind-all {A} xs = ap (λ (ys : List A). let r : Result (List A) ℕ = Ok ys in r) (append-nil xs)
