-- The words of a term, joined one after the other.
use Rattle.std.proofs.Common.{◌≡◌, ℕ, List, [], ◌∷◌, ◌++◌, sym, ap, append_assoc, append-nil}
use Rattle.std.specs.List.{join_with_byte}
use Rattle.om_model.specs.TermText.{spaced}

-- the first word, and each other behind a space
pub join_spaced : (x : List ℕ) (xs : List (List ℕ)) → join_with_byte 32 (x ∷ xs) ≡ x ++ spaced xs
join_spaced x [] = sym (append-nil x)
join_spaced x (y ∷ ys) = ap (λ t. x ++ 32 ∷ t) (join_spaced y ys)

-- four words and more, with a space between each two
pub term_joined : (line m s v c : List ℕ) (bs : List (List ℕ)) → (((((((line ++ m) ++ 32 ∷ []) ++ s) ++ 32 ∷ []) ++ v) ++ 32 ∷ []) ++ c) ++ spaced bs ≡ line ++ join_with_byte 32 (m ∷ s ∷ v ∷ c ∷ bs)
term_joined line m s v c bs = rw (join_spaced c bs) (simp append_assoc)
