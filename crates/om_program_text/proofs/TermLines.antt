-- The line of a term.
use Rattle.std.proofs.Common.{◌≡◌, ℕ, List, [], ◌∷◌, ◌++◌, append_assoc}
use Rattle.om_io.specs.Lines.{line_text}
use Rattle.om_model.specs.TermText.{spaced}
use Rattle.om_model.proofs.TermWords.{join_spaced}

regroup : (front w m s v c bs e : List ℕ) → ((((((front ++ w) ++ m) ++ s) ++ v) ++ c) ++ bs) ++ e ≡ front ++ ((w ++ (m ++ (s ++ (v ++ (c ++ bs))))) ++ e)
regroup front w m s v c bs e = simp append_assoc

-- a word, four and more behind spaces, and a line feed
pub term_line : (front w m s v c : List ℕ) (bs : List (List ℕ)) → ((((((front ++ w) ++ 32 ∷ m) ++ 32 ∷ s) ++ 32 ∷ v) ++ 32 ∷ c) ++ spaced bs) ++ 10 ∷ [] ≡ front ++ line_text (w ∷ m ∷ s ∷ v ∷ c ∷ bs)
term_line front w m s v c bs = rw (join_spaced w (m ∷ s ∷ v ∷ c ∷ bs)) (regroup front w (32 ∷ m) (32 ∷ s) (32 ∷ v) (32 ∷ c) (spaced bs) (10 ∷ []))
