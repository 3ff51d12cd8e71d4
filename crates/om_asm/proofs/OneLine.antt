-- A line that stands at its place.
use Rattle.std.proofs.Common.{◌≡◌, ℕ, List, [], ◌∷◌, drop, Option, Some, None, Ok, refl, sym, ap, ◌∙◌}
use Rattle.om_io.specs.Lines.{Words}
use Rattle.om_asm.specs.Lines.{At, first_line, Advances}
use Rattle.om_asm.specs.Heads.{keyed, end_of}
use Rattle.om_asm.specs.Program.{one_line, line_or_bad}

first_words : (lines : List Words) (A : Type 0) (read : Words → Option A) (x : A) → read [] ≡ None → read (first_line lines) ≡ Some x → (w : List ℕ) × (ws : Words) × (lines ≡ (w ∷ ws) ∷ drop 1 lines)
first_words [] A read x n e = cc
first_words ([] ∷ ls) A read x n e = cc
first_words ((w ∷ ws) ∷ ls) A read x n e = (w, ws, refl)

-- the line was read and passed
pub line_passed : {A : Type 0} (read : Words → Option A) (x : A) (a now : At) → read [] ≡ None → read (first_line a.lines) ≡ Some x → Advances a now → one_line read a ≡ Ok (x, now)
line_passed {A} read x a now n e p =
    let f = first_words a.lines A read x n e in
    ap (λ (o : Option A). line_or_bad o a) e ∙ ap (λ (b : At). Ok (x, b)) (sym (p f.0 f.1 (drop 1 a.lines) f.2))

pub keyed_none : {A : Type 0} (key : List ℕ) (read : List ℕ → Option A) → keyed key read [] ≡ None
unfolding keyed
keyed_none key read = refl

pub end_none : end_of [] ≡ None
unfolding end_of
end_none = refl
