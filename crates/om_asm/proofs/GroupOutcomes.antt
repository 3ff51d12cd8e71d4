-- How the readers of each group of lines fare.
use Rattle.std.proofs.Common.{◌≡◌, ℕ, ◌+◌, ◌≤◌, ◌^◌, ◌⊎◌, eqb, Bool, true, false, cond, List, [], ◌∷◌, ◌++◌, length, codes, decimal, Option, Some, None, Result, Ok, Err, refl, sym, ap, subst, ◌∙◌, arith, inl, inr}
use Rattle.om_code.specs.declared.code.Instr.{Instr}
use Rattle.om_asm.specs.declared.fault.AsmKind.{AsmKind}
use Rattle.om_asm.specs.declared.fault.AsmKind.TheVariants.{Grammar}
use Rattle.om_io.specs.Lines.{Words}
use Rattle.om_asm.specs.Lines.{At, first_line}
use Rattle.om_asm.specs.Heads.{slots_of}
use Rattle.om_ring.specs.Spelt.{decimal_below}
use Rattle.om_asm.specs.Rows.{BadLine, bad, place, rows_from, at_line, behind, is_load, is_step, is_key, load_row, step_row, key_row, instrs_at}
use Rattle.om_ring.specs.ResultSteps.{◌>>=◌}
use Rattle.om_asm.specs.Program.{one_line, line_or_bad, slots_at}
use Rattle.om_asm.proofs.OneLine.{keyed_none}
use Rattle.om_asm.proofs.HeadsAgain.{keyed_again}
use Rattle.om_asm.proofs.WordLaws.{number_law}
use Rattle.om_asm.proofs.RowLaws.{with_row, no_row, Stops, stopped}
use Rattle.om_asm.proofs.Outcomes.{Beyond, AtEnd, Outcome, fails, stops, goes, Outcomes, made_of, one_by_one}

-- the first line of the shortest ending of a program: its slots or its end
abbrev pub Ends : List Words → Type 0
Ends [] = ⊥
Ends ([] ∷ ls) = ⊥
Ends ((w ∷ ws) ∷ ls) = (w ≡ codes "slots") ⊎ (w ≡ codes "end")

-- ---- rows of one kind

module _ {A : Type 0} where
  kept_beyond : (x : A) (k : ℕ) (r : Result (List A × At) BadLine) → Beyond k r → Beyond k (r >>= with_row x)
  kept_beyond x k (Ok y) h = h
  kept_beyond x k (Err e) h = h

  kept_end : (x : A) (k : ℕ) (r : Result (List A × At) BadLine) → AtEnd k r → AtEnd k (r >>= with_row x)
  kept_end x k (Ok y) h = h
  kept_end x k (Err e) h = h

  row_beyond : (n : ℕ) (b : Bool) (r : Result A AsmKind) (more : Result (List A × At) BadLine) (stop : At) → n ≤ stop.number → Beyond (n + 1) more → Beyond n (cond b (at_line n r >>= λ x. more >>= with_row x) (no_row stop))
  row_beyond n false r more stop le h = le
  row_beyond n true (Err k) more stop le h = omega arith
  row_beyond n true (Ok x) (Ok y) stop le h = omega arith
  row_beyond n true (Ok x) (Err e) stop le h = omega arith

module _ {A : Type 0} (starts : ℕ → List ℕ → Bool) (row_of : List ℕ → Words → Result A AsmKind) where
  -- no line of the shortest ending is of the kind
  pub record AvoidsEnds : Type 0 where
    pub slots : (count : ℕ) → starts count (codes "slots") ≡ false
    pub ends : (count : ℕ) → starts count (codes "end") ≡ false

  abbrev rows : ℕ → At → Result (List A × At) BadLine
  rows count a = rows_from starts row_of count a.number a.lines

  ends_stop : AvoidsEnds → (ls : List Words) → Ends ls → Stops starts ls
  ends_stop a [] h = absurd h
  ends_stop a ([] ∷ ls) h = absurd h
  ends_stop a ((w ∷ ws) ∷ ls) (inl e) = λ count. ap (starts count) e ∙ a.slots count
  ends_stop a ((w ∷ ws) ∷ ls) (inr e) = λ count. ap (starts count) e ∙ a.ends count

  rows_beyond : (count n : ℕ) (ls : List Words) → Beyond n (rows_from starts row_of count n ls)
  unfolding rows_from
  rows_beyond count n [] = omega arith
  rows_beyond count n ([] ∷ ls) = omega arith
  rows_beyond count n ((w ∷ ws) ∷ ls) = row_beyond n (starts count w) (row_of w ws) (rows_from starts row_of (count + 1) (n + 1) ls) (place n ((w ∷ ws) ∷ ls)) (omega arith) (rows_beyond (count + 1) (n + 1) ls)

  none_left : (count n : ℕ) → rows_from starts row_of count n [] ≡ no_row (place n [])
  unfolding rows_from
  none_left count n = refl

  no_words : (count n : ℕ) (ls : List Words) → rows_from starts row_of count n ([] ∷ ls) ≡ no_row (place n ([] ∷ ls))
  unfolding rows_from
  no_words count n ls = refl

  module _ (count n : ℕ) (w : List ℕ) (ws : Words) where
    other_row : (ls : List Words) → starts count w ≡ false → rows_from starts row_of count n ((w ∷ ws) ∷ ls) ≡ no_row (place n ((w ∷ ws) ∷ ls))
    unfolding rows_from
    other_row ls s = rw s refl

    bad_row : (ls : List Words) (k : AsmKind) → starts count w ≡ true → row_of w ws ≡ Err k → rows_from starts row_of count n ((w ∷ ws) ∷ ls) ≡ Err (bad n k)
    unfolding rows_from
    bad_row ls k s e = rw (s, e) refl

    next_row : (ls : List Words) (x : A) → starts count w ≡ true → row_of w ws ≡ Ok x → rows_from starts row_of count n ((w ∷ ws) ∷ ls) ≡ (rows_from starts row_of (count + 1) (n + 1) ls >>= with_row x)
    unfolding rows_from
    next_row ls x s e = rw (s, e) refl

    one_more : (fs : List Words) (b : Bool) (r : Result A AsmKind) → starts count w ≡ b → row_of w ws ≡ r → Outcome (rows (count + 1)) Ends Ends (n + 1) fs → Outcome (rows count) Ends Ends n ((w ∷ ws) ∷ fs)
    one_more fs false r s e o = stops [] n ((w ∷ ws) ∷ fs) (omega arith) (omega arith) refl (λ ls. other_row (fs ++ ls) s)
    one_more fs true (Err k) s e o = fails (bad n k) (omega arith) (omega arith) (λ ls. bad_row (fs ++ ls) k s e)
    one_more fs true (Ok x) s e (fails d l u h) = fails d (omega arith) (omega arith) (λ ls. next_row (fs ++ ls) x s e ∙ ap (λ r. r >>= with_row x) (h ls))
    one_more fs true (Ok x) s e (stops xs m back b l u h) = stops (x ∷ xs) m back b (omega arith) (omega arith) (λ ls. next_row (fs ++ ls) x s e ∙ ap (λ r. r >>= with_row x) (h ls))
    one_more fs true (Ok x) s e (goes xs more ends h beyond last) =
        let at : n + 1 + length fs ≡ n + length ((w ∷ ws) ∷ fs) = omega arith in
        goes (x ∷ xs) more (λ none. absurd cc)
        (λ ls f. next_row (fs ++ (more ++ ls)) x s e ∙ ap (λ r. r >>= with_row x) (h ls f) ∙ ap (λ k. with_row x (xs, place (k + length more) ls)) at)
        (λ ls. subst (λ r. Beyond (n + length ((w ∷ ws) ∷ fs)) r) (sym (next_row (fs ++ ls) x s e)) (kept_beyond x (n + length ((w ∷ ws) ∷ fs)) (rows (count + 1) (place (n + 1) (fs ++ ls))) (subst (λ k. Beyond k (rows (count + 1) (place (n + 1) (fs ++ ls)))) at (beyond ls))))
        (subst (λ r. AtEnd (n + length ((w ∷ ws) ∷ fs)) r) (sym (next_row (fs ++ []) x s e)) (kept_end x (n + length ((w ∷ ws) ∷ fs)) (rows (count + 1) (place (n + 1) (fs ++ []))) (subst (λ k. AtEnd k (rows (count + 1) (place (n + 1) (fs ++ [])))) at last)))

  pub rows_outcome : AvoidsEnds → (count : ℕ) → Outcomes (λ a. rows_from starts row_of count a.number a.lines) Ends Ends
  rows_outcome a count n [] =
      let at : n ≡ n + 0 = omega arith in
      goes [] [] (λ none ls h. h)
      (λ ls h. stopped starts row_of (λ _. []) count n ls (ends_stop a ls h) ∙ ap (λ k. no_row (place k ls)) (let e : n ≡ n + 0 + 0 = omega arith in e))
      (λ ls. subst (λ k. Beyond k (rows count (place n ls))) at (rows_beyond count n ls))
      (subst (λ r. AtEnd (n + 0) r) (sym (none_left count n)) (ap (λ k. place k []) at))
  rows_outcome a count n ([] ∷ fs) = stops [] n ([] ∷ fs) (omega arith) (omega arith) refl (λ ls. no_words count n (fs ++ ls))
  rows_outcome a count n ((w ∷ ws) ∷ fs) = one_more count n w ws fs (starts count w) (row_of w ws) refl refl (rows_outcome a (count + 1) (n + 1) fs)

-- ---- a line that has to stand at its place

module _ {A : Type 0} (read : Words → Option A) (x0 : A) (l0 : Words) (leads fits : List Words → Type 0) where
  abbrev said : Option A → ℕ → List Words → Result (A × At) BadLine
  said o n ls = line_or_bad o (place n ls)

  line_beyond : (o : Option A) (n : ℕ) (ls : List Words) → Beyond n (said o n ls)
  line_beyond (Some x) n ls = omega arith
  line_beyond None n ls = omega arith

  pub line_outcome : read [] ≡ None → read l0 ≡ Some x0 → ((ls : List Words) → fits ls → leads (l0 ∷ ls)) → Outcomes (one_line read) leads fits
  line_outcome none first lead n [] =
      goes x0 (l0 ∷ []) (λ _ ls f. lead ls f)
      (λ ls f. ap (λ o. said o n (l0 ∷ ls)) first ∙ ap (λ k. let y : A × At = (x0, place k ls) in Ok y) (let e : n + 1 ≡ n + 0 + 1 = omega arith in e))
      (λ ls. subst (λ k. Beyond k (one_line read (place n ls))) (let e : n ≡ n + 0 = omega arith in e) (line_beyond (read (first_line ls)) n ls))
      (subst (λ o. AtEnd (n + 0) (said o n [])) (sym none) (let e : n ≡ n + 0 = omega arith in e))
  line_outcome none first lead n (l ∷ fs) = by (read l) fs refl
    where
      by : (o : Option A) (fs : List Words) → read l ≡ o → Outcome (one_line read) leads fits n (l ∷ fs)
      by None fs e = fails (bad n Grammar) (omega arith) (omega arith) (λ ls. ap (λ o. said o n (l ∷ (fs ++ ls))) e)
      by (Some x) [] e =
          goes x [] (λ empty. absurd cc)
          (λ ls f. ap (λ o. said o n (l ∷ ls)) e ∙ ap (λ k. let y : A × At = (x, place k ls) in Ok y) (let g : n + 1 ≡ n + 1 + 0 = omega arith in g))
          (λ ls. subst (λ o. Beyond (n + 1) (said o n (l ∷ ls))) (sym e) (omega arith))
          (subst (λ o. AtEnd (n + 1) (said o n (l ∷ []))) (sym e) refl)
      by (Some x) (f ∷ fs) e = stops x (n + 1) (f ∷ fs) (omega arith) (omega arith) (omega arith) (λ ls. ap (λ o. said o n (l ∷ ((f ∷ fs) ++ ls))) e)

-- ---- slots

no_line : Outcomes (λ a. let y : ℕ × At = (0, a) in let r : Result (ℕ × At) BadLine = Ok y in r) Ends Ends
no_line n [] =
    goes 0 [] (λ none ls h. h)
    (λ ls h. ap (λ k. let y : ℕ × At = (0, place k ls) in Ok y) (let e : n ≡ n + 0 + 0 = omega arith in e))
    (λ ls. omega arith)
    (ap (λ k. place k []) (let e : n ≡ n + 0 = omega arith in e))
no_line n (l ∷ fs) = stops 0 n (l ∷ fs) (omega arith) (omega arith) refl (λ ls. refl)

pub slots_outcome : (version : ℕ) → Outcomes (slots_at version) Ends Ends
slots_outcome version = by (eqb version 1)
  where
    by : (b : Bool) → Outcomes (λ a. cond b (let y : ℕ × At = (0, a) in Ok y) (one_line slots_of a)) Ends Ends
    by true = no_line
    by false = line_outcome slots_of 0 (codes "slots" ∷ decimal 0 ∷ []) Ends Ends (keyed_none (codes "slots") (decimal_below (2 ^ 32))) (keyed_again (codes "slots") (decimal_below (2 ^ 32)) (decimal 0) 0 ((number_law (2 ^ 32) (omega arith)).again 0 (omega arith))) (λ ls f. inl refl)

-- ---- instructions

steps_behind : (front : List Instr) → Outcomes (λ a. behind front (rows_from (λ _ w. is_step w) step_row (length front) a.number a.lines)) Ends Ends
steps_behind front = made_of (λ a. rows_from (λ _ w. is_step w) step_row (length front) a.number a.lines) (λ (is : List Instr). front ++ is) Ends Ends (rows_outcome (λ _ w. is_step w) step_row (record { slots = λ _. refl; ends = λ _. refl }) (length front))

keys_behind : (front : List Instr) → Outcomes (λ a. behind front (rows_from (λ _ w. is_key w) key_row (length front) a.number a.lines)) Ends Ends
keys_behind front = made_of (λ a. rows_from (λ _ w. is_key w) key_row (length front) a.number a.lines) (λ (is : List Instr). front ++ is) Ends Ends (rows_outcome (λ _ w. is_key w) key_row (record { slots = λ _. refl; ends = λ _. refl }) (length front))

abbrev pub from_steps : List Instr → At → Result (List Instr × At) BadLine
from_steps loads a = behind loads (rows_from (λ _ w. is_step w) step_row (length loads) a.number a.lines) >>= λ steps. behind steps.0 (rows_from (λ _ w. is_key w) key_row (length steps.0) steps.1.number steps.1.lines)

pub instrs_outcome : (version : ℕ) → Outcomes (instrs_at version) Ends Ends
unfolding instrs_at
instrs_outcome version =
    one_by_one (λ a. rows_from (λ _ w. is_load w) (load_row version) 0 a.number a.lines) from_steps Ends Ends Ends
    (rows_outcome (λ _ w. is_load w) (load_row version) (record { slots = λ _. refl; ends = λ _. refl }) 0)
    (λ loads. one_by_one (λ a. behind loads (rows_from (λ _ w. is_step w) step_row (length loads) a.number a.lines)) (λ steps a. behind steps (rows_from (λ _ w. is_key w) key_row (length steps) a.number a.lines)) Ends Ends Ends (steps_behind loads) keys_behind)
