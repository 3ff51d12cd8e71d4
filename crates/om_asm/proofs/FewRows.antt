-- Rows of which only so many are read.
use Rattle.std.proofs.Common.{◌≡◌, ℕ, ◌+◌, ◌≤◌, ltb, Bool, true, false, cond, ◌&&◌, List, [], ◌∷◌, length, Result, Ok, Err, refl, ap, arith}
use Rattle.std.specs.Prelude.{IfOk}
use Rattle.std.proofs.lemmas.Bool.{ltb-true}
use Rattle.om_asm.specs.declared.fault.AsmKind.{AsmKind}
use Rattle.om_asm.specs.declared.fault.AsmFault.{AsmFault}
use Rattle.om_io.specs.Lines.{Words}
use Rattle.om_asm.specs.Lines.{At}
use Rattle.om_asm.specs.Rows.{BadLine, place, rows_from, at_line, GivesAt}
use Rattle.om_ring.specs.ResultSteps.{◌>>=◌}
use Rattle.om_code.specs.declared.code.TheConstants.{MOST_PARTICLE_LINES}

is_less : (a b : Bool) → (a && b) ≡ true → b ≡ true
is_less true b e = e
is_less false b e = cc

module _ {A : Type 0} where
  -- at most so many rows behind `count`
  abbrev pub AreFew : ℕ → Result (List A × At) BadLine → Type 0
  AreFew count said = IfOk said (λ x. count + length x.0 ≤ MOST_PARTICLE_LINES)

  one_more : (count : ℕ) (x : A) (said : Result (List A × At) BadLine) → AreFew (count + 1) said → AreFew count (said >>= λ ys. Ok (x ∷ ys.0, ys.1))
  one_more count x (Ok ys) h = omega arith
  one_more count x (Err e) h = tt

  this_row : (count : ℕ) (here : Result A BadLine) (said : Result (List A × At) BadLine) → AreFew (count + 1) said → AreFew count (here >>= λ x. said >>= λ ys. Ok (x ∷ ys.0, ys.1))
  this_row count (Ok x) said h = one_more count x said h
  this_row count (Err e) said h = tt

  choice : (count : ℕ) (b : Bool) (here : Result A BadLine) (said : Result (List A × At) BadLine) (stop : At) → count ≤ MOST_PARTICLE_LINES → (b ≡ true → AreFew (count + 1) said) → AreFew count (cond b (here >>= λ x. said >>= λ ys. Ok (x ∷ ys.0, ys.1)) (Ok ([], stop)))
  choice count true here said stop h few = this_row count here said (few refl)
  choice count false here said stop h few = omega arith

module _ {A : Type 0} (test : List ℕ → Bool) (row_of : List ℕ → Words → Result A AsmKind) where
  pub few_rows : (count number : ℕ) (lines : List Words) → count ≤ MOST_PARTICLE_LINES → AreFew count (rows_from (λ c w. test w && ltb c MOST_PARTICLE_LINES) row_of count number lines)
  unfolding rows_from
  few_rows count number [] h = omega arith
  few_rows count number ([] ∷ ls) h = omega arith
  few_rows count number ((w ∷ ws) ∷ ls) h =
      choice count (test w && ltb count MOST_PARTICLE_LINES) (at_line number (row_of w ws)) (rows_from (λ c w. test w && ltb c MOST_PARTICLE_LINES) row_of (count + 1) (number + 1) ls) (place number ((w ∷ ws) ∷ ls)) h
      (λ e. let lt = ltb-true count MOST_PARTICLE_LINES (is_less (test w) (ltb count MOST_PARTICLE_LINES) e) in few_rows (count + 1) (number + 1) ls (omega arith))

  answered : (said : Result (List A × At) BadLine) (result : Result (List A) AsmFault) (now : At) → AreFew 0 said → GivesAt said result now → IfOk result (λ xs. length xs ≤ MOST_PARTICLE_LINES)
  answered said (Ok xs) now few g = few_said said few g
    where
      few_said : (r : Result (List A × At) BadLine) → AreFew 0 r → r ≡ Ok (xs, now) → length xs ≤ MOST_PARTICLE_LINES
      few_said (Ok y) f e = let same : y ≡ (xs, now) = cc in omega (arith, ap (λ (p : List A × At). length p.0) same, f)
      few_said (Err d) f e = cc
  answered said (Err d) now few g = tt

  pub few_answered : (number : ℕ) (lines : List Words) (result : Result (List A) AsmFault) (now : At) → GivesAt (rows_from (λ c w. test w && ltb c MOST_PARTICLE_LINES) row_of 0 number lines) result now → IfOk result (λ xs. length xs ≤ MOST_PARTICLE_LINES)
  few_answered number lines result now g = answered (rows_from (λ c w. test w && ltb c MOST_PARTICLE_LINES) row_of 0 number lines) result now (few_rows 0 number lines (omega arith)) g
