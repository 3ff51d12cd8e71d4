-- Lines of one kind: what is read is what stands there, and what stands there is read.
use Rattle.std.proofs.Common.{◌≡◌, ℕ, ◌+◌, Bool, true, false, cond, List, [], ◌∷◌, ◌++◌, length, map, Option, Some, None, Result, Ok, Err, refl, ap, ap₂, subst, ◌∙◌, arith}
use Rattle.std.specs.List.{AllByRecursion}
use Rattle.om_asm.specs.declared.fault.AsmKind.{AsmKind}
use Rattle.om_io.specs.Lines.{Words}
use Rattle.om_asm.specs.Lines.{At}
use Rattle.om_asm.specs.Rows.{BadLine, place, rows_from, at_line, formed}
use Rattle.om_ring.specs.ResultSteps.{◌>>=◌}

pub bind_ok : {A B F : Type 0} (r : Result A F) (f : A → Result B F) (y : B) → (r >>= f) ≡ Ok y → (x : A) × (r ≡ Ok x) × (f x ≡ Ok y)
bind_ok (Ok x) f y e = (x, refl, e)
bind_ok (Err d) f y e = absurd cc

pub formed_ok : {A : Type 0} (o : Option A) (x : A) → formed o ≡ Ok x → o ≡ Some x
formed_ok (Some y) x e = cc
formed_ok None x e = cc

at_line_ok : {A : Type 0} (number : ℕ) (r : Result A AsmKind) (x : A) → at_line number r ≡ Ok x → r ≡ Ok x
at_line_ok number (Ok y) x e = cc
at_line_ok number (Err k) x e = absurd cc

abbrev pub with_row : {A : Type 0} → A → List A × At → Result (List A × At) BadLine
with_row x ys = Ok (x ∷ ys.0, ys.1)

abbrev pub no_row : {A : Type 0} → At → Result (List A × At) BadLine
no_row a = Ok ([], a)

abbrev done : {B : Type 0} → B → Result B BadLine
done x = Ok x

ok_is : {B : Type 0} (x y : B) → done x ≡ done y → x ≡ y
ok_is x y e = cc

module _ {A : Type 0} (starts : ℕ → List ℕ → Bool) (row_of : List ℕ → Words → Result A AsmKind) (words : A → Words) (fits : A → Type 0) where
  -- what a line of the kind says is what it spells
  abbrev pub RowsFound : Type 0
  RowsFound = (count : ℕ) (w : List ℕ) (ws : Words) (x : A) → starts count w ≡ true → row_of w ws ≡ Ok x → (w ∷ ws ≡ words x) × fits x

  -- rows, and the lines behind them
  pub record AreRows (lines : List Words) (xs : List A) (rest : List Words) : Type 0 where
    pub parts : lines ≡ map words xs ++ rest
    pub fit : AllByRecursion fits xs

  by_test : (law : RowsFound) (count number : ℕ) (w : List ℕ) (ws : Words) (ls : List Words) (b : Bool) → starts count w ≡ b
      → ((ys : List A) (then : At) → rows_from starts row_of (count + 1) (number + 1) ls ≡ Ok (ys, then) → AreRows ls ys then.lines)
      → (xs : List A) (now : At) → cond b (at_line number (row_of w ws) >>= λ x. rows_from starts row_of (count + 1) (number + 1) ls >>= with_row x) (no_row (place number ((w ∷ ws) ∷ ls))) ≡ Ok (xs, now) → AreRows ((w ∷ ws) ∷ ls) xs now.lines
  by_test law count number w ws ls false s ih xs now e =
      let none : List A × At = ([], place number ((w ∷ ws) ∷ ls)) in
      let same : none ≡ (xs, now) = ok_is none (xs, now) e in
      subst (λ (p : List A × At). AreRows ((w ∷ ws) ∷ ls) p.0 p.1.lines) same (record { parts = refl; fit = tt })
  by_test law count number w ws ls true s ih xs now e =
      let a = bind_ok (at_line number (row_of w ws)) (λ x. rows_from starts row_of (count + 1) (number + 1) ls >>= with_row x) (xs, now) e in
      let b = bind_ok (rows_from starts row_of (count + 1) (number + 1) ls) (with_row a.0) (xs, now) a.2 in
      let row = law count w ws a.0 s (at_line_ok number (row_of w ws) a.0 a.1) in
      let more = ih b.0.0 b.0.1 b.1 in
      let all : List A × At = (a.0 ∷ b.0.0, b.0.1) in
      let same : all ≡ (xs, now) = ok_is all (xs, now) b.2 in
      subst (λ (p : List A × At). AreRows ((w ∷ ws) ∷ ls) p.0 p.1.lines) same (record { parts = ap₂ (λ (l : Words) (m : List Words). l ∷ m) row.0 more.parts; fit = (row.1, more.fit) })

  nothing_read : (number : ℕ) (lines : List Words) (xs : List A) (now : At) → no_row (place number lines) ≡ Ok (xs, now) → AreRows lines xs now.lines
  nothing_read number lines xs now e =
      let none : List A × At = ([], place number lines) in
      let same : none ≡ (xs, now) = ok_is none (xs, now) e in
      subst (λ (p : List A × At). AreRows lines p.0 p.1.lines) same (record { parts = refl; fit = tt })

  pub rows_found : (law : RowsFound) (count number : ℕ) (lines : List Words) (xs : List A) (now : At) → rows_from starts row_of count number lines ≡ Ok (xs, now) → AreRows lines xs now.lines
  unfolding rows_from
  rows_found law count number [] xs now e = nothing_read number [] xs now e
  rows_found law count number ([] ∷ ls) xs now e = nothing_read number ([] ∷ ls) xs now e
  rows_found law count number ((w ∷ ws) ∷ ls) xs now e = by_test law count number w ws ls (starts count w) refl (λ ys then f. rows_found law (count + 1) (number + 1) ls ys then f) xs now e

-- the next line is of another kind
abbrev pub Stops : (ℕ → List ℕ → Bool) → List Words → Type 0
Stops starts [] = Unit {0}
Stops starts ([] ∷ ls) = Unit {0}
Stops starts ((w ∷ ws) ∷ ls) = (count : ℕ) → starts count w ≡ false

module _ {A : Type 0} (starts : ℕ → List ℕ → Bool) (row_of : List ℕ → Words → Result A AsmKind) (words : A → Words) where
  -- a row's line is of the kind and says the row, where so many lines stand before
  pub record RowAgain (count : ℕ) (x : A) : Type 0 where
    pub w : List ℕ
    pub ws : Words
    pub line : words x ≡ w ∷ ws
    pub start : starts count w ≡ true
    pub says : row_of w ws ≡ Ok x

  pub stopped : (count number : ℕ) (rest : List Words) → Stops starts rest → rows_from starts row_of count number rest ≡ no_row (place number rest)
  unfolding rows_from
  stopped count number [] h = refl
  stopped count number ([] ∷ ls) h = refl
  stopped count number ((w ∷ ws) ∷ ls) h = rw (h count) refl

  one_again : (count number : ℕ) (x : A) (ls : List Words) (xs : List A) (then : At) → RowAgain count x → rows_from starts row_of (count + 1) (number + 1) ls ≡ Ok (xs, then) → rows_from starts row_of count number (words x ∷ ls) ≡ with_row x (xs, then)
  unfolding rows_from
  one_again count number x ls xs then r e = rw (r.line, r.start, r.says, e) refl

  -- each row is read again, where `count` stand before
  abbrev pub AllAgain : ℕ → List A → Type 0
  AllAgain count [] = Unit {0}
  AllAgain count (x ∷ xs) = RowAgain count x × AllAgain (count + 1) xs

  pub rows_again : (count number : ℕ) (xs : List A) (rest : List Words) → AllAgain count xs → Stops starts rest → rows_from starts row_of count number (map words xs ++ rest) ≡ Ok (xs, place (number + length xs) rest)
  rows_again count number [] rest h s = stopped count number rest s ∙ ap (λ k. no_row (place k rest)) (let e : number ≡ number + 0 = omega arith in e)
  rows_again count number (x ∷ xs) rest h s =
      one_again count number x (map words xs ++ rest) xs (place (number + 1 + length xs) rest) h.0 (rows_again (count + 1) (number + 1) xs rest h.1 s)
      ∙ ap (λ k. with_row x (xs, place k rest)) (let e : number + 1 + length xs ≡ number + length (x ∷ xs) = omega arith in e)
