-- Readers of lines that look at no line behind the first bad one.
--
-- A reader that finds some lines in front, and others behind them, either fails in front, or stops in front, or goes on
-- behind; which of these it does depends on the lines in front alone. Where it goes on, some more lines let it end.
use Rattle.std.proofs.Common.{◌≡◌, ℕ, ◌+◌, ◌<◌, ◌≤◌, List, [], ◌++◌, length, Result, Ok, Err, refl, sym, ap, subst, ◌∙◌, arith, append_assoc}
use Rattle.std.proofs.lemmas.List.{length-append}
use Rattle.om_io.specs.Lines.{Words}
use Rattle.om_asm.specs.Lines.{At}
use Rattle.om_asm.specs.Rows.{BadLine, place}
use Rattle.om_ring.specs.ResultSteps.{◌>>=◌}

-- what is read ends behind a line, or is bad there
abbrev pub Beyond : {A : Type 0} → ℕ → Result (A × At) BadLine → Type 0
Beyond line (Ok y) = line ≤ y.1.number
Beyond line (Err e) = line ≤ e.line

-- what is read ends where no line is left, or a line is missing there
abbrev pub AtEnd : {A : Type 0} → ℕ → Result (A × At) BadLine → Type 0
AtEnd line (Ok y) = y.1 ≡ place line []
AtEnd line (Err e) = e.line ≡ line

-- `fits` says which lines may follow, and `leads` what they become where the reader finds none in front
pub data Outcome {A : Type 0} (read : At → Result (A × At) BadLine) (leads fits : List Words → Type 0) (n : ℕ) (front : List Words) : Type 0 where
  fails : (e : BadLine) → n ≤ e.line → e.line < n + length front → ((ls : List Words) → read (place n (front ++ ls)) ≡ Err e) → Outcome read leads fits n front
  stops : (x : A) (m : ℕ) (back : List Words) → 1 ≤ length back → n ≤ m → m + length back ≡ n + length front → ((ls : List Words) → read (place n (front ++ ls)) ≡ Ok (x, place m (back ++ ls))) → Outcome read leads fits n front
  goes : (x : A) (more : List Words) → (front ≡ [] → (ls : List Words) → fits ls → leads (more ++ ls)) → ((ls : List Words) → fits ls → read (place n (front ++ (more ++ ls))) ≡ Ok (x, place (n + length front + length more) ls))
      → ((ls : List Words) → Beyond (n + length front) (read (place n (front ++ ls)))) → AtEnd (n + length front) (read (place n (front ++ []))) → Outcome read leads fits n front

abbrev pub Outcomes : {A : Type 0} → (At → Result (A × At) BadLine) → (List Words → Type 0) → (List Words → Type 0) → Type 0
Outcomes read leads fits = (n : ℕ) (front : List Words) → Outcome read leads fits n front

-- ---- a value made of what is read

module _ {A B : Type 0} (read : At → Result (A × At) BadLine) (f : A → B) (leads fits : List Words → Type 0) where
  abbrev made : Result (A × At) BadLine → Result (B × At) BadLine
  made r = r >>= λ y. Ok (f y.0, y.1)

  made_beyond : (m : ℕ) (r : Result (A × At) BadLine) → Beyond m r → Beyond m (made r)
  made_beyond m (Ok y) h = h
  made_beyond m (Err e) h = h

  made_end : (m : ℕ) (r : Result (A × At) BadLine) → AtEnd m r → AtEnd m (made r)
  made_end m (Ok y) h = h
  made_end m (Err e) h = h

  pub made_of : Outcomes read leads fits → Outcomes (λ a. made (read a)) leads fits
  made_of o n front = by (o n front)
    where
      by : Outcome read leads fits n front → Outcome (λ a. made (read a)) leads fits n front
      by (fails e l u h) = fails e l u (λ ls. ap made (h ls))
      by (stops x m back b l u h) = stops (f x) m back b l u (λ ls. ap made (h ls))
      by (goes x more ends h beyond last) = goes (f x) more ends (λ ls g. ap made (h ls g)) (λ ls. made_beyond (n + length front) (read (place n (front ++ ls))) (beyond ls)) (made_end (n + length front) (read (place n (front ++ []))) last)

-- ---- one reader after another

module _ {A B : Type 0} (read : At → Result (A × At) BadLine) (next : A → At → Result (B × At) BadLine) (leads mid fits : List Words → Type 0) where
  abbrev then : Result (A × At) BadLine → Result (B × At) BadLine
  then r = r >>= λ y. next y.0 y.1

  abbrev both : At → Result (B × At) BadLine
  both a = then (read a)

  -- what a reader that finds no line in front does
  record Opens (x : A) (n : ℕ) : Type 0 where
    value : B
    more : List Words
    ends : (ls : List Words) → fits ls → mid (more ++ ls)
    law : (ls : List Words) → fits ls → next x (place n (more ++ ls)) ≡ Ok (value, place (n + length more) ls)
    beyond : (ls : List Words) → Beyond n (next x (place n ls))
    last : AtEnd n (next x (place n []))

  opens : ((x : A) → Outcomes (next x) mid fits) → (x : A) (n : ℕ) → Opens x n
  opens o x n = by (o x n [])
    where
      here : n + 0 ≡ n
      here = omega arith

      by : Outcome (next x) mid fits n [] → Opens x n
      by (fails e l u h) = absurd (omega arith)
      by (stops y m back b l u h) = absurd (omega arith)
      by (goes y more ends h beyond last) = record {
        value = y;
        more = more;
        ends = ends refl;
        law = λ ls g. h ls g ∙ ap (λ k. let z : B × At = (y, place (k + length more) ls) in Ok z) here;
        beyond = λ ls. subst (λ k. Beyond k (next x (place n ls))) here (beyond ls);
        last = subst (λ k. AtEnd k (next x (place n []))) here last;
      }

  from_further : (k m : ℕ) (r : Result (B × At) BadLine) → k ≤ m → Beyond m r → Beyond k r
  from_further k m (Ok y) le h = omega arith
  from_further k m (Err e) le h = omega arith

  then_beyond : ((x : A) → Outcomes (next x) mid fits) → (k : ℕ) (r : Result (A × At) BadLine) → Beyond k r → Beyond k (then r)
  then_beyond o k (Ok y) h = from_further k y.1.number (next y.0 y.1) h ((opens o y.0 y.1.number).beyond y.1.lines)
  then_beyond o k (Err e) h = h

  then_last : ((x : A) → Outcomes (next x) mid fits) → (k : ℕ) (r : Result (A × At) BadLine) → AtEnd k r → AtEnd k (then r)
  then_last o k (Ok y) h = subst (λ (a : At). AtEnd k (next y.0 a)) (sym h) ((opens o y.0 k).last)
  then_last o k (Err e) h = h

  regroup : (front a b ls : List Words) → front ++ ((a ++ b) ++ ls) ≡ front ++ (a ++ (b ++ ls))
  regroup front a b ls = ap (λ (l : List Words). front ++ l) (append_assoc a b ls)

  abbrev a_line : B → ℕ → List Words → Result (B × At) BadLine
  a_line y k ls = Ok (y, place k ls)

  pub one_by_one : Outcomes read leads mid → ((x : A) → Outcomes (next x) mid fits) → Outcomes both leads fits
  one_by_one o p n front = first (o n front)
    where
      second : (x : A) (m : ℕ) (back : List Words) → 1 ≤ length back → n ≤ m → m + length back ≡ n + length front → ((ls : List Words) → read (place n (front ++ ls)) ≡ Ok (x, place m (back ++ ls))) → Outcome (next x) mid fits m back → Outcome both leads fits n front
      second x m back b l u h (fails e k v g) = fails e (omega arith) (omega arith) (λ ls. ap then (h ls) ∙ g ls)
      second x m back b l u h (stops y i rest c k v g) = stops y i rest c (omega arith) (omega arith) (λ ls. ap then (h ls) ∙ g ls)
      second x m back b l u h (goes y more ends g beyond last) = goes y more
          (λ none. absurd (omega (arith, ap length none)))
          (λ ls f. ap then (h (more ++ ls)) ∙ g ls f ∙ ap (λ k. a_line y (k + length more) ls) u)
          (λ ls. subst (λ r. Beyond (n + length front) r) (sym (ap then (h ls))) (subst (λ k. Beyond k (next x (place m (back ++ ls)))) u (beyond ls)))
          (subst (λ r. AtEnd (n + length front) r) (sym (ap then (h []))) (subst (λ k. AtEnd k (next x (place m (back ++ [])))) u last))

      first : Outcome read leads mid n front → Outcome both leads fits n front
      first (fails e l u h) = fails e l u (λ ls. ap then (h ls))
      first (stops x m back b l u h) = second x m back b l u h (p x m back)
      first (goes x more ends h beyond last) =
          let q = opens p x (n + length front + length more) in
          goes q.value (more ++ q.more)
          (λ none ls f. subst leads (sym (append_assoc more q.more ls)) (ends none (q.more ++ ls) (q.ends ls f)))
          (λ ls f. ap (λ (l : List Words). both (place n l)) (regroup front more q.more ls) ∙ ap then (h (q.more ++ ls) (q.ends ls f)) ∙ q.law ls f
          ∙ ap (λ k. a_line q.value k ls) (let e : n + length front + length more + length q.more ≡ n + length front + length (more ++ q.more) = omega (arith, length-append more q.more) in e))
          (λ ls. then_beyond p (n + length front) (read (place n (front ++ ls))) (beyond ls))
          (then_last p (n + length front) (read (place n (front ++ []))) last)
