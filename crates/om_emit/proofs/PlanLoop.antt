-- The loop that makes the plan.
use Rattle.std.proofs.Common.{◌≡◌, ℕ, zero, suc, ◌+◌, ◌<◌, ◌≤◌, List, [], ◌∷◌, ◌++◌, inl, inr, length, get_or, true, refl, sym, ◌∙◌, ap, ap₂, subst, arith, add-one}
use Rattle.std.specs.Prelude.{All}
use Rattle.std.specs.List.{concat}
use Rattle.std.proofs.lemmas.List.{length-map, get_or_append_left}
use Rattle.om_ring.specs.Members.{In}
use Rattle.om_code.specs.Spans.{is_named}
use Rattle.om_code.specs.declared.code.Instr.{Instr}
use Rattle.om_code.specs.Ops.{registers_of, lines_of_code}
use Rattle.om_emit.specs.Planning.{Planning, give_slots, free_slots, planned, last_uses}
use Rattle.om_legs.specs.BranchNodes.{mark_each}
use Rattle.om_ring.proofs.Members.{in_from_member, member_from_in}
use Rattle.om_code.proofs.SpanFacts.{line_after, after_named}
use Rattle.om_emit.proofs.PlanningSteps.{line_at}

in_at : (xs : List ℕ) (k d : ℕ) → k < length xs → In (get_or xs k d) xs
in_at [] k d l = absurd (omega arith)
in_at (x ∷ xs) zero d l = inl refl
in_at (x ∷ xs) (suc k) d l = inr (in_at xs k d (omega arith))

pub all_in : (P : ℕ → Type 0) (xs : List ℕ) → ((r : ℕ) → In r xs → P r) → All P xs
all_in P xs h k d l = h (get_or xs k d) (in_at xs k d l)

pub named_is : (lines : List (List ℕ)) (r : ℕ) → In r (concat lines) → is_named lines r ≡ true
unfolding is_named
named_is lines r i = member_from_in (concat lines) r i

pub in_is : (lines : List (List ℕ)) (r : ℕ) → is_named lines r ≡ true → In r (concat lines)
unfolding is_named
in_is lines r h = in_from_member (concat lines) r h

pub length_lines : (instrs : List Instr) → length (lines_of_code instrs) ≡ length instrs
length_lines instrs = length-map instrs registers_of

module _ (instrs : List Instr) (n : ℕ) (small : (r : ℕ) → is_named (lines_of_code instrs) r ≡ true → r < n) where
  pub named_small : (r : ℕ) → In r (concat (lines_of_code instrs)) → r < n
  named_small r i = small r (named_is (lines_of_code instrs) r i)

  register_small : (i r : ℕ) (x : Instr) → i < length instrs → x ≡ get_or instrs i x → In r (registers_of x) → r < n
  register_small i r x l e j =
      let m : i < length (lines_of_code instrs) = omega (arith, length_lines instrs) in
      let P : List ℕ → Type 0 = λ xs. In r xs in
      named_small r (after_named (lines_of_code instrs) i r (line_after (lines_of_code instrs) i r m (inl (subst P (sym (line_at instrs i x l e)) j))))

  pub all_small : All (λ x. All (λ r. r < n) (registers_of x)) instrs
  all_small k d l = all_in (λ r. r < n) (registers_of (get_or instrs k d)) (λ r j. register_small k r (get_or instrs k d) l (same_default instrs k d l) j)
    where
      same_default : (xs : List Instr) (j : ℕ) (d : Instr) → j < length xs → get_or xs j d ≡ get_or xs j (get_or xs j d)
      same_default [] j d l = refl
      same_default (x ∷ xs) zero d l = refl
      same_default (x ∷ xs) (suc j) d l = same_default xs j d (omega arith)

-- the registers of one instruction
pub operands_small : (instrs : List Instr) (n m i : ℕ) (x : Instr) (rs : List ℕ) → All (λ x. All (λ r. r < n) (registers_of x)) instrs → m ≡ n → i < length instrs → x ≡ get_or instrs i x → rs ≡ registers_of x → All (λ r. r < m) rs
operands_small instrs n m i x rs all e l at same =
    let here : All (λ r. r < n) (registers_of (get_or instrs i x)) = all i x l in
    let Q : List ℕ → Type 0 = λ xs. All (λ r. r < n) xs in
    let M : ℕ → Type 0 = λ q. All (λ r. r < q) rs in
    subst M (sym e) (subst Q (sym (same ∙ ap registers_of at)) here)

-- one instruction more
pub planned_more : (instrs : List Instr) (i : ℕ) (x : Instr) (last rs : List ℕ) (none p q s : Planning) → i < length instrs → x ≡ get_or instrs i x → rs ≡ registers_of x → p ≡ planned last (lines_of_code instrs) none i
    → q ≡ give_slots p rs → s ≡ free_slots last i q rs → s ≡ planned last (lines_of_code instrs) none (i + 1)
unfolding planned
planned_more instrs i x last rs none p q s l at same f g h =
    let lines = lines_of_code instrs in
    let line : rs ≡ get_or lines i [] = same ∙ sym (line_at instrs i x l at) in
    h ∙ ap (λ o. free_slots last i o rs) (g ∙ ap (λ o. give_slots o rs) f)
    ∙ ap (λ ys. free_slots last i (give_slots (planned last lines none i) ys) ys) line
    ∙ ap (planned last lines none) (sym (add-one i))

pub planned_none : (last : List ℕ) (lines : List (List ℕ)) (none p : Planning) → p ≡ none → p ≡ planned last lines none 0
unfolding planned
planned_none last lines none p e = e

-- what the first lines make, lines behind them or not
pub planned_front : (last : List ℕ) (xs ys : List (List ℕ)) (p : Planning) (i : ℕ) → i ≤ length xs → planned last (xs ++ ys) p i ≡ planned last xs p i
unfolding planned
planned_front last xs ys p zero l = refl
planned_front last xs ys p (suc i) l =
    ap₂ (λ o line. free_slots last i (give_slots o line) line) (planned_front last xs ys p i (omega (arith, l))) (get_or_append_left xs ys [] i (omega (arith, l)))

pub last_uses_front : (n : ℕ) (xs ys : List (List ℕ)) (i : ℕ) → i ≤ length xs → last_uses n (xs ++ ys) i ≡ last_uses n xs i
unfolding last_uses
last_uses_front n xs ys zero l = refl
last_uses_front n xs ys (suc i) l = ap₂ (mark_each i) (last_uses_front n xs ys i (omega (arith, l))) (get_or_append_left xs ys [] i (omega (arith, l)))
