-- The plan of lines that get no new slot behind others is that of the others.
use Rattle.std.proofs.Common.{◌≡◌, ℕ, zero, suc, ◌+◌, ◌<◌, ◌≤◌, List, [], ◌∷◌, ◌++◌, inl, inr, ⊎_elim, length, get_or, take, cond, refl, sym, ◌∙◌, ap, ap₂, subst, arith, ◌⊎◌, None}
use Rattle.std.specs.List.{concat}
use Rattle.std.specs.Map.{keys_of}
use Rattle.std.proofs.lemmas.List.{length-append, get_or-append-add, take-append-le, take_all}
use Rattle.om_ring.specs.Members.{In}
use Rattle.om_code.specs.Spans.{width}
use Rattle.om_code.specs.SlotPlans.{Given, give, give_each, given_before, taken_at, least_free, first_fit, slot_or_0}
use Rattle.om_emit.specs.Planning.{Planning, no_slots, planned, last_uses}
use Rattle.om_ring.proofs.Members.{in_either, in_left, in_right, member_from_in}
use Rattle.om_code.proofs.FirstFit.{given_before-given}
use Rattle.om_code.proofs.SpanFacts.{line_after, after_named}
use Rattle.om_emit.proofs.PlanLoop.{planned_front}
use Rattle.om_emit.proofs.PlanMade.{count_small, slot-is, count-is}

-- registers that have slots keep them
give_each-known : (lines : List (List ℕ)) (i : ℕ) (given : Given) (rs : List ℕ) → ((r : ℕ) → In r rs → In r (keys_of given)) → give_each lines i given rs ≡ given
unfolding give_each give
give_each-known lines i given [] h = refl
give_each-known lines i given (r ∷ rs) h =
    ap (λ b. give_each lines i (cond b given (given ++ (r, least_free (taken_at lines i given)) ∷ [])) rs) (member_from_in (keys_of given) r (h r (inl refl)))
    ∙ give_each-known lines i given rs (λ q j. h q (inr j))

pub in_lines : (lines : List (List ℕ)) (i r : ℕ) → i < length lines → In r (get_or lines i []) → In r (concat lines)
in_lines lines i r l j = after_named lines i r (line_after lines i r l (inl j))

pub concat_either : (xs ys : List (List ℕ)) (r : ℕ) → In r (concat (xs ++ ys)) → In r (concat xs) ⊎ In r (concat ys)
concat_either [] ys r i = inr i
concat_either (x ∷ xs) ys r i = ⊎_elim (λ j. inl (in_left r x (concat xs) j)) (λ j. ⊎_elim (λ k. inl (in_right r x (concat xs) k)) inr (concat_either xs ys r j)) (in_either r x (concat (xs ++ ys)) i)

module _ (xs ys : List (List ℕ)) (known : (r : ℕ) → In r (concat ys) → In r (concat xs)) where
  has_key : (r : ℕ) → In r (concat xs) → In r (keys_of (given_before (xs ++ ys) (length xs)))
  has_key r i =
      let l : length xs ≤ length (xs ++ ys) = omega (arith, length-append xs ys) in
      let front : take (length xs) (xs ++ ys) ≡ xs = take-append-le (length xs) xs ys (omega arith) ∙ take_all (length xs) xs (omega arith) in
      let P : List (List ℕ) → Type 0 = λ zs. In r (concat zs) in
      (given_before-given (xs ++ ys) (length xs) l).into r (inl (subst P (sym front) i))

  more_given : (k : ℕ) → k ≤ length ys → given_before (xs ++ ys) (length xs + k) ≡ given_before (xs ++ ys) (length xs)
  unfolding given_before
  more_given zero l = ap (given_before (xs ++ ys)) (let e : length xs + 0 ≡ length xs = omega arith in e)
  more_given (suc k) l =
      let i = length xs + k in
      let next : length xs + suc k ≡ suc (length xs + k) = omega arith in
      let line : get_or (xs ++ ys) i [] ≡ get_or ys k [] = get_or-append-add xs ys k [] in
      let same = more_given k (omega (arith, l)) in
      ap (given_before (xs ++ ys)) next
      ∙ ap₂ (λ g zs. give_each (xs ++ ys) i g zs) same line
      ∙ give_each-known (xs ++ ys) i (given_before (xs ++ ys) (length xs)) (get_or ys k []) (λ r j. has_key r (known r (in_lines ys k r (omega (arith, l)) j)))

  pub all_given : given_before (xs ++ ys) (length xs) ≡ given_before (xs ++ ys) (length (xs ++ ys))
  all_given = sym (more_given (length ys) (omega arith)) ∙ ap (given_before (xs ++ ys)) (sym (length-append xs ys))

  module _ (n : ℕ) (small : (r : ℕ) → In r (concat xs) → r < n) (last : List ℕ) (marks : last ≡ last_uses n (xs ++ ys) (length (xs ++ ys))) where
    both_small : (r : ℕ) → In r (concat (xs ++ ys)) → r < n
    both_small r i = ⊎_elim (small r) (λ j. small r (known r j)) (concat_either xs ys r i)

    within : length xs ≤ length (xs ++ ys)
    within = omega (arith, length-append xs ys)

    -- the walk over the first lines alone
    walk : (i : ℕ) → i ≤ length xs → planned last xs (no_slots n) i ≡ planned (last_uses n (xs ++ ys) (length (xs ++ ys))) (xs ++ ys) (no_slots n) i
    walk i l = ap (λ ls. planned ls xs (no_slots n) i) marks ∙ sym (planned_front (last_uses n (xs ++ ys) (length (xs ++ ys))) xs ys (no_slots n) i l)

    pub front_room : (i : ℕ) → i ≤ length xs → (planned last xs (no_slots n) i).count ≤ n
    front_room i l = subst (λ (p : Planning). p.count ≤ n) (sym (walk i l)) (count_small (xs ++ ys) n both_small i (let w = within in omega (arith, l, w)))

    pub front_plan : (r : ℕ) → r < n → slot_or_0 (get_or (planned last xs (no_slots n) (length xs)).slots r None) ≡ first_fit (xs ++ ys) r
    front_plan r s = ap (λ (p : Planning). slot_or_0 (get_or p.slots r None)) (walk (length xs) (omega arith)) ∙ slot-is (xs ++ ys) n both_small (length xs) within all_given r s

    pub front_count : (planned last xs (no_slots n) (length xs)).count ≡ width (xs ++ ys)
    front_count = ap (λ (p : Planning). p.count) (walk (length xs) (omega arith)) ∙ count-is (xs ++ ys) n both_small (length xs) within all_given
