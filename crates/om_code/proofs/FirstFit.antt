-- The first-fit plan is a slot plan and uses exactly the width.
use Rattle.std.proofs.Common.{◌≡◌, ℕ, zero, suc, ◌+◌, ◌<◌, ◌≤◌, List, [], ◌∷◌, ◌++◌, ◌⊎◌, inl, inr, ⊎_elim, length, map, get_or, Bool, true, false, cond, eqb, refl, sym, ◌∙◌, ap, subst, arith, add-one, Some}
use Rattle.std.specs.List.{concat, filter}
use Rattle.std.specs.Map.{lookup, keys_of}
use Rattle.std.specs.Set.{is_member}
use Rattle.std.proofs.Math.Nat.{le_antisymm}
use Rattle.std.proofs.lemmas.Bool.{cases_lt, eqb-true, eqb-false}
use Rattle.std.proofs.lemmas.List.{map-append, length-map, length_push, take_all}
use Rattle.std.proofs.lemmas.Map.Steps.{le-length_from_below}
use Rattle.om_ring.specs.Members.{In, Different}
use Rattle.om_code.specs.Spans.{is_named, span_holds, width}
use Rattle.om_code.specs.SlotPlans.{IsSlotPlan, slots_used, free_from, least_free, Given, taken_at, give, give_each, given_before, slot_in, slot_or_0, first_fit}
use Rattle.om_code.specs.Laws.{FirstFitIsNarrow}
use Rattle.om_ring.proofs.Members.{in_from_member, member_from_in, absent_from_member, in_left, in_right, in_either, in_filter, in_map, in_mapped, different_push, different_kept, few_below}
use Rattle.om_code.proofs.SpanFacts.{Before, before_line, line_before, parts_of_span, span_from, span_earlier, no_earlier_span, line_after, few_at, width_needed, after_named}

-- the least number that a list lacks
pub record IsLeastFree (taken : List ℕ) (k : ℕ) : Type 0 where
  pub free : In k taken → ⊥
  pub filled : (j : ℕ) → j < k → In j taken
  pub within : k ≤ length taken

one_more : (taken : List ℕ) (k : ℕ) → ((j : ℕ) → j < k → In j taken) → In k taken → (j : ℕ) → j < suc k → In j taken
one_more taken k h i j l = ⊎_elim (λ (m : j < k). h j m) (λ (m : k ≤ j). let e : k ≡ j = omega arith in let P : ℕ → Type 0 = λ u. In u taken in subst P e i) (cases_lt j k)

free_from-is : (n k : ℕ) (taken : List ℕ) → ((j : ℕ) → j < k → In j taken) → k + n ≡ length taken → IsLeastFree taken (free_from n k taken)
unfolding free_from
free_from-is zero k taken h e = record {
  free = λ i. let b : suc k ≤ length taken = le-length_from_below taken (suc k) (λ q l. member_from_in taken q (one_more taken k h i q l)) in absurd (omega arith);
  filled = h;
  within = omega arith;
}
free_from-is (suc n) k taken h e = by (is_member eqb taken k) refl (λ i. free_from-is n (suc k) taken (one_more taken k h i) (omega arith))
  where
    by : (b : Bool) → is_member eqb taken k ≡ b → (In k taken → IsLeastFree taken (free_from n (suc k) taken)) → IsLeastFree taken (cond b (free_from n (suc k) taken) k)
    by true m ih = ih (in_from_member taken k m)
    by false m ih = record { free = absent_from_member taken k m; filled = h; within = omega arith }

pub least_free-is : (taken : List ℕ) → IsLeastFree taken (least_free taken)
unfolding least_free
least_free-is taken = free_from-is (length taken) 0 taken (λ j l. absurd (omega arith)) (omega arith)

-- there is one such number
pub least_free-only : (taken : List ℕ) (k : ℕ) → (In k taken → ⊥) → ((j : ℕ) → j < k → In j taken) → least_free taken ≡ k
least_free-only taken k n h =
    let w = least_free-is taken in
    le_antisymm (⊎_elim (λ (l : k < least_free taken). absurd (n (w.filled k l))) (λ l. l) (cases_lt k (least_free taken)))
    (⊎_elim (λ (l : least_free taken < k). absurd (w.free (h (least_free taken) l))) (λ l. l) (cases_lt (least_free taken) k))

-- the slots given within a line, of which some registers are done
pub record AreGiven (lines : List (List ℕ)) (i : ℕ) (done : List ℕ) (given : Given) : Type 0 where
  pub apart : Different (keys_of given)
  pub done_here : (r : ℕ) → In r done → In r (get_or lines i [])
  pub from : (r : ℕ) → In r (keys_of given) → Before lines i r ⊎ In r done
  pub into : (r : ℕ) → Before lines i r ⊎ In r done → In r (keys_of given)
  pub plan : (g h : ℕ × ℕ) (j : ℕ) → In g given → In h given → span_holds lines j g.0 ≡ true → span_holds lines j h.0 ≡ true → g.1 ≡ h.1 → g.0 ≡ h.0
  pub small : (g : ℕ × ℕ) → In g given → g.1 < width lines

in_keys : (given : Given) (g : ℕ × ℕ) → In g given → In g.0 (keys_of given)
in_keys given g i = in_map (λ h. h.0) g given i

-- a register without slot gets one
module _ (lines : List (List ℕ)) (i : ℕ) (done : List ℕ) (given : Given) (r : ℕ) (l : i < length lines) (w : AreGiven lines i done given) (here : In r (get_or lines i [])) (absent : In r (keys_of given) → ⊥) where
  r_holds : span_holds lines i r ≡ true
  r_holds = span_from lines i r (line_before lines i r l (inr here)) (line_after lines i r l (inl here))

  free_slot : ℕ
  free_slot = least_free (taken_at lines i given)

  key_before : (g : ℕ × ℕ) → In g given → Before lines (i + 1) g.0
  key_before g j = line_before lines i g.0 l (⊎_elim inl (λ k. inr (w.done_here g.0 k)) (w.from g.0 (in_keys given g j)))

  -- an earlier register whose span meets that of r has another slot
  not_shared : (g : ℕ × ℕ) (j : ℕ) → In g given → span_holds lines j g.0 ≡ true → span_holds lines j r ≡ true → g.1 ≡ free_slot → ⊥
  unfolding free_slot taken_at
  not_shared g j k hg hr e =
      let late : i ≤ j = no_earlier_span lines i j r (λ b. absent (w.into r (inl b))) hr in
      let held : span_holds lines i g.0 ≡ true = span_earlier lines i j g.0 late (key_before g k) hg in
      let P : ℕ → Type 0 = λ u. In u (taken_at lines i given) in
      (least_free-is (taken_at lines i given)).free (subst P e (in_map (λ h. h.1) g (filter (λ h. span_holds lines i h.0) given) ((in_filter (λ h. span_holds lines i h.0) g given).1 (k, held))))

  free_below : free_slot < width lines
  unfolding free_slot taken_at
  free_below =
      let held = filter (λ h. span_holds lines i h.0) given in
      let rs = map (λ h. h.0) held in
      let other : In r rs → ⊥ = λ k. let u = in_mapped (λ h. h.0) r held k in absent (let P : ℕ → Type 0 = λ x. In x (keys_of given) in subst P (sym u.2) (in_keys given u.0 ((in_filter (λ h. span_holds lines i h.0) u.0 given).0 u.1).0)) in
      let d : Different (rs ++ r ∷ []) = different_push rs r (different_kept (λ h. h.0) (λ h. span_holds lines i h.0) given w.apart) other in
      let holds : (q : ℕ) → In q (rs ++ r ∷ []) → span_holds lines i q ≡ true = λ q k.
      ⊎_elim (λ m. let u = in_mapped (λ h. h.0) q held m in ap (span_holds lines i) u.2 ∙ ((in_filter (λ h. span_holds lines i h.0) u.0 given).0 u.1).1)
      (λ m. ⊎_elim (λ e. ap (span_holds lines i) e ∙ r_holds) (λ z. absurd z) m)
      (in_either q rs (r ∷ []) k) in
      let few : length (rs ++ r ∷ []) ≤ width lines = few_at lines i (rs ++ r ∷ []) l d holds in
      let a = (least_free-is (taken_at lines i given)).within in
      let b : length (taken_at lines i given) ≡ length held = length-map held (λ h. h.1) in
      let c : length rs ≡ length held = length-map held (λ h. h.0) in
      omega (arith, length_push rs r)

  pub new_given : AreGiven lines i (r ∷ done) (given ++ (r, least_free (taken_at lines i given)) ∷ [])
  unfolding free_slot
  new_given =
      let new = given ++ (r, free_slot) ∷ [] in
      let keys : keys_of new ≡ keys_of given ++ r ∷ [] = map-append (λ h. h.0) given ((r, free_slot) ∷ []) in
      record {
        apart = subst Different (sym keys) (different_push (keys_of given) r w.apart absent);
        done_here = λ q k. ⊎_elim (λ e. let P : ℕ → Type 0 = λ x. In x (get_or lines i []) in subst P (sym e) here) (w.done_here q) k;
        from = λ q k. ⊎_elim (λ m. ⊎_elim inl (λ z. inr (inr z)) (w.from q m)) (λ m. ⊎_elim (λ e. inr (inl e)) (λ z. absurd z) m) (in_either q (keys_of given) (r ∷ []) (let P : List ℕ → Type 0 = λ xs. In q xs in subst P keys k));
        into = λ q k. let P : List ℕ → Type 0 = λ xs. In q xs in subst P (sym keys) (⊎_elim (λ b. in_left q (keys_of given) (r ∷ []) (w.into q (inl b))) (λ m. ⊎_elim (λ e. in_right q (keys_of given) (r ∷ []) (inl e)) (λ z. in_left q (keys_of given) (r ∷ []) (w.into q (inr z))) m) k);
        plan = λ g h j kg kh hg hh e. ⊎_elim
            (λ mg. ⊎_elim
            (λ mh. w.plan g h j mg mh hg hh e)
            (λ mh. ⊎_elim (λ eh. absurd (not_shared g j mg hg (ap (λ x. span_holds lines j x.0) (sym eh) ∙ hh) (e ∙ ap (λ x. x.1) eh))) (λ z. absurd z) mh)
            (in_either h given ((r, free_slot) ∷ []) kh))
            (λ mg. ⊎_elim
            (λ eg. ⊎_elim
            (λ mh. absurd (not_shared h j mh hh (ap (λ x. span_holds lines j x.0) (sym eg) ∙ hg) (sym e ∙ ap (λ x. x.1) eg)))
            (λ mh. ⊎_elim (λ eh. ap (λ x. x.0) eg ∙ sym (ap (λ x. x.0) eh)) (λ z. absurd z) mh)
            (in_either h given ((r, free_slot) ∷ []) kh))
            (λ z. absurd z) mg)
            (in_either g given ((r, free_slot) ∷ []) kg);
        small = λ g k. ⊎_elim (w.small g) (λ m. ⊎_elim (λ e. subst (λ n. n < width lines) (sym (ap (λ x. x.1) e)) free_below) (λ z. absurd z) m) (in_either g given ((r, free_slot) ∷ []) k);
      }

-- a register that has a slot keeps it
old_given : (lines : List (List ℕ)) (i : ℕ) (done : List ℕ) (given : Given) (r : ℕ) → AreGiven lines i done given → In r (get_or lines i []) → In r (keys_of given) → AreGiven lines i (r ∷ done) given
old_given lines i done given r w here there = record {
  apart = w.apart;
  done_here = λ q k. ⊎_elim (λ e. let P : ℕ → Type 0 = λ x. In x (get_or lines i []) in subst P (sym e) here) (w.done_here q) k;
  from = λ q k. ⊎_elim inl (λ z. inr (inr z)) (w.from q k);
  into = λ q k. ⊎_elim (λ b. w.into q (inl b)) (λ m. ⊎_elim (λ e. let P : ℕ → Type 0 = λ x. In x (keys_of given) in subst P (sym e) there) (λ z. w.into q (inr z)) m) k;
  plan = w.plan;
  small = w.small;
}

pub give-given : (lines : List (List ℕ)) (i : ℕ) (done : List ℕ) (given : Given) (r : ℕ) → i < length lines → AreGiven lines i done given → In r (get_or lines i []) → AreGiven lines i (r ∷ done) (give lines i given r)
unfolding give
give-given lines i done given r l w here = by (is_member eqb (keys_of given) r) refl
  where
    by : (b : Bool) → is_member eqb (keys_of given) r ≡ b → AreGiven lines i (r ∷ done) (cond b given (given ++ (r, least_free (taken_at lines i given)) ∷ []))
    by true m = old_given lines i done given r w here (in_from_member (keys_of given) r m)
    by false m = new_given lines i done given r l w here (absent_from_member (keys_of given) r m)

-- the registers of a line that are done, with those that were done before
pub record AreDone (lines : List (List ℕ)) (i : ℕ) (done rs : List ℕ) (given : Given) : Type 0 where
  pub all : List ℕ
  pub fits : AreGiven lines i all given
  pub new : (q : ℕ) → In q rs → In q all
  pub old : (q : ℕ) → In q done → In q all

pub give_each-given : (lines : List (List ℕ)) (i : ℕ) (done : List ℕ) (given : Given) (rs : List ℕ) → i < length lines → AreGiven lines i done given → ((r : ℕ) → In r rs → In r (get_or lines i [])) → AreDone lines i done rs (give_each lines i given rs)
unfolding give_each
give_each-given lines i done given [] l w here = record { all = done; fits = w; new = λ q k. absurd k; old = λ q k. k }
give_each-given lines i done given (r ∷ rs) l w here =
    let u = give_each-given lines i (r ∷ done) (give lines i given r) rs l (give-given lines i done given r l w (here r (inl refl))) (λ q k. here q (inr k)) in
    record { all = u.all; fits = u.fits; new = λ q k. ⊎_elim (λ e. u.old q (inl e)) (u.new q) k; old = λ q k. u.old q (inr k) }

-- the slots given before an instruction
pub given_before-given : (lines : List (List ℕ)) (n : ℕ) → n ≤ length lines → AreGiven lines n [] (given_before lines n)
unfolding given_before
given_before-given lines zero l = record {
  apart = tt;
  done_here = λ r k. absurd k;
  from = λ r k. absurd k;
  into = λ r k. ⊎_elim (λ z. absurd z) (λ z. absurd z) k;
  plan = λ g h j k. absurd k;
  small = λ g k. absurd k;
}
given_before-given lines (suc n) l =
    let u = give_each-given lines n [] (given_before lines n) (get_or lines n []) (omega arith) (given_before-given lines n (omega arith)) (λ r k. k) in
    let w = u.fits in
    let to : (r : ℕ) → Before lines (suc n) r → Before lines n r ⊎ In r (get_or lines n []) = λ r b. before_line lines n r (omega arith) (let P : ℕ → Type 0 = λ m. Before lines m r in subst P (sym (add-one n)) b) in
    let back : (r : ℕ) → Before lines n r ⊎ In r (get_or lines n []) → Before lines (suc n) r = λ r k. let P : ℕ → Type 0 = λ m. Before lines m r in subst P (add-one n) (line_before lines n r (omega arith) k) in
    record {
      apart = w.apart;
      done_here = λ r k. absurd k;
      from = λ r k. inl (back r (⊎_elim inl (λ z. inr (w.done_here r z)) (w.from r k)));
      into = λ r k. ⊎_elim (λ b. w.into r (⊎_elim inl (λ z. inr (u.new r z)) (to r b))) (λ z. absurd z) k;
      plan = w.plan;
      small = w.small;
    }

-- the slot of a register that has one
pub record HasSlot (given : Given) (r : ℕ) : Type 0 where
  pub slot : ℕ
  pub is_in : In (r, slot) given
  pub found : slot_in given r ≡ Some slot

pub has_slot : (given : Given) (r : ℕ) → In r (keys_of given) → HasSlot given r
unfolding slot_in
has_slot [] r i = absurd i
has_slot (g ∷ gs) r i = by (eqb r g.0) refl (λ j. has_slot gs r j) i
  where
    by : (b : Bool) → eqb r g.0 ≡ b → (In r (keys_of gs) → HasSlot gs r) → In r (g.0 ∷ keys_of gs) → HasSlot (g ∷ gs) r
    by true e ih k = record { slot = g.1; is_in = inl (ap (λ x. (x, g.1)) (eqb-true r g.0 e)); found = ap (λ b. cond b (Some g.1) (lookup (eqb r) gs)) e }
    by false e ih (inl s) = absurd (eqb-false r g.0 e s)
    by false e ih (inr j) = let h = ih j in record { slot = h.slot; is_in = inr h.is_in; found = ap (λ b. cond b (Some g.1) (lookup (eqb r) gs)) e ∙ h.found }

module _ (lines : List (List ℕ)) where
  all_given : AreGiven lines (length lines) [] (given_before lines (length lines))
  all_given = given_before-given lines (length lines) (omega arith)

  pub slot_of : (r : ℕ) → In r (concat lines) → HasSlot (given_before lines (length lines)) r
  slot_of r i = has_slot (given_before lines (length lines)) r (all_given.into r (inl (let P : List (List ℕ) → Type 0 = λ xs. In r (concat xs) in subst P (sym (take_all (length lines) lines (omega arith))) i)))

  pub first_fit-is : (r : ℕ) (i : In r (concat lines)) → first_fit lines r ≡ (slot_of r i).slot
  unfolding first_fit
  first_fit-is r i = ap slot_or_0 (slot_of r i).found

  named_here : (r i : ℕ) → span_holds lines i r ≡ true → In r (concat lines)
  named_here r i h = after_named lines i r (parts_of_span lines i r h).1

  first_fit-plan : IsSlotPlan lines (first_fit lines)
  first_fit-plan r s i hr hs e =
      let ir = named_here r i hr in
      let is = named_here s i hs in
      all_given.plan (r, (slot_of r ir).slot) (s, (slot_of s is).slot) i (slot_of r ir).is_in (slot_of s is).is_in hr hs (sym (first_fit-is r ir) ∙ e ∙ first_fit-is s is)

  first_fit-below : (r : ℕ) → In r (concat lines) → first_fit lines r < width lines
  first_fit-below r i = subst (λ n. n < width lines) (sym (first_fit-is r i)) (all_given.small (r, (slot_of r i).slot) (slot_of r i).is_in)

  first_fit-used : slots_used lines (first_fit lines) ≡ width lines
  unfolding slots_used
  first_fit-used = le_antisymm
      (few_below (map (first_fit lines) (concat lines)) (width lines) (λ q k. let w = in_mapped (first_fit lines) q (concat lines) k in subst (λ n. n < width lines) (sym w.2) (first_fit-below w.0 w.1)))
      (width_needed lines (first_fit lines) first_fit-plan)

  pub first_fit-narrow : FirstFitIsNarrow lines
  unfolding is_named
  first_fit-narrow = record { plan = first_fit-plan; below = λ r h. first_fit-below r (in_from_member (concat lines) r h); used = first_fit-used }
