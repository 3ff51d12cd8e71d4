-- The walk makes the first-fit plan.
use Rattle.std.proofs.Common.{◌≡◌, ℕ, ◌+◌, ◌<◌, ◌≤◌, List, [], ◌∷◌, ◌++◌, ◌⊎◌, inl, inr, ⊎_elim, length, map, set, get_or, Bool, true, false, cond, eqb, refl, sym, ◌∙◌, ap, subst, arith, Option, Some, None}
use Rattle.std.specs.List.{filter}
use Rattle.std.specs.Map.{lookup, keys_of}
use Rattle.std.specs.Set.{is_member}
use Rattle.std.proofs.lemmas.Bool.{cases_eq, cases_lt, eq-eqb, ne_eqb, cases_Bool}
use Rattle.std.proofs.lemmas.List.{get_or-set_same, get_or-set_other, length-set, map-append}
use Rattle.std.proofs.lemmas.List.Elements.{filter-append}
use Rattle.om_ring.specs.Members.{In}
use Rattle.om_code.specs.Spans.{span_holds}
use Rattle.om_code.specs.SlotPlans.{Given, least_free, taken_at, give, slot_in}
use Rattle.om_emit.specs.Planning.{Planning, new_slot, slot_given, give_slot}
use Rattle.om_ring.proofs.Members.{in_left, in_right, in_either, in_from_member, absent_from_member}
use Rattle.om_code.proofs.FirstFit.{has_slot, least_free-only}
use Rattle.om_emit.proofs.FreeSlots.{IsFree}

-- the least of the free numbers, or the count where there is none, is the least that isn't taken
least_of_free : (k : ℕ) (ks : List ℕ) (count : ℕ) (taken : List ℕ) → IsFree (k ∷ ks) count (λ q. In q taken) → least_free taken ≡ k
least_of_free k ks count taken w = least_free-only taken k (w.each k (inl refl)).1 (λ j l. by j l (decided taken j))
  where
    decided : (xs : List ℕ) (q : ℕ) → In q xs ⊎ (In q xs → ⊥)
    decided xs q = ⊎_elim (λ t. inl (in_from_member xs q t)) (λ f. inr (absent_from_member xs q f)) (cases_Bool (is_member eqb xs q))

    by : (j : ℕ) → j < k → In j taken ⊎ (In j taken → ⊥) → In j taken
    by j l (inl t) = t
    by j l (inr n) =
        let b : k < count = (w.each k (inl refl)).0 in
        ⊎_elim (λ (e : j ≡ k). absurd (omega arith)) (λ i. let m : k < j = w.rising.0 j i in absurd (omega arith)) (w.all j (omega arith) n)

least_of_none : (count : ℕ) (taken : List ℕ) → IsFree [] count (λ q. In q taken) → least_free taken ≡ count
least_of_none count taken w = least_free-only taken count (λ t. let l : count < count = w.below count t in absurd (omega arith)) (λ j l. by j l (decided taken j))
  where
    decided : (xs : List ℕ) (q : ℕ) → In q xs ⊎ (In q xs → ⊥)
    decided xs q = ⊎_elim (λ t. inl (in_from_member xs q t)) (λ f. inr (absent_from_member xs q f)) (cases_Bool (is_member eqb xs q))

    by : (j : ℕ) → j < count → In j taken ⊎ (In j taken → ⊥) → In j taken
    by j l (inl t) = t
    by j l (inr n) = absurd (w.all j l n)

-- one number more is taken
take_first : (k : ℕ) (ks : List ℕ) (count : ℕ) (taken : List ℕ) → IsFree (k ∷ ks) count (λ q. In q taken) → IsFree ks count (λ q. In q (taken ++ k ∷ []))
take_first k ks count taken w = record {
  rising = w.rising.1;
  each = λ q i. let h = w.each q (inr i) in (h.0, λ t. ⊎_elim h.1 (λ m. ⊎_elim (λ (e : q ≡ k). let l : k < q = w.rising.0 q i in absurd (omega arith)) (λ z. z) m) (in_either q taken (k ∷ []) t));
  all = λ q l n. ⊎_elim (λ e. absurd (n (in_right q taken (k ∷ []) (inl e)))) (λ i. i) (w.all q l (λ t. n (in_left q taken (k ∷ []) t)));
  below = λ q t. ⊎_elim (w.below q) (λ m. ⊎_elim (λ e. subst (λ x. x < count) (sym e) (w.each k (inl refl)).0) (λ z. absurd z) m) (in_either q taken (k ∷ []) t);
}

take_new : (count : ℕ) (taken : List ℕ) → IsFree [] count (λ q. In q taken) → IsFree [] (count + 1) (λ q. In q (taken ++ count ∷ []))
take_new count taken w = record {
  rising = tt;
  each = λ q i. absurd i;
  all = λ q l n. ⊎_elim (λ (b : q < count). absurd (w.all q b (λ t. n (in_left q taken (count ∷ []) t)))) (λ (b : count ≤ q). let e : q ≡ count = omega arith in absurd (n (in_right q taken (count ∷ []) (inl e)))) (cases_lt q count);
  below = λ q t. ⊎_elim (λ u. let b : q < count = w.below q u in omega arith) (λ m. ⊎_elim (λ (e : q ≡ count). omega arith) (λ z. absurd z) m) (in_either q taken (count ∷ []) t);
}

-- where the walk has come, within a line
pub record IsPlanned (lines : List (List ℕ)) (n : ℕ) (given : Given) (Taken : ℕ → Type 0) (p : Planning) : Type 0 where
  pub size : length p.slots ≡ n
  pub same : (r : ℕ) → r < n → get_or p.slots r None ≡ slot_in given r
  pub free : IsFree p.free p.count Taken
  pub used : (k : ℕ) → k < p.count → In k (map (λ g. g.1) given)
  pub below : (g : ℕ × ℕ) → In g given → g.1 < p.count

-- a slot looked up behind a new one
slot_in-old : (given : Given) (r k : ℕ) (s : ℕ) → (s ≡ r → ⊥) → slot_in (given ++ (r, k) ∷ []) s ≡ slot_in given s
unfolding slot_in
slot_in-old [] r k s n = ap (λ b. cond b (Some k) None) (ne_eqb s r n)
slot_in-old (g ∷ gs) r k s n = ap (cond (eqb s g.0) (Some g.1)) (slot_in-old gs r k s n)

slot_in-new : (given : Given) (r k : ℕ) → (In r (keys_of given) → ⊥) → slot_in (given ++ (r, k) ∷ []) r ≡ Some k
unfolding slot_in
slot_in-new [] r k n = ap (λ b. cond b (Some k) None) (eq-eqb r r refl)
slot_in-new (g ∷ gs) r k n = ap (λ b. cond b (Some g.1) (lookup (eqb r) (gs ++ (r, k) ∷ []))) (ne_eqb r g.0 (λ e. n (inl e))) ∙ slot_in-new gs r k (λ i. n (inr i))

slot_in-none : (given : Given) (r : ℕ) → (In r (keys_of given) → ⊥) → slot_in given r ≡ None
unfolding slot_in
slot_in-none [] r n = refl
slot_in-none (g ∷ gs) r n = ap (λ b. cond b (Some g.1) (lookup (eqb r) gs)) (ne_eqb r g.0 (λ e. n (inl e))) ∙ slot_in-none gs r (λ i. n (inr i))

taken_more : (lines : List (List ℕ)) (i : ℕ) (given : Given) (r k : ℕ) → span_holds lines i r ≡ true → taken_at lines i (given ++ (r, k) ∷ []) ≡ taken_at lines i given ++ k ∷ []
unfolding taken_at
taken_more lines i given r k h =
    ap (map (λ g. g.1)) (filter-append (λ g. span_holds lines i g.0) given ((r, k) ∷ []) ∙ ap (λ b. filter (λ g. span_holds lines i g.0) given ++ cond b ((r, k) ∷ []) []) h)
    ∙ map-append (λ g. g.1) (filter (λ g. span_holds lines i g.0) given) ((r, k) ∷ [])

used_more : (given : Given) (r k q : ℕ) → In q (map (λ g. g.1) given) ⊎ (q ≡ k) → In q (map (λ g. g.1) (given ++ (r, k) ∷ []))
used_more given r k q h =
    let P : List ℕ → Type 0 = λ xs. In q xs in
    subst P (sym (map-append (λ g. g.1) given ((r, k) ∷ []))) (⊎_elim (λ i. in_left q (map (λ g. g.1) given) (k ∷ []) i) (λ e. in_right q (map (λ g. g.1) given) (k ∷ []) (inl e)) h)

module _ (lines : List (List ℕ)) (n i : ℕ) (given : Given) (r : ℕ) (small : r < n) (holds : span_holds lines i r ≡ true) (absent : In r (keys_of given) → ⊥) where
  same_after : (slots : List (Option ℕ)) (k : ℕ) → length slots ≡ n → ((s : ℕ) → s < n → get_or slots s None ≡ slot_in given s) → (s : ℕ) → s < n → get_or (set slots r (Some k)) s None ≡ slot_in (given ++ (r, k) ∷ []) s
  same_after slots k size same s l = ⊎_elim
      (λ e. ap (λ x. get_or (set slots r (Some k)) x None) e ∙ get_or-set_same slots r (Some k) None (omega arith) ∙ sym (ap (slot_in (given ++ (r, k) ∷ [])) e ∙ slot_in-new given r k absent))
      (λ m. get_or-set_other slots r s (Some k) None m ∙ same s l ∙ sym (slot_in-old given r k s m))
      (cases_eq s r)

  new_planned : (slots : List (Option ℕ)) (free : List ℕ) (count : ℕ) → IsPlanned lines n given (λ q. In q (taken_at lines i given)) (record { slots = slots; free = free; count = count })
      → IsPlanned lines n (given ++ (r, least_free (taken_at lines i given)) ∷ []) (λ q. In q (taken_at lines i (given ++ (r, least_free (taken_at lines i given)) ∷ []))) (new_slot slots free count r)
  new_planned slots [] count w =
      let e : count ≡ least_free (taken_at lines i given) = sym (least_of_none count (taken_at lines i given) w.free) in
      let P : ℕ → Type 0 = λ k. IsPlanned lines n (given ++ (r, k) ∷ []) (λ q. In q (taken_at lines i (given ++ (r, k) ∷ []))) (new_slot slots [] count r) in
      subst P e (record {
        size = length-set slots r (Some count) ∙ w.size;
        same = same_after slots count w.size w.same;
        free = let Q : List ℕ → Type 0 = λ xs. IsFree [] (count + 1) (λ q. In q xs) in subst Q (sym (taken_more lines i given r count holds)) (take_new count (taken_at lines i given) w.free);
        used = λ q l. used_more given r count q (⊎_elim (λ (b : q < count). inl (w.used q b)) (λ (b : count ≤ q). inr (omega arith)) (cases_lt q count));
        below = λ g j. ⊎_elim (λ m. let b : g.1 < count = w.below g m in omega arith) (λ m. ⊎_elim (λ e. let b : g.1 ≡ count = ap (λ x. x.1) e in omega arith) (λ z. absurd z) m) (in_either g given ((r, count) ∷ []) j);
      })
  new_planned slots (k ∷ ks) count w =
      let e : k ≡ least_free (taken_at lines i given) = sym (least_of_free k ks count (taken_at lines i given) w.free) in
      let P : ℕ → Type 0 = λ j. IsPlanned lines n (given ++ (r, j) ∷ []) (λ q. In q (taken_at lines i (given ++ (r, j) ∷ []))) (new_slot slots (k ∷ ks) count r) in
      subst P e (record {
        size = length-set slots r (Some k) ∙ w.size;
        same = same_after slots k w.size w.same;
        free = let Q : List ℕ → Type 0 = λ xs. IsFree ks count (λ q. In q xs) in subst Q (sym (taken_more lines i given r k holds)) (take_first k ks count (taken_at lines i given) w.free);
        used = λ q l. used_more given r k q (inl (w.used q l));
        below = λ g j. ⊎_elim (w.below g) (λ m. ⊎_elim (λ e. subst (λ x. x < count) (sym (ap (λ x. x.1) e)) (w.free.each k (inl refl)).0) (λ z. absurd z) m) (in_either g given ((r, k) ∷ []) j);
      })

pub give-planned : (lines : List (List ℕ)) (n i : ℕ) (given : Given) (r : ℕ) (p : Planning) → r < n → span_holds lines i r ≡ true → IsPlanned lines n given (λ q. In q (taken_at lines i given)) p → IsPlanned lines n (give lines i given r) (λ q. In q (taken_at lines i (give lines i given r))) (give_slot p r)
unfolding give give_slot
give-planned lines n i given r p l h w = by (is_member eqb (keys_of given) r) refl
  where
    by : (b : Bool) → is_member eqb (keys_of given) r ≡ b → IsPlanned lines n (cond b given (given ++ (r, least_free (taken_at lines i given)) ∷ [])) (λ q. In q (taken_at lines i (cond b given (given ++ (r, least_free (taken_at lines i given)) ∷ [])))) (slot_given p r (get_or p.slots r None))
    by true m =
        let s = has_slot given r (in_from_member (keys_of given) r m) in
        let e : Some s.slot ≡ get_or p.slots r None = sym (w.same r l ∙ s.found) in
        let P : Option ℕ → Type 0 = λ o. IsPlanned lines n given (λ q. In q (taken_at lines i given)) (slot_given p r o) in
        subst P e w
    by false m =
        let a = absent_from_member (keys_of given) r m in
        let e : None ≡ get_or p.slots r None = sym (w.same r l ∙ slot_in-none given r a) in
        let P : Option ℕ → Type 0 = λ o. IsPlanned lines n (given ++ (r, least_free (taken_at lines i given)) ∷ []) (λ q. In q (taken_at lines i (given ++ (r, least_free (taken_at lines i given)) ∷ []))) (slot_given p r o) in
        subst P e (new_planned lines n i given r l h a p.slots p.free p.count w)
