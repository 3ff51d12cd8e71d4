-- The walk over the whole list, line by line.
use Rattle.std.proofs.Common.{◌≡◌, ℕ, zero, suc, ◌+◌, ◌<◌, ◌≤◌, List, [], ◌∷◌, inl, inr, ⊎_elim, length, map, get_or, replicate, Bool, true, false, cond, eqb, refl, sym, ◌∙◌, ap, subst, arith, add-one, Option, Some, None}
use Rattle.std.specs.List.{concat, filter}
use Rattle.std.specs.Map.{keys_of}
use Rattle.std.specs.Ordering.{nat_cmp}
use Rattle.std.specs.BTreeSet.{insert_key}
use Rattle.std.proofs.Math.Nat.{le_antisymm}
use Rattle.std.proofs.lemmas.Bool.{cases_eq, cases_lt, eqb-true, eqb-false}
use Rattle.std.proofs.lemmas.List.{length-replicate, length-map, take_all}
use Rattle.std.proofs.lemmas.Map.Steps.{le-length_from_below, length-le_from_distinct_below}
use Rattle.om_ring.specs.Members.{In, Different}
use Rattle.om_code.specs.Spans.{span_holds, width}
use Rattle.om_code.specs.SlotPlans.{Given, taken_at, give, give_each, given_before, slot_in, slot_or_0, first_fit, slots_used}
use Rattle.om_emit.specs.Planning.{Planning, no_slots, give_slot, give_slots, freed, free_slot, free_slots, planned, last_uses}
use Rattle.om_ring.proofs.Members.{in_map, in_mapped, in_filter, in_from_member, member_from_in, distinct, few_below}
use Rattle.om_code.proofs.SpanFacts.{Before, After, line_after, after_line, line_before, after_shrinks, before_grows, span_from, parts_of_span, after_named}
use Rattle.om_code.proofs.FirstFit.{AreGiven, give_each-given, given_before-given, has_slot, first_fit-narrow, first_fit-is, slot_of}
use Rattle.om_emit.proofs.FreeSlots.{inserted, same_free}
use Rattle.om_emit.proofs.Planned.{IsPlanned, give-planned}
use Rattle.om_emit.proofs.LastUses.{last_here, last_later}

-- a list with different keys has one slot for each
one_slot : (given : Given) (g h : ℕ × ℕ) → Different (keys_of given) → In g given → In h given → g.0 ≡ h.0 → g.1 ≡ h.1
one_slot [] g h d i j e = absurd i
one_slot (x ∷ xs) g h d (inl p) (inl q) e = ap (λ u. u.1) (p ∙ sym q)
one_slot (x ∷ xs) g h d (inl p) (inr j) e = absurd (d.0 (let P : ℕ → Type 0 = λ u. In u (keys_of xs) in subst P (sym e ∙ ap (λ u. u.0) p) (in_map (λ u. u.0) h xs j)))
one_slot (x ∷ xs) g h d (inr i) (inl q) e = absurd (d.0 (let P : ℕ → Type 0 = λ u. In u (keys_of xs) in subst P (e ∙ ap (λ u. u.0) q) (in_map (λ u. u.0) g xs i)))
one_slot (x ∷ xs) g h d (inr i) (inr j) e = one_slot xs g h d.1 i j e

-- a slot is held at instruction i by a register that isn't done or is named later
record IsHeld (lines : List (List ℕ)) (i : ℕ) (done : List ℕ) (given : Given) (k : ℕ) : Type 0 where
  which : ℕ × ℕ
  is_given : In which given
  holds : span_holds lines i which.0 ≡ true
  slot : which.1 ≡ k
  kept : In which.0 done → After lines (i + 1) which.0

give_each-planned : (lines : List (List ℕ)) (n i : ℕ) (given : Given) (rs : List ℕ) (p : Planning) → ((r : ℕ) → In r rs → (r < n) × (span_holds lines i r ≡ true)) → IsPlanned lines n given (λ q. In q (taken_at lines i given)) p → IsPlanned lines n (give_each lines i given rs) (λ q. In q (taken_at lines i (give_each lines i given rs))) (give_slots p rs)
unfolding give_each give_slots
give_each-planned lines n i given [] p h w = w
give_each-planned lines n i given (r ∷ rs) p h w = give_each-planned lines n i (give lines i given r) rs (give_slot p r) (λ q j. h q (inr j)) (give-planned lines n i given r p (h r (inl refl)).0 (h r (inl refl)).1 w)

module _ (lines : List (List ℕ)) (n i : ℕ) (l : i < length lines) (all : List ℕ) (given : Given) (a : AreGiven lines i all given) where
  here_holds : (r : ℕ) → In r (get_or lines i []) → span_holds lines i r ≡ true
  here_holds r h = span_from lines i r (line_before lines i r l (inr h)) (line_after lines i r l (inl h))

  fewer_done : (done : List ℕ) (r k : ℕ) → IsHeld lines i (r ∷ done) given k → IsHeld lines i done given k
  fewer_done done r k h = record { which = h.which; is_given = h.is_given; holds = h.holds; slot = h.slot; kept = λ j. h.kept (inr j) }

  -- a register that is named for the last time
  freed-planned : (done : List ℕ) (r : ℕ) (p : Planning) → In r (get_or lines i []) → r < n → In r (keys_of given) → (After lines (i + 1) r → ⊥) → IsPlanned lines n given (IsHeld lines i done given) p → IsPlanned lines n given (IsHeld lines i (r ∷ done) given) (freed p (get_or p.slots r None))
  freed-planned done r p here s key gone w =
      let f = has_slot given r key in
      let e : Some f.slot ≡ get_or p.slots r None = sym (w.same r s ∙ f.found) in
      let ins = inserted p.free f.slot w.free.rising in
      let mine : (g : ℕ × ℕ) → In g given → span_holds lines i g.0 ≡ true → g.1 ≡ f.slot → g.0 ≡ r = λ g j h q. a.plan g (r, f.slot) i j f.is_in h (here_holds r here) q in
      let P : Option ℕ → Type 0 = λ o. IsPlanned lines n given (IsHeld lines i (r ∷ done) given) (freed p o) in
      subst P e (record {
        size = w.size;
        same = w.same;
        free = record {
          rising = ins.rising;
          each = λ q j. ⊎_elim
              (λ (m : q ≡ f.slot). (
                subst (λ x. x < p.count) (sym m) (w.below (r, f.slot) f.is_in),
                λ h.
                    let t : h.which.0 ≡ r = mine h.which h.is_given h.holds (h.slot ∙ m) in
                    gone (let Q : ℕ → Type 0 = λ x. After lines (i + 1) x in subst Q t (h.kept (inl t))),
              ))
              (λ m. let u = w.free.each q m in (u.0, λ h. u.1 (fewer_done done r q h)))
              (ins.only q j);
          all = λ q b no. ⊎_elim
              (λ (m : q ≡ f.slot). let Q : ℕ → Type 0 = λ x. In x (insert_key nat_cmp p.free f.slot) in subst Q (sym m) ins.new)
              (λ m. ins.old q (w.free.all q b (λ h. no (record {
                which = h.which;
                is_given = h.is_given;
                holds = h.holds;
                slot = h.slot;
                kept = λ j. ⊎_elim (λ t. absurd (m (sym h.slot ∙ one_slot given h.which (r, f.slot) a.apart h.is_given f.is_in t))) h.kept j;
              }))))
              (cases_eq q f.slot);
          below = λ q h. subst (λ x. x < p.count) h.slot (w.below h.which h.is_given);
        };
        used = w.used;
        below = w.below;
      })

  -- one that is named again
  kept-planned : (done : List ℕ) (r : ℕ) (p : Planning) → After lines (i + 1) r → IsPlanned lines n given (IsHeld lines i done given) p → IsPlanned lines n given (IsHeld lines i (r ∷ done) given) p
  kept-planned done r p later w = record {
    size = w.size;
    same = w.same;
    free = same_free p.free p.count (IsHeld lines i done given) (IsHeld lines i (r ∷ done) given)
        (λ k h. record { which = h.which; is_given = h.is_given; holds = h.holds; slot = h.slot; kept = λ j. ⊎_elim (λ t. let Q : ℕ → Type 0 = λ x. After lines (i + 1) x in subst Q (sym t) later) h.kept j })
        (λ k h. fewer_done done r k h) w.free;
    used = w.used;
    below = w.below;
  }

  free_slot-planned : (done : List ℕ) (r : ℕ) (p : Planning) → In r (get_or lines i []) → r < n → In r (keys_of given) → IsPlanned lines n given (IsHeld lines i done given) p → IsPlanned lines n given (IsHeld lines i (r ∷ done) given) (free_slot (last_uses n lines (length lines)) i p r)
  unfolding free_slot
  free_slot-planned done r p here s key w = by (eqb (get_or (last_uses n lines (length lines)) r 0) i) refl
    where
      by : (b : Bool) → eqb (get_or (last_uses n lines (length lines)) r 0) i ≡ b → IsPlanned lines n given (IsHeld lines i (r ∷ done) given) (cond b (freed p (get_or p.slots r None)) p)
      by true e = freed-planned done r p here s key (last_here n lines i r l s here (eqb-true (get_or (last_uses n lines (length lines)) r 0) i e)) w
      by false e = kept-planned done r p (last_later n lines i r l s here (eqb-false (get_or (last_uses n lines (length lines)) r 0) i e)) w

  -- all registers of a line, with those that were done before
  record AreFreed (done rs : List ℕ) (p : Planning) : Type 0 where
    after : List ℕ
    plan : IsPlanned lines n given (IsHeld lines i after given) p
    new : (q : ℕ) → In q rs → In q after
    old : (q : ℕ) → In q done → In q after

  free_slots-planned : (done rs : List ℕ) (p : Planning) → ((r : ℕ) → In r rs → In r (get_or lines i []) × (r < n) × In r (keys_of given)) → IsPlanned lines n given (IsHeld lines i done given) p → AreFreed done rs (free_slots (last_uses n lines (length lines)) i p rs)
  unfolding free_slots
  free_slots-planned done [] p h w = record { after = done; plan = w; new = λ q j. absurd j; old = λ q j. j }
  free_slots-planned done (r ∷ rs) p h w =
      let f = h r (inl refl) in
      let u = free_slots-planned (r ∷ done) rs (free_slot (last_uses n lines (length lines)) i p r) (λ q j. h q (inr j)) (free_slot-planned done r p f.0 f.1 f.2 w) in
      record { after = u.after; plan = u.plan; new = λ q j. ⊎_elim (λ e. u.old q (inl e)) (u.new q) j; old = λ q j. u.old q (inr j) }

  -- at the start and at the end of the line
  held_from_taken : (q : ℕ) → In q (taken_at lines i given) → IsHeld lines i [] given q
  unfolding taken_at
  held_from_taken q j =
      let u = in_mapped (λ g. g.1) q (filter (λ g. span_holds lines i g.0) given) j in
      let v = (in_filter (λ g. span_holds lines i g.0) u.0 given).0 u.1 in
      record { which = u.0; is_given = v.0; holds = v.1; slot = sym u.2; kept = λ z. absurd z }

  taken_from_held : (q : ℕ) → IsHeld lines i [] given q → In q (taken_at lines i given)
  unfolding taken_at
  taken_from_held q h = let P : ℕ → Type 0 = λ x. In x (taken_at lines i given) in
      subst P h.slot (in_map (λ g. g.1) h.which (filter (λ g. span_holds lines i g.0) given) ((in_filter (λ g. span_holds lines i g.0) h.which given).1 (h.is_given, h.holds)))

  next_from_held : (done : List ℕ) → ((q : ℕ) → In q (get_or lines i []) → In q done) → (q : ℕ) → IsHeld lines i done given q → In q (taken_at lines (i + 1) given)
  unfolding taken_at
  next_from_held done whole q h =
      let parts = parts_of_span lines i h.which.0 h.holds in
      let later : After lines (i + 1) h.which.0 = ⊎_elim (λ j. h.kept (whole h.which.0 j)) (λ j. j) (after_line lines i h.which.0 l parts.1) in
      let holds : span_holds lines (i + 1) h.which.0 ≡ true = span_from lines (i + 1) h.which.0 (before_grows lines (i + 1) (i + 1 + 1) h.which.0 (omega arith) parts.0) later in
      let P : ℕ → Type 0 = λ x. In x (taken_at lines (i + 1) given) in
      subst P h.slot (in_map (λ g. g.1) h.which (filter (λ g. span_holds lines (i + 1) g.0) given) ((in_filter (λ g. span_holds lines (i + 1) g.0) h.which given).1 (h.is_given, holds)))

  held_from_next : (done : List ℕ) → (q : ℕ) → In q (taken_at lines (i + 1) given) → IsHeld lines i done given q
  unfolding taken_at
  held_from_next done q j =
      let u = in_mapped (λ g. g.1) q (filter (λ g. span_holds lines (i + 1) g.0) given) j in
      let v = (in_filter (λ g. span_holds lines (i + 1) g.0) u.0 given).0 u.1 in
      let parts = parts_of_span lines (i + 1) u.0.0 v.1 in
      let before : Before lines (i + 1) u.0.0 = line_before lines i u.0.0 l (⊎_elim inl (λ z. inr (a.done_here u.0.0 z)) (a.from u.0.0 (in_map (λ g. g.0) u.0 given v.0))) in
      record { which = u.0; is_given = v.0; holds = span_from lines i u.0.0 before (after_shrinks lines i (i + 1) u.0.0 (omega arith) parts.1); slot = sym u.2; kept = λ z. parts.1 }

  line-planned : (p : Planning) → ((r : ℕ) → In r (get_or lines i []) → (r < n) × In r (keys_of given)) → IsPlanned lines n given (λ q. In q (taken_at lines i given)) p
      → IsPlanned lines n given (λ q. In q (taken_at lines (i + 1) given)) (free_slots (last_uses n lines (length lines)) i p (get_or lines i []))
  line-planned p h w =
      let start : IsPlanned lines n given (IsHeld lines i [] given) p = record { size = w.size; same = w.same; free = same_free p.free p.count (λ q. In q (taken_at lines i given)) (IsHeld lines i [] given) held_from_taken taken_from_held w.free; used = w.used; below = w.below } in
      let u = free_slots-planned [] (get_or lines i []) p (λ r j. (j, (h r j).0, (h r j).1)) start in
      let v = u.plan in
      let q = free_slots (last_uses n lines (length lines)) i p (get_or lines i []) in
      record { size = v.size; same = v.same; free = same_free q.free q.count (IsHeld lines i u.after given) (λ x. In x (taken_at lines (i + 1) given)) (next_from_held u.after u.new) (held_from_next u.after) v.free; used = v.used; below = v.below }

get_or-same : (n r : ℕ) (o : Option ℕ) → get_or (replicate n o) r o ≡ o
get_or-same zero r o = refl
get_or-same (suc n) zero o = refl
get_or-same (suc n) (suc r) o = get_or-same n r o

module _ (lines : List (List ℕ)) (n : ℕ) (small : (r : ℕ) → In r (concat lines) → r < n) where
  line_named : (i r : ℕ) → i < length lines → In r (get_or lines i []) → In r (concat lines)
  line_named i r l h = after_named lines i r (line_after lines i r l (inl h))

  pub planned-is : (m : ℕ) → m ≤ length lines → IsPlanned lines n (given_before lines m) (λ q. In q (taken_at lines m (given_before lines m))) (planned (last_uses n lines (length lines)) lines (no_slots n) m)
  unfolding planned given_before taken_at slot_in
  planned-is zero l = record {
    size = length-replicate n None;
    same = λ r s. get_or-same n r None;
    free = record { rising = tt; each = λ k i. absurd i; all = λ k b no. absurd (omega arith); below = λ k i. absurd i };
    used = λ k b. absurd (omega arith);
    below = λ g i. absurd i;
  }
  planned-is (suc m) l =
      let at : m < length lines = omega arith in
      let line = get_or lines m [] in
      let p = planned (last_uses n lines (length lines)) lines (no_slots n) m in
      let old = planned-is m (omega arith) in
      let done = give_each-given lines m [] (given_before lines m) line at (given_before-given lines m (omega arith)) (λ r j. j) in
      let given = give_each lines m (given_before lines m) line in
      let made : IsPlanned lines n given (λ q. In q (taken_at lines m given)) (give_slots p line) =
      give_each-planned lines n m (given_before lines m) line p (λ r j. (small r (line_named m r at j), span_from lines m r (line_before lines m r at (inr j)) (line_after lines m r at (inl j)))) old in
      let w = line-planned lines n m at done.all given done.fits (give_slots p line) (λ r j. (small r (line_named m r at j), done.fits.into r (inr (done.new r j)))) made in
      let P : ℕ → Type 0 = λ k. IsPlanned lines n given (λ q. In q (taken_at lines k given)) (free_slots (last_uses n lines (length lines)) m (give_slots p line) line) in
      subst P (add-one m) w

  before_named : (k q : ℕ) → Before lines k q → In q (concat lines)
  before_named k q b =
      let P : List (List ℕ) → Type 0 = λ xs. In q (concat xs) in
      ⊎_elim (λ (e : length lines < k). subst P (take_all k lines (omega arith)) b)
      (λ (e : k ≤ length lines). subst P (take_all (length lines) lines (omega arith)) (before_grows lines k (length lines) q e b))
      (cases_lt (length lines) k)

  -- no more numbers than registers were used
  pub count_small : (m : ℕ) → m ≤ length lines → (planned (last_uses n lines (length lines)) lines (no_slots n) m).count ≤ n
  count_small m l =
      let given = given_before lines m in
      let a = given_before-given lines m l in
      let w = planned-is m l in
      let few : (planned (last_uses n lines (length lines)) lines (no_slots n) m).count ≤ length (map (λ g. g.1) given) =
      le-length_from_below (map (λ g. g.1) given) (planned (last_uses n lines (length lines)) lines (no_slots n) m).count (λ q b. member_from_in (map (λ g. g.1) given) q (w.used q b)) in
      let named : (q : ℕ) → In q (keys_of given) → q < n = λ q j. small q (⊎_elim (λ b. before_named m q b) (λ z. absurd z) (a.from q j)) in
      let many : length (keys_of given) ≤ n = length-le_from_distinct_below (keys_of given) n (distinct (keys_of given) a.apart) (λ q j. named q (in_from_member (keys_of given) q j)) in
      omega (arith, length-map given (λ g. g.0), length-map given (λ g. g.1))

  used_few : (count : ℕ) → ((g : ℕ × ℕ) → In g (given_before lines (length lines)) → g.1 < count) → slots_used lines (first_fit lines) ≤ count
  unfolding slots_used
  used_few count below = few_below (map (first_fit lines) (concat lines)) count (λ q j.
      let u = in_mapped (first_fit lines) q (concat lines) j in
      let s = slot_of lines u.0 u.1 in
      subst (λ x. x < count) (sym (u.2 ∙ first_fit-is lines u.0 u.1)) (below (u.0, s.slot) s.is_in))

  -- once all registers have their slots it is the first-fit plan, and as many numbers as the width were used
  module _ (m : ℕ) (within : m ≤ length lines) (all_given : given_before lines m ≡ given_before lines (length lines)) where
    pub slot-is : (r : ℕ) → r < n → slot_or_0 (get_or (planned (last_uses n lines (length lines)) lines (no_slots n) m).slots r None) ≡ first_fit lines r
    unfolding first_fit
    slot-is r s = ap slot_or_0 ((planned-is m within).same r s ∙ ap (λ given. slot_in given r) all_given)

    pub count-is : (planned (last_uses n lines (length lines)) lines (no_slots n) m).count ≡ width lines
    count-is =
        let p = planned (last_uses n lines (length lines)) lines (no_slots n) m in
        let P : Given → Type 0 = λ given. IsPlanned lines n given (λ q. In q (taken_at lines m given)) p in
        let w = subst P all_given (planned-is m within) in
        let a = given_before-given lines (length lines) (omega arith) in
        let narrow = first_fit-narrow lines in
        let up : p.count ≤ width lines = ⊎_elim
        (λ (b : width lines < p.count). let u = in_mapped (λ g. g.1) (width lines) (given_before lines (length lines)) (w.used (width lines) b) in let c : u.0.1 < width lines = a.small u.0 u.1 in let e : width lines ≡ u.0.1 = u.2 in absurd (omega arith))
        (λ (b : p.count ≤ width lines). b)
        (cases_lt (width lines) p.count) in
        let down : width lines ≤ p.count = subst (λ x. x ≤ p.count) narrow.used (used_few p.count w.below) in
        le_antisymm up down
