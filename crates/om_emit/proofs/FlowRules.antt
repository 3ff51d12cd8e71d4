-- The flows of a canonical graph keep the rules of programs.
use Rattle.std.proofs.Common.{◌≡◌, ℕ, zero, suc, ◌+◌, ◌-◌, ◌<◌, ◌≤◌, List, [], ◌∷◌, length, map, Bool, true, false, cond, eqb, leb, not, ◌&&◌, inl, inr, ⊎_elim, refl, sym, ◌∙◌, ap, ap₂, subst, arith, true≢false, Some, slice_get}
use Rattle.std.specs.Prelude.{slice_index, nat_lt}
use Rattle.std.specs.List.{AllByRecursion}
use Rattle.std.specs.Ordering.{is_lt, nat_cmp}
use Rattle.std.specs.Cmp.Lexicographic.{slice_cmp}
use Rattle.std.specs.declared.cmp.Ordering.{Ordering}
use Rattle.std.specs.declared.cmp.Ordering.TheVariants.{Less, Equal, Greater}
use Rattle.std.proofs.lemmas.Bool.{eqb-true, ne_eqb}
use Rattle.std.proofs.lemmas.Bool.Decides.{nat_tests}
use Rattle.std.proofs.lemmas.List.{length-map}
use Rattle.std.proofs.lemmas.Option.{same_Some, none-some, slice_get_within}
use Rattle.om_ring.specs.Members.{In}
use Rattle.om_legs.specs.Legs.{all_legs, holds}
use Rattle.om_legs.proofs.Operations.{IsLegSet-all_legs, holds-all_legs}
use Rattle.om_colour.specs.declared.Choice.{Choice}
use Rattle.om_colour.specs.declared.Flow.{Flow}
use Rattle.om_colour.specs.declared.SlotPartials.{SlotPartials}
use Rattle.om_colour.specs.Choices.{goes_to}
use Rattle.om_colour.specs.Lines.{ends_line, starts_line}
use Rattle.om_colour.specs.Partials.{Fits, end_at, into_at, joined_end, no_hole, part_at}
use Rattle.om_colour.proofs.JoinedLines.{each_leg-at}
use Rattle.om_colour.proofs.JoinedSound.{into_small, once_joined, target_is, way}
use Rattle.om_model.specs.Diagram.{times_in}
use Rattle.om_model.specs.FermionLines.{Kinds}
use Rattle.om_model.specs.Model.{colour_of_field, field_of_leg}
use Rattle.om_model.specs.ModelLines.{kinds_of}
use Rattle.om_model.specs.ProcessOf.{IsProcessOf}
use Rattle.om_model.specs.WellFormed.{IsWellFormed}
use Rattle.om_model.specs.declared.model.Model.{Model}
use Rattle.om_model.specs.declared.process.Leg.{Leg}
use Rattle.om_model.specs.declared.process.Process.{Process}
use Rattle.om_model.proofs.Counting.{both, in_of_times, same_times, times_of_in}
use Rattle.om_model.proofs.Filling.{fields}
use Rattle.om_graph.specs.declared.Graph.{Graph}
use Rattle.om_graph.specs.declared.Key.{Key}
use Rattle.om_graph.specs.Possible.{flow_lt}
use Rattle.om_graph.specs.Reactions.{reaction_of}
use Rattle.om_graph.specs.TreeKeys.{IsReaction}
use Rattle.om_graph.specs.Vertices.{Closes, Reaction, branch, closed_slots, fusion, slot_partials}
use Rattle.om_graph.specs.Vertices as vertices
use Rattle.om_graph.proofs.ColoursFit.{nodes_close}
use Rattle.om_graph.proofs.FoundOrder.{lists_agree}
use Rattle.om_graph.proofs.HaveReactions.{well_formed_have_reactions}
use Rattle.om_ring.proofs.Members.{in_map}
use Rattle.om_graph.proofs.SetNodes.{in_by_number, nodes_of, number_of}
use Rattle.om_keystone.specs.CanonicalGraph.{IsCanonicalOf}
use Rattle.om_keystone.specs.InDiagrams.{IsFlowMet}
use Rattle.om_keystone.proofs.Numbers.{rising_at}
use Rattle.om_code.specs.declared.code.Code.{Code}
use Rattle.om_code.specs.Plain.{IsPlainFlow}
use Rattle.om_code.specs.Rules.{IsFlow, ends_at, is_leg_of_flow, size_of, starts_at}
use Rattle.om_emit.specs.GraphCode.{IsCodeOf}
use Rattle.om_emit.proofs.GraphHelds.{as_many_legs}
use Rattle.om_emit.proofs.HeldFinds.{and_both}
use Rattle.om_emit.proofs.RowsPlain.{all_rows}
use Rattle.om_emit.proofs.LineEnds.{IsExact}
use Rattle.om_emit.proofs.NodeLines.{begins_at, branch_fields, branches_exact, in_their_slots, of_branches, same_exact, slots_exact}
use Rattle.om_emit.proofs.NodeLines as lines

-- the ends of a flow: exact, and none of two lines
record IsEndsOf (begin end : ℕ → Bool) (n : ℕ) (w : Flow) : Type 0 where
  long : length w.ends ≡ 12
  most : (k : ℕ) → k < 12 → slice_index w.ends k ≤ 12
  exact : IsExact begin end (λ l. holds (all_legs n) l) (λ k. slice_index w.ends k) 0
  once : (k j : ℕ) → k < 12 → j < 12 → 0 < slice_index w.ends k → slice_index w.ends k ≡ slice_index w.ends j → k ≡ j

closed_most : (q : SlotPartials) (c : Choice) → Fits q c no_hole → (k : ℕ) → k < 12 → joined_end q c no_hole k ≤ 12
closed_most q c fit k l = by (joined_end q c no_hole k) refl
  where
    by : (e : ℕ) → joined_end q c no_hole k ≡ e → joined_end q c no_hole k ≤ 12
    by zero p = omega (arith, p)
    by (suc e) p =
        let w = way q c no_hole refl fit k (suc e) (omega arith) p in
        ⊎_elim
        (λ a. ⊎_elim
        (λ b. absurd (let t : goes_to c w.slot ≡ 5 = b.0 in let m = fit.choice.slots w.slot w.is_slot in omega (arith, t, m)))
        (λ b. let t : into_at (part_at q (goes_to c w.slot)) ≡ suc e = b.1 in let m = into_small q c no_hole refl fit (goes_to c w.slot) (fit.choice.slots w.slot w.is_slot) (omega (arith, t)) in omega (arith, t, m, p))
        (target_is q c no_hole refl fit (goes_to c w.slot) (suc e) a.1))
        (λ a. let t : end_at (part_at q w.slot) k ≡ suc e = a.0 in let m = (fit.sound w.slot w.is_slot).ends k l in let n = a.1 in omega (arith, t, m, n, p))
        w.way

module _ (r : Reaction) (kinds : Kinds) (is : IsReaction r kinds) where
  closed_ends : (v ch : ℕ) (ks : List Key) (w : Flow) → Closes r v ch ks w → Fits (slot_partials (closed_slots r v ks)) (r.choice v ch) no_hole → ((b : Key) → In b ks → lines.IsExactKey (begins_at r kinds is) (lines.ends_at r kinds is) b)
      → IsEndsOf (begins_at r kinds is) (lines.ends_at r kinds is) r.scattering.size w
  unfolding closed_slots
  closed_ends v ch ks w close fit each =
      let slots = closed_slots r v ks in
      let q = slot_partials slots in
      let c = r.choice v ch in
      let times : (x : ℕ) → times_in x (r.scattering.theory.slots v) ≡ times_in x (fields (map (branch r) ks)) = λ x.
      sym (same_times (vertices.fields_of ks) (r.scattering.theory.slots v) close.slots x) ∙ ap (times_in x) (sym (branch_fields r ks)) in
      let their = in_their_slots r v (map (branch r) ks) times in
      let long = their.long in
      let branches = length-map ks (branch r) in
      let few : length ks ≤ 4 = ⊎_elim (λ (e : length ks ≡ 3). omega arith) (λ (e : length ks ≡ 4). omega arith) close.counted in
      let n = r.scattering.size in
      let made : IsExact (begins_at r kinds is) (lines.ends_at r kinds is) (λ l. holds (all_legs n) l) (joined_end q c no_hole) 0 =
      slots_exact (begins_at r kinds is) (lines.ends_at r kinds is) slots ks (omega (arith, long, branches, few)) (λ b i. their.into (branch r b) (in_map (branch r) b ks i))
      (λ b i. let f = their.from (Some b) i in of_branches r b ks f.0 f.1 f.2)
      (length ks) (all_legs n) (IsLegSet-all_legs n) close.split each c no_hole refl fit 0 (λ i. absurd (let m = i.1 in omega (arith, m))) (λ p. absurd (omega arith)) in
      let at : (k : ℕ) → k < 12 → slice_index w.ends k ≡ joined_end q c no_hole k = λ k l. ap (λ (u : Flow). slice_index u.ends k) close.flow ∙ each_leg-at (joined_end q c no_hole) k l in
      record {
        long = ap (λ (u : Flow). length u.ends) close.flow;
        most = λ k l. let a = at k l in let m = closed_most q c fit k l in omega (arith, a, m);
        exact = same_exact (begins_at r kinds is) (lines.ends_at r kinds is) (λ l. holds (all_legs n) l) (joined_end q c no_hole) (λ k. slice_index w.ends k) 0 0 at refl made;
        once = λ k j lk lj p e. once_joined q c no_hole refl fit k j lk lj (let a = at k lk in omega (arith, a, p)) (sym (at k lk) ∙ e ∙ at j lj);
      }

  flow_ends : (w : Flow) → IsFlowMet (fusion r) w → IsEndsOf (begins_at r kinds is) (lines.ends_at r kinds is) r.scattering.size w
  flow_ends w h =
      let a = h.0 in
      let o = h.1 in
      closed_ends a.vertex a.choice o.keys w o.close (nodes_close r kinds is a.vertex a.choice o.keys (record {
        nodes = nodes_of (fusion r) a.parts o.keys o.have;
        vertex = o.close.vertex;
        choice = o.close.choice;
        counted = o.close.counted;
        split = o.close.split;
        slots = o.close.slots;
      })) (branches_exact r kinds is a.parts o.keys o.have)

-- how often an end stands in a list
at_index : (xs : List ℕ) (n x : ℕ) → slice_get xs n ≡ Some x → slice_index xs n ≡ x
at_index [] n x e = absurd (none-some x e)
at_index (y ∷ xs) zero x e = same_Some y x e
at_index (y ∷ xs) (suc n) x e = at_index xs n x e

in_at : (xs : List ℕ) (n : ℕ) → n < length xs → In (slice_index xs n) xs
in_at [] n l = absurd (omega arith)
in_at (x ∷ xs) zero l = inl refl
in_at (x ∷ xs) (suc n) l = inr (in_at xs n (omega arith))

place_in : (e : ℕ) (xs : List ℕ) → In e xs → (n : ℕ) × (n < length xs) × (slice_index xs n ≡ e)
place_in e xs i = let n = number_of e xs i in (n.0, slice_get_within xs n.0 e n.1, at_index xs n.0 e n.1)

none_times : (e : ℕ) (xs : List ℕ) → (In e xs → ⊥) → times_in e xs ≡ 0
none_times e xs h = by (times_in e xs) refl
  where
    by : (n : ℕ) → times_in e xs ≡ n → times_in e xs ≡ 0
    by zero q = q
    by (suc n) q = absurd (h (in_of_times e xs (omega arith)))

pub times_once : (e : ℕ) (xs : List ℕ) → ((k j : ℕ) → k < length xs → j < length xs → slice_index xs k ≡ e → slice_index xs j ≡ e → k ≡ j) → times_in e xs ≤ 1
unfolding times_in
times_once e [] h = omega arith
times_once e (x ∷ xs) h = by (eqb e x) refl (times_once e xs (λ k j lk lj a b. let s = h (suc k) (suc j) (omega arith) (omega arith) a b in omega (arith, s)))
  where
    none_later : eqb e x ≡ true → In e xs → ⊥
    none_later q i = let n = place_in e xs i in let m = n.1 in let s = h 0 (suc n.0) (omega arith) (omega (arith, m)) (sym (eqb-true e x q)) n.2 in omega (arith, s)

    by : (b : Bool) → eqb e x ≡ b → times_in e xs ≤ 1 → cond b 1 0 + times_in e xs ≤ 1
    by true q ih = let z = none_times e xs (none_later q) in omega (arith, z)
    by false q ih = omega (arith, ih)

less_of : (o : Ordering) → is_lt o ≡ true → o ≡ Less
less_of Less e = refl
less_of Equal e = absurd (true≢false (sym e))
less_of Greater e = absurd (true≢false (sym e))

module _ (m : Model) (p : Process) (formed : IsWellFormed m) (is : IsProcessOf m p) (g : Graph) (canonical : IsCanonicalOf (reaction_of m p) g) (c : Code) (code : IsCodeOf m p g c) where
  abbrev r : Reaction
  r = reaction_of m p

  abbrev kinds : Kinds
  kinds = kinds_of m.particles

  abbrev n : ℕ
  n = length p.legs

  reaction : IsReaction r kinds
  reaction = well_formed_have_reactions m p formed is

  abbrev begin : ℕ → Bool
  begin = begins_at r kinds reaction

  abbrev end : ℕ → Bool
  end = lines.ends_at r kinds reaction

  leg_field : (legs : List Leg) (k : ℕ) → slice_index (map (λ (leg : Leg). leg.field) legs) k ≡ field_of_leg (slice_get legs k)
  leg_field [] k = refl
  leg_field (leg ∷ legs) zero = refl
  leg_field (leg ∷ legs) (suc k) = leg_field legs k

  -- a leg of the code, counted from 0, by the leg of the process
  its_colour : (k : ℕ) → colour_of_field c.model.particles (slice_index c.legs k) ≡ r.colour (r.scattering.field (k + 1))
  its_colour k =
      let at : k ≡ k + 1 - 1 = omega arith in
      ap₂ (λ (x : Model) f. colour_of_field x.particles f) code.same_model (ap (λ fs. slice_index fs k) code.legs ∙ leg_field p.legs k ∙ ap (λ j. field_of_leg (slice_get p.legs j)) at)

  its_leg : (k : ℕ) → nat_lt k (size_of c) ≡ holds (all_legs n) (k + 1)
  its_leg k = ap (nat_lt k) (as_many_legs m p formed is g canonical c code) ∙ same k n ∙ sym (holds-all_legs n (k + 1) reaction.most (omega arith))
    where
      same : (a b : ℕ) → nat_lt a b ≡ leb (a + 1) b
      same a b = grind (arith, nat_tests)

  starts_same : (k : ℕ) → starts_at c k ≡ (holds (all_legs n) (k + 1) && begin (k + 1))
  starts_same k = ap₂ (λ a x. a && starts_line x) (its_leg k) (its_colour k)

  ends_same : (k : ℕ) → ends_at c k ≡ (holds (all_legs n) (k + 1) && end (k + 1))
  ends_same k = ap₂ (λ a x. a && ends_line x) (its_leg k) (its_colour k)

  module _ (w : Flow) (h : IsEndsOf begin end n w) where
    starts_right : (k : ℕ) → k < 12 → (b : Bool) → starts_at c k ≡ b → eqb (cond b 1 0) (cond (nat_lt 0 (slice_index w.ends k)) 1 0) ≡ true
    starts_right k l true e =
        let two = both (holds (all_legs n) (k + 1)) (begin (k + 1)) (sym (starts_same k) ∙ e) in
        let some = h.exact.begins k l two.0 two.1 in
        let t : nat_lt 0 (slice_index w.ends k) ≡ true = grind (arith, nat_tests) in
        ap (λ b. eqb 1 (cond b 1 0)) t
    starts_right k l false e = by (slice_index w.ends k) refl
      where
        by : (x : ℕ) → slice_index w.ends k ≡ x → eqb 0 (cond (nat_lt 0 x) 1 0) ≡ true
        by zero q = refl
        by (suc x) q =
            let two = h.exact.begun k l (omega (arith, q)) in
            absurd (true≢false (sym (and_both (holds (all_legs n) (k + 1)) (begin (k + 1)) two.0 two.1) ∙ sym (starts_same k) ∙ e))

    -- where a line ends, it is one
    ends_right : (k : ℕ) → k < 12 → (b : Bool) → ends_at c k ≡ b → eqb (times_in (k + 1) w.ends) (cond b 1 0) ≡ true
    ends_right k l true e =
        let two = both (holds (all_legs n) (k + 1)) (end (k + 1)) (sym (ends_same k) ∙ e) in
        let long = h.long in
        let some : 0 < times_in (k + 1) w.ends = ⊎_elim
        (λ (j : (j : ℕ) × (j < 12) × (slice_index w.ends j ≡ k + 1)). times_of_in (k + 1) w.ends (subst (λ x. In x w.ends) j.2 (in_at w.ends j.0 (let lj = j.1 in omega (arith, lj, long)))))
        (λ (q : 0 ≡ k + 1). absurd (omega (arith, q)))
        (h.exact.finish k l two.0 two.1) in
        let few = times_once (k + 1) w.ends (λ i j li lj a b. h.once i j (omega (arith, li, long)) (omega (arith, lj, long)) (omega (arith, a)) (a ∙ sym b)) in
        grind (arith, nat_tests)
    ends_right k l false e =
        let long = h.long in
        let none = none_times (k + 1) w.ends (λ i.
        let j = place_in (k + 1) w.ends i in
        let lj = j.1 in
        let two = h.exact.finished (k + 1) (omega arith) (omega (arith, l)) (inl (j.0, omega (arith, lj, long), j.2)) in
        true≢false (sym (and_both (holds (all_legs n) (k + 1)) (end (k + 1)) two.0 two.1) ∙ sym (ends_same k) ∙ e)) in
        grind (arith, nat_tests)

    leg_right : (k : ℕ) → k < 12 → is_leg_of_flow c w.ends k ≡ true
    leg_right k l =
        let first = eqb (cond (starts_at c k) 1 0) (cond (nat_lt 0 (slice_index w.ends k)) 1 0) in
        let second = not (eqb (slice_index w.ends k) (k + 1)) in
        and_both (first && second) (eqb (times_in (k + 1) w.ends) (cond (ends_at c k) 1 0))
        (and_both first second (starts_right k l (starts_at c k) refl) (ap not (ne_eqb (slice_index w.ends k) (k + 1) (h.exact.away k l))))
        (ends_right k l (ends_at c k) refl)

    plain : IsPlainFlow w
    plain = all_rows (λ e. e ≤ 12) w.ends (λ k e at. let small = slice_get_within w.ends k e at in let long = h.long in let most = h.most k (omega (arith, small, long)) in let same = at_index w.ends k e at in omega (arith, same, most))

  its_ends : (k : ℕ) (w : Flow) → slice_get c.flows k ≡ Some w → IsEndsOf begin end n w
  its_ends k w e = flow_ends r kinds reaction w ((canonical.graph.flows w).0 (in_by_number g.flows k w (ap (λ ws. slice_get ws k) (sym code.flows) ∙ e)))

  pub plain_flows : AllByRecursion IsPlainFlow c.flows
  plain_flows = all_rows IsPlainFlow c.flows (λ k w e. plain w (its_ends k w e))

  pub flows_keep : (k : ℕ) (w : Flow) → slice_get c.flows k ≡ Some w → IsFlow c k w
  unfolding flow_lt
  flows_keep k w e = record {
    legs = λ j l. leg_right w (its_ends k w e) j l;
    behind = λ earlier l f.
        let rise : flow_lt earlier w ≡ true = rising_at flow_lt g.flows canonical.graph.flows_rise (k - 1) k earlier w (ap (λ ws. slice_get ws (k - 1)) (sym code.flows) ∙ f) (ap (λ ws. slice_get ws k) (sym code.flows) ∙ e) (omega arith) in
        less_of (slice_cmp nat_cmp earlier.ends w.ends) (lists_agree earlier.ends w.ends ∙ rise);
  }
