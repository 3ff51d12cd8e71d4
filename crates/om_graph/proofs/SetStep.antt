-- What is found over one set makes one step of the walk.
use Rattle.std.proofs.Common.{◌≡◌, ℕ, ◌+◌, ◌-◌, ◌<◌, ◌≤◌, List, [], ◌∷◌, ◌++◌, map, flat_map, length, Bool, true, false, cond, ltb, ◌⊎◌, inl, inr, refl, ap, ap₂, sym, subst, ◌∙◌, arith, true≢false, Option, Some, None, Result, Ok, Err, IsPermutation, IsSortedBy}
use Rattle.std.specs.List.{filter}
use Rattle.std.specs.Prelude.{All, OnOk, IfErr}
use Rattle.std.proofs.lemmas.Bool.{lt-ltb}
use Rattle.std.proofs.lemmas.List.{length-map}
use Rattle.std.proofs.lemmas.List.Sorted.{IsPermutation-map, All-permutation}
use Rattle.std.proofs.lemmas.Option.{same_Some}
use Rattle.om_ring.specs.Members.{In, Different}
use Rattle.om_legs.specs.Legs.{IsLegSet, complement}
use Rattle.om_legs.specs.Splits.{AreSplits}
use Rattle.om_legs.specs.Walks.{pairs, triples}
use Rattle.om_legs.proofs.Exact.{AreSplits-pairs, AreSplits-triples}
use Rattle.om_model.specs.Order.{rising_of}
use Rattle.om_model.proofs.EdgesUncut.{both_true}
use Rattle.om_graph.specs.declared.BuildFault.{BuildFault}
use Rattle.om_graph.specs.declared.BuildFault.TheVariants.{Memory, TooLarge}
use Rattle.om_graph.specs.declared.Key.{Key}
use Rattle.om_graph.specs.declared.Term.{Term}
use Rattle.om_graph.specs.declared.TheConstants.{MOST_TERMS}
use Rattle.om_graph.specs.declared.fusions.Fused.{Fused}
use Rattle.om_graph.specs.Caches.{StandLast}
use Rattle.om_graph.specs.Fusion.{IsNode}
use Rattle.om_graph.specs.Graph.{Found, found_lt, at_numbers}
use Rattle.om_graph.specs.Loops.{CanMeetOver, Signed, counts, four_nodes, fused_at, fused_by, fused_found, fused_key, fused_seen, fused_with, meet_fused, meetings_of, met_parts}
use Rattle.om_graph.specs.Possible.{key_lt, state_of, unsigned}
use Rattle.om_graph.specs.Search.{State, add_all, nodes_over, step, walk}
use Rattle.om_graph.specs.SetSearch.{found_fused, found_in, set_search, splits_of, uncut_splits}
use Rattle.om_graph.specs.SetWalk.{CanWalk, HasFoundSign, HaveSigns, IsOver, Walks}
use Rattle.om_graph.specs.Tuples.{met_over_all}
use Rattle.om_graph.specs.Vertices.{Reaction, fields_of, fusion, fused_minus, is_outward, keeps_edges}
use Rattle.om_graph.proofs.Adding.{adding_is_step}
use Rattle.om_graph.proofs.FoundMembers.{meets_fused}
use Rattle.om_ring.proofs.Members.{in_map, in_mapped, from_flat_map}
use Rattle.om_graph.proofs.Meetable.{can_meet}
use Rattle.om_graph.proofs.MeetingFields.{same_count}
use Rattle.om_graph.proofs.NodeRanges.{none_stand_last}
use Rattle.om_graph.proofs.Orders.{key_order}
use Rattle.om_graph.proofs.SignedLists.{all_of_members, found_where, length_at_numbers, made_by, take_shorter}
use Rattle.om_graph.proofs.Sorted.{sorted_is_rising, sorted_map}
use Rattle.om_graph.proofs.Numbers.{found_order}
use Rattle.om_graph.proofs.SplitMembers.{is_search, found_once}
use Rattle.om_graph.proofs.SplitLists.{same_splits}
use Rattle.om_graph.proofs.Splits.{steps_count}

-- how nodes with these keys make what was found
record FusedBy (r : Reaction) (is : List ℕ) (ks : List Key) (x : Signed Key) : Type 0 where
  f : ℕ
  v : ℕ
  c : ℕ
  same : x ≡ fused_at r is ks f v c

fused_by_nodes : (r : Reaction) (is : List ℕ) (ks : List Key) (x : Signed Key) → In x (meet_fused r is ks) → FusedBy r is ks x
unfolding meet_fused
fused_by_nodes r is ks x i = let f = from_flat_map (fused_by r is ks) x (meetings_of r false (fields_of ks)) i in by f.0.vertex f.0.up f.2
  where
    by : (v : ℕ) (o : Option ℕ) → In x (fused_with r is ks v o) → FusedBy r is ks x
    by v None i = absurd i
    by v (Some f) i = let g = from_flat_map (λ c. fused_at r is ks f v c ∷ []) x (counts (r.scattering.theory.choices v)) i in one f v g.0 g.2
      where
        one : (f v c : ℕ) → In x (fused_at r is ks f v c ∷ []) → FusedBy r is ks x
        one f v c (inl e) = record { f = f; v = v; c = c; same = e }
        one f v c (inr b) = absurd b

module _ (r : Reaction) (ns : List Key) (ts : List Term) (set : ℕ) (w : IsLegSet set) (o : is_outward r.scattering.size set ≡ true) (can : CanWalk r ns ts (set ∷ [])) where
  nodes_known : (k : Key) → In k ns → IsNode (fusion r) k
  nodes_known k i = ((can.have.nodes.members k).0 i).0

  not_yet : (k : Key) → In k ns → k.legs ≡ set → ⊥
  not_yet k i e = can.ready.0.new (subst (λ s. In s can.done) e ((can.have.nodes.members k).0 i).1)

  pub can_meet_over : CanMeetOver r ns set
  can_meet_over n parts c split = can_meet r can.kinds can.reaction ns nodes_known n set parts c w split

  pub none_over : StandLast ns set
  none_over = none_stand_last ns set not_yet

  module _ (twos threes : List (List ℕ)) (h : AreSplits 2 set twos) (g : AreSplits 3 set threes) where
    abbrev pub signed : List (Signed Key)
    signed = flat_map (met_parts r (meet_fused r) ns (complement set r.scattering.size)) twos ++ flat_map (met_parts r (meet_fused r) ns (complement set r.scattering.size)) threes

    test : List ℕ → Bool
    test parts = keeps_edges r (complement set r.scattering.size ∷ parts)

    found_is : found_in signed ≡ (set_search r).found ns set
    unfolding met_parts splits_of uncut_splits found_fused test
    found_is =
        found_where (meet_fused r) ns test twos threes
        ∙ ap (λ ss. met_over_all (λ (k : Key). k.legs) (found_fused r) ns (filter test ss)) (ap₂ ◌++◌ (same_splits 2 set twos (pairs set) h (AreSplits-pairs set w)) (same_splits 3 set threes (triples set) g (AreSplits-triples set w)))
        ∙ ap (λ b. met_over_all (λ (k : Key). k.legs) (found_fused r) ns (cond b (uncut_splits r set) [])) (sym (both_true (is_outward r.scattering.size set) (ltb set 4096) o (lt-ltb set 4096 w)))

    -- what is known of each
    record IsKnown (x : Signed Key) : Type 0 where
      set_is : x.found.made.legs ≡ set
      ends : length x.found.made.partial.ends ≡ 12
      counted : length x.found.branches + 1 ≡ length (r.scattering.theory.slots x.found.vertex)
      several : 2 ≤ length x.found.branches
      keys : List Key
      are : at_numbers ns x.found.branches ≡ Some keys
      sign : x.minus ≡ fused_minus r x.found.made.field x.found.vertex x.found.made.legs keys

    known : (x : Signed Key) → In x signed → IsKnown x
    unfolding met_parts test fused_at fused_key found_fused
    known x i =
        let m = made_by (meet_fused r) ns test twos threes x i in
        let f = fused_by_nodes r m.numbers m.keys x m.met_now in
        let e = ((is_search r can.reaction.fields).exact ns set x.found).0 (subst (In x.found) found_is (in_map (λ (y : Signed Key). y.found) x signed i)) in
        let mk = ((meets_fused r can.reaction.fields).exact m.numbers m.keys x.found).0 (in_map (λ (y : Signed Key). y.found) x (meet_fused r m.numbers m.keys) m.met_now) in
        let b : x.found.branches ≡ m.numbers = mk.0 in
        let l = length_at_numbers ns m.numbers m.keys m.are in
        let n = ap length b in
        let c = same_count (r.scattering.theory.anti x.found.made.field ∷ fields_of m.keys) (r.scattering.theory.slots x.found.vertex) mk.1.slots in
        let d = length-map m.keys (λ (k : Key). k.field) in
        let fk : e.1.0 ≡ m.keys = same_Some e.1.0 m.keys (sym e.1.1 ∙ ap (at_numbers ns) b ∙ m.are) in
        record {
          set_is = e.0;
          ends = ap (λ (y : Signed Key). length y.found.made.partial.ends) f.same;
          counted = omega (arith, l, n, c, d);
          several = two (length e.1.0) (length x.found.branches) (let q = ap length fk in omega (arith, l, n, q)) e.1.2.counted;
          keys = m.keys;
          are = ap (at_numbers ns) b ∙ m.are;
          sign = subst (λ (y : Signed Key). y.minus ≡ fused_minus r y.found.made.field y.found.vertex y.found.made.legs m.keys) (sym f.same) refl;
        }
      where
        two : (a b : ℕ) → a ≡ b → (a ≡ 2) ⊎ (a ≡ 3) → 2 ≤ b
        two a b e (inl q) = omega (arith, e, q)
        two a b e (inr q) = omega (arith, e, q)

    signed_length : length signed ≡ length ((set_search r).found ns set)
    signed_length = sym (length-map signed (λ (x : Signed Key). x.found)) ∙ ap length found_is

    -- past the limit there are too many terms
    pub step_large : (old : List Fused) (limit : ℕ) → old ≡ [] → limit ≡ MOST_TERMS - length ts → limit < length (map fused_seen old) + length signed → MOST_TERMS < length (walk (fusion r) (set_search r) (state_of ns ts) (set ∷ [])).terms
    unfolding walk
    step_large old limit none e l =
        let a = ((steps_count (fusion r) (set_search r) key_order (found_once r can.reaction.fields)).0 (state_of ns ts) set) in
        let b = length-map ts unsigned in
        let c = signed_length in
        let d = ap (λ (xs : List Fused). length (map fused_seen xs)) none in
        let f = can.few in
        omega (arith, a, b, c, d, e, f, l)

    module _ (old unsorted : List Fused) (none : old ≡ []) (are : map fused_seen unsorted ≡ map fused_seen old ++ signed) where
      seen_are : map fused_seen unsorted ≡ signed
      seen_are = are ∙ ap (λ (xs : List Fused). map fused_seen xs ++ signed) none

      known_found : (y : Fused) → In y unsorted → IsKnown (fused_seen y)
      known_found y i = known (fused_seen y) (subst (In (fused_seen y)) seen_are (in_map fused_seen y unsorted i))

      slots_less_one : ℕ → ℕ
      slots_less_one v = length (r.scattering.theory.slots v) - 1

      pub all_over : (s : ℕ) × (counts : ℕ → ℕ) × All (IsOver s counts) unsorted
      unfolding slots_less_one
      all_over = (set, slots_less_one, all_of_members (IsOver set slots_less_one) unsorted (λ y i. let k = known_found y i in record { legs = k.set_is; ends = k.ends; counted = let c = k.counted in omega (arith, c) }))

      found_list : map fused_found unsorted ≡ (set_search r).found ns set
      found_list = without unsorted ∙ ap found_in seen_are ∙ found_is
        where
          without : (ys : List Fused) → map fused_found ys ≡ found_in (map fused_seen ys)
          without [] = refl
          without (y ∷ ys) = ap (λ zs. fused_found y ∷ zs) (without ys)

      pub found_length : length unsorted ≡ length ((set_search r).found ns set)
      found_length = sym (length-map unsorted fused_found) ∙ ap length found_list

      counted_step : length (walk (fusion r) (set_search r) (state_of ns ts) (set ∷ [])).terms ≡ length ts + length unsorted
      unfolding walk
      counted_step =
          let a = ((steps_count (fusion r) (set_search r) key_order (found_once r can.reaction.fields)).0 (state_of ns ts) set) in
          let b = length-map ts unsigned in
          let c = found_length in
          omega (arith, a, b, c)

      pub step_fits : length unsorted ≤ MOST_TERMS - length ts → length (walk (fusion r) (set_search r) (state_of ns ts) (set ∷ [])).terms ≤ MOST_TERMS
      step_fits l = let f = can.few in let c = counted_step in omega (arith, l, f, c)

      module _ (sorted : List Fused) (p : IsPermutation unsorted sorted) where
        pub sorted_over : (s : ℕ) × StandLast ns s × All (λ (y : Fused). y.key.legs ≡ s) sorted
        sorted_over = (set, none_over, All-permutation (λ (y : Fused). y.key.legs ≡ set) unsorted sorted p (all_of_members (λ (y : Fused). y.key.legs ≡ set) unsorted (λ y i. (known_found y i).set_is)))

        pub sorted_several : All (λ (y : Fused). 2 ≤ y.branches.count) sorted
        sorted_several = All-permutation (λ (y : Fused). 2 ≤ y.branches.count) unsorted sorted p
            (all_of_members (λ (y : Fused). 2 ≤ y.branches.count) unsorted (λ y i. let s = (known_found y i).several in let l = take_shorter y.branches.count (four_nodes y.branches) in omega (arith, s, l)))

        pub sorted_signs : All (HasFoundSign r ns) sorted
        sorted_signs = All-permutation (HasFoundSign r ns) unsorted sorted p (all_of_members (HasFoundSign r ns) unsorted (λ y i. let k = known_found y i in (k.keys, k.are, k.sign)))

        module _ (s : IsSortedBy (λ (x y : Fused). found_lt key_lt (fused_found x) (fused_found y)) sorted) where
          in_order : map fused_found sorted ≡ rising_of (found_lt key_lt) ((set_search r).found ns set)
          in_order =
              sorted_is_rising (found_lt key_lt) (found_order key_lt key_order) (map fused_found unsorted) (map fused_found sorted)
              (subst Different (sym found_list) (found_once r can.reaction.fields ns set)) (IsPermutation-map fused_found unsorted sorted p) (sorted_map fused_found (found_lt key_lt) sorted s)
              ∙ ap (rising_of (found_lt key_lt)) found_list

          before : (k : Key) (x : Found Key) → In k ns → In x ((set_search r).found ns set) → key_lt x.made k ≡ false
          before k x i j =
              let d = ((can.have.nodes.members k).0 i).1 in
              let e = (((is_search r can.reaction.fields).exact ns set x).0 j).0 in
              by (key_lt x.made k) refl (can.ready.0.later k x.made d e)
            where
              by : (b : Bool) → key_lt x.made k ≡ b → key_lt k x.made ≡ true → key_lt x.made k ≡ false
              by false e l = e
              by true e l = absurd (true≢false (sym (key_order.transitive k x.made k l e) ∙ key_order.irreflexive k))

          apart : (k : Key) → In k ns → In k (map (λ (x : Found Key). x.made) ((set_search r).found ns set)) → ⊥
          apart k i j =
              let m = in_mapped (λ (x : Found Key). x.made) k ((set_search r).found ns set) j in
              not_yet k i (ap (λ (y : Key). y.legs) m.2 ∙ (((is_search r can.reaction.fields).exact ns set m.0).0 m.1).0)

          pub one_step : add_all key_lt (state_of ns ts) (map fused_found sorted) ≡ walk (fusion r) (set_search r) (state_of ns ts) (set ∷ [])
          unfolding walk step nodes_over
          one_step =
              ap (add_all key_lt (state_of ns ts)) in_order
              ∙ adding_is_step key_lt key_order (state_of ns ts) ((set_search r).found ns set) can.have.nodes.rise before apart

          -- what numbering what was found leaves
          pub walks : (limit : ℕ) → limit ≡ MOST_TERMS - length ts → (length (map fused_seen old) ≤ limit → length (map fused_seen unsorted) ≤ limit) → (ms : List Key) (us : List Term) (result : Result (Unit {0}) BuildFault)
              → OnOk result (state_of ms us ≡ add_all key_lt (state_of ns ts) (map fused_found sorted)) → OnOk result ((q : Reaction) → HaveSigns q ns ts → All (HasFoundSign q ns) sorted → HaveSigns q ms us) → IfErr result (λ fault. fault ≡ Memory)
              → Walks r ns ts (set ∷ []) ms us result
          walks limit e fits ms us (Ok u) st sg err = record {
            state = st ∙ one_step;
            few =
                let a = ap (λ (s : State Key). length s.terms) (st ∙ one_step) in
                let b = length-map us unsigned in
                let c = length-map unsorted fused_seen in
                let d = ap (λ (xs : List Fused). length (map fused_seen xs)) none in
                let f = fits (omega (arith, d)) in
                let g = step_fits (omega (arith, c, e, f)) in
                omega (arith, a, b, g);
            signs = sg r can.signs sorted_signs;
          }
          walks limit e fits ms us (Err fault) st sg err = λ t. absurd (not_both (sym err ∙ t))
            where
              not_both : Memory ≡ TooLarge → ⊥
              not_both h = cc
