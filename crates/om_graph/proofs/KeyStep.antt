-- What closes over all legs gives the keystone terms and the flows.
use Rattle.std.proofs.Common.{◌≡◌, ℕ, ◌+◌, ◌<◌, ◌≤◌, List, [], ◌∷◌, ◌++◌, map, flat_map, length, Bool, true, ◌&&◌, ◌⊎◌, inl, inr, refl, ap, ap₂, sym, subst, ◌∙◌, arith, Some}
use Rattle.std.specs.List.{filter}
use Rattle.std.specs.Prelude.{All}
use Rattle.std.proofs.lemmas.List.{length-map}
use Rattle.std.proofs.lemmas.Option.{same_Some}
use Rattle.om_ring.specs.Members.{In, Different}
use Rattle.om_legs.specs.Legs.{all_legs}
use Rattle.om_legs.specs.Splits.{AreSplits}
use Rattle.om_legs.specs.Walks.{triples, quadruples}
use Rattle.om_legs.proofs.Exact.{AreSplits-triples, AreSplits-quadruples}
use Rattle.om_legs.proofs.Operations.{IsLegSet-all_legs}
use Rattle.om_colour.specs.declared.Flow.{Flow}
use Rattle.om_model.specs.Diagram.{all_in}
use Rattle.om_model.specs.Order.{rising_of}
use Rattle.om_graph.specs.declared.Key.{Key}
use Rattle.om_graph.specs.declared.KeyTerm.{KeyTerm}
use Rattle.om_graph.specs.Graph.{Found, found_lt, at_numbers}
use Rattle.om_graph.specs.Loops.{CanCloseOver, Signed, closed_at, closed_by, counts, meet_closed, meetings_of, met_partition}
use Rattle.om_graph.specs.Possible.{flow_lt, unsigned_key}
use Rattle.om_graph.specs.Search.{flows_of, number_in, numbered}
use Rattle.om_graph.specs.SetSearch.{closings_of, found_closed, found_in, keystone_splits}
use Rattle.om_graph.specs.SetWalk.{CanCloseAll, HasClosed, HasClosedSign, KeysHaveSigns}
use Rattle.om_graph.specs.Tuples.{met_over_all}
use Rattle.om_graph.specs.Vertices.{Reaction, closed_minus, fields_of, is_outward, keeps_edges}
use Rattle.om_graph.proofs.FoundMembers.{meets_closed}
use Rattle.om_ring.proofs.Members.{in_map, from_flat_map}
use Rattle.om_graph.proofs.Meetable.{can_close}
use Rattle.om_graph.proofs.MeetingFields.{same_count}
use Rattle.om_graph.proofs.Numbers.{found_order}
use Rattle.om_graph.proofs.Orders.{flow_order}
use Rattle.om_graph.proofs.SignedLists.{all_of_members, found_where, length_at_numbers, made_by}
use Rattle.om_graph.proofs.Sorted.{length-rising_of}
use Rattle.om_graph.proofs.SplitLists.{same_splits}
use Rattle.om_graph.proofs.SplitMembers.{are_closings, closings_once}

-- how nodes with these keys close to what was found
record ClosedBy (r : Reaction) (is : List ℕ) (ks : List Key) (x : Signed Flow) : Type 0 where
  v : ℕ
  c : ℕ
  same : x ≡ closed_at r is ks v c

closed_by_nodes : (r : Reaction) (is : List ℕ) (ks : List Key) (x : Signed Flow) → In x (meet_closed r is ks) → ClosedBy r is ks x
unfolding meet_closed
closed_by_nodes r is ks x i =
    let f = from_flat_map (closed_by r is ks) x (meetings_of r true (fields_of ks)) i in
    let g = from_flat_map (λ c. closed_at r is ks f.0.vertex c ∷ []) x (counts (r.scattering.theory.choices f.0.vertex)) f.2 in
    one f.0.vertex g.0 g.2
  where
    one : (v c : ℕ) → In x (closed_at r is ks v c ∷ []) → ClosedBy r is ks x
    one v c (inl e) = record { v = v; c = c; same = e }
    one v c (inr b) = absurd b

-- the keystone terms and flows of what closes, each once and in order
pub numbered-length : (xs : List (Found Flow)) (ws : List Flow) → Different xs → length (numbered flow_lt ws xs) ≡ length xs
unfolding numbered
numbered-length xs ws d = length-map (rising_of (found_lt flow_lt) xs) (number_in flow_lt ws) ∙ length-rising_of (found_lt flow_lt) (found_order flow_lt flow_order) xs d

module _ (r : Reaction) (ns : List Key) (can : CanCloseAll r ns) where
  pub can_close_over : CanCloseOver r ns
  can_close_over n parts c split = can_close r can.kinds can.reaction ns can.nodes n parts c split

  module _ (threes fours : List (List ℕ)) (h : AreSplits 3 (all_legs r.scattering.size) threes) (g : AreSplits 4 (all_legs r.scattering.size) fours) where
    abbrev pub signed : List (Signed Flow)
    signed = flat_map (met_partition r (meet_closed r) ns) threes ++ flat_map (met_partition r (meet_closed r) ns) fours

    test : List ℕ → Bool
    test parts = all_in (is_outward r.scattering.size) parts && keeps_edges r parts

    closed_is : found_in signed ≡ closings_of r ns
    unfolding met_partition keystone_splits closings_of found_closed test
    closed_is =
        found_where (meet_closed r) ns test threes fours
        ∙ ap (λ ss. met_over_all (λ (k : Key). k.legs) (found_closed r) ns (filter test ss))
        (ap₂ ◌++◌ (same_splits 3 (all_legs r.scattering.size) threes (triples (all_legs r.scattering.size)) h (AreSplits-triples (all_legs r.scattering.size) (IsLegSet-all_legs r.scattering.size)))
        (same_splits 4 (all_legs r.scattering.size) fours (quadruples (all_legs r.scattering.size)) g (AreSplits-quadruples (all_legs r.scattering.size) (IsLegSet-all_legs r.scattering.size))))

    signed_length : length signed ≡ length (closings_of r ns)
    signed_length = sym (length-map signed (λ (x : Signed Flow). x.found)) ∙ ap length closed_is

    record IsKnown (x : Signed Flow) : Type 0 where
      counted : length x.found.branches ≡ length (r.scattering.theory.slots x.found.vertex)
      several : 2 ≤ length x.found.branches
      keys : List Key
      are : at_numbers ns x.found.branches ≡ Some keys
      sign : x.minus ≡ closed_minus r x.found.vertex keys

    known : (x : Signed Flow) → In x signed → IsKnown x
    unfolding met_partition test closed_at found_closed
    known x i =
        let m = made_by (meet_closed r) ns test threes fours x i in
        let f = closed_by_nodes r m.numbers m.keys x m.met_now in
        let e = (are_closings r can.reaction.fields ns x.found).0 (subst (In x.found) closed_is (in_map (λ (y : Signed Flow). y.found) x signed i)) in
        let mk = ((meets_closed r can.reaction.fields).exact m.numbers m.keys x.found).0 (in_map (λ (y : Signed Flow). y.found) x (meet_closed r m.numbers m.keys) m.met_now) in
        let b : x.found.branches ≡ m.numbers = mk.0 in
        let l = length_at_numbers ns m.numbers m.keys m.are in
        let n = ap length b in
        let c = same_count (fields_of m.keys) (r.scattering.theory.slots x.found.vertex) mk.1.slots in
        let d = length-map m.keys (λ (k : Key). k.field) in
        let fk : e.0 ≡ m.keys = same_Some e.0 m.keys (sym e.1 ∙ ap (at_numbers ns) b ∙ m.are) in
        record {
          counted = omega (arith, l, n, c, d);
          several = two (length e.0) (length x.found.branches) (let q = ap length fk in omega (arith, l, n, q)) e.2.counted;
          keys = m.keys;
          are = ap (at_numbers ns) b ∙ m.are;
          sign = subst (λ (y : Signed Flow). y.minus ≡ closed_minus r y.found.vertex m.keys) (sym f.same) refl;
        }
      where
        two : (a b : ℕ) → a ≡ b → (a ≡ 3) ⊎ (a ≡ 4) → 2 ≤ b
        two a b e (inl q) = omega (arith, e, q)
        two a b e (inr q) = omega (arith, e, q)

    pub close_large : (old : List (Signed Flow)) (limit : ℕ) → old ≡ [] → limit < length old + length signed → limit < length (closings_of r ns)
    close_large old limit none l = let c = signed_length in let d = ap length none in omega (arith, c, d, l)

    module _ (old found : List (Signed Flow)) (none : old ≡ []) (are : found ≡ old ++ signed) where
      found_are : found ≡ signed
      found_are = are ∙ ap (λ (xs : List (Signed Flow)). xs ++ signed) none

      known_found : (y : Signed Flow) → In y found → IsKnown y
      known_found y i = known y (subst (In y) found_are i)

      slot_count : ℕ → ℕ
      slot_count v = length (r.scattering.theory.slots v)

      pub all_counted : (counts : ℕ → ℕ) × All (λ (y : Signed Flow). length y.found.branches ≡ counts y.found.vertex) found
      unfolding slot_count
      all_counted = (slot_count, all_of_members (λ (y : Signed Flow). length y.found.branches ≡ slot_count y.found.vertex) found (λ y i. (known_found y i).counted))

      found_list : found_in found ≡ closings_of r ns
      found_list = ap found_in found_are ∙ closed_is

      pub closed_several : All (λ (y : Signed Flow). 2 ≤ length y.found.branches) found
      closed_several = all_of_members (λ (y : Signed Flow). 2 ≤ length y.found.branches) found (λ y i. (known_found y i).several)

      pub closed_different : Different (found_in found)
      closed_different = subst Different (sym found_list) (closings_once r can.reaction.fields ns)

      closed_signs : All (HasClosedSign r ns) found
      closed_signs = all_of_members (HasClosedSign r ns) found (λ y i. let k = known_found y i in (k.keys, k.are, k.sign))

      -- what numbering what closes leaves
      pub closes : (limit : ℕ) → (length old ≤ limit → length found ≤ limit) → (ys : List KeyTerm) (ws : List Flow) → ws ≡ rising_of flow_lt (map (λ (x : Found Flow). x.made) (found_in found))
          → map unsigned_key ys ≡ numbered flow_lt ws (found_in found) → ((q : Reaction) (ms : List Key) → All (HasClosedSign q ms) found → KeysHaveSigns q ms ys) → HasClosed r ns limit ys ws
      unfolding flows_of
      closes limit fits ys ws w k sg = record {
        flows = w ∙ ap (λ (xs : List (Found Flow)). rising_of flow_lt (map (λ (x : Found Flow). x.made) xs)) found_list;
        keys = k ∙ ap (numbered flow_lt ws) found_list;
        few =
            let a = ap length k in
            let b = length-map ys unsigned_key in
            let c = numbered-length (found_in found) ws closed_different in
            let d = length-map found (λ (x : Signed Flow). x.found) in
            let m = ap length none in
            let n = fits (omega (arith, m)) in
            omega (arith, a, b, c, d, n);
        signs = sg r ns closed_signs;
      }
