-- The splits over which the search goes are just those that a vertex allows, each once.
use Rattle.std.proofs.Common.{◌≡◌, ◌≢◌, ℕ, ◌<◌, List, [], ◌∷◌, ◌++◌, length, Bool, true, false, cond, ltb, ◌&&◌, ◌⊎◌, inl, inr, ⊎_elim, refl, ap, sym, subst, ◌∙◌, arith}
use Rattle.std.proofs.lemmas.Bool.{lt-ltb, ltb-true}
use Rattle.std.proofs.lemmas.List.{length-map}
use Rattle.om_ring.specs.Members.{In, Different}
use Rattle.om_legs.specs.Legs.{IsLegSet, complement, all_legs}
use Rattle.om_legs.specs.Splits.{IsSplit, AreSplits}
use Rattle.om_legs.specs.Walks.{pairs, triples, quadruples}
use Rattle.om_legs.proofs.Exact.{AreSplits-pairs, AreSplits-triples, AreSplits-quadruples}
use Rattle.om_legs.proofs.Members.{Contains-from_In, In-from_Contains, Rising-from_AllPairs}
use Rattle.om_legs.proofs.Operations.{IsLegSet-all_legs}
use Rattle.om_colour.specs.Partials.{joined}
use Rattle.om_colour.specs.declared.Flow.{Flow}
use Rattle.om_model.specs.Diagram.{all_in}
use Rattle.om_model.specs.KeystoneForm.{HasFields}
use Rattle.om_model.proofs.Counting.{both, times_of_in}
use Rattle.om_model.proofs.EdgesUncut.{both_true}
use Rattle.om_ring.proofs.Members.{in_filter, in_left, in_right, in_either, different_append, different_filter}
use Rattle.om_graph.specs.declared.Key.{Key}
use Rattle.om_graph.specs.Graph.{AreClosings}
use Rattle.om_graph.specs.Loops.{fused_key, closed_flow}
use Rattle.om_graph.specs.Possible.{key_lt}
use Rattle.om_graph.specs.Search.{IsSearch}
use Rattle.om_graph.specs.SetSearch.{splits_of, uncut_splits, keystone_splits, closings_of, found_fused, found_closed, set_search}
use Rattle.om_graph.specs.Splits.{IsSplitting}
use Rattle.om_graph.specs.Vertices.{Reaction, Fuses, Closes, fusion, is_outward, keeps_edges, sets_of, fields_of, fused_slots, slot_partials, hole_of, union_of}
use Rattle.om_graph.proofs.FoundMembers.{MakesKey, MakesFlow, meets_fused, meets_closed}
use Rattle.om_graph.proofs.MeetingFields.{fills_slot}
use Rattle.om_graph.proofs.Orders.{key_order}
use Rattle.om_graph.proofs.SplitUnions.{union_is}
use Rattle.om_graph.proofs.Splits.{split_search_is_exact}
use Rattle.om_graph.proofs.Tuples.{tuples_meet_over_all}

pub different_of : {A : Type 0} (xs : List A) → Rattle.om_legs.proofs.Members.Rising ◌≢◌ xs → Different xs
different_of [] h = tt
different_of (x ∷ xs) h = ((λ i. h.0 x i refl), different_of xs h.1)

splits_different : (c set : ℕ) (items : List (List ℕ)) → AreSplits c set items → Different items
splits_different c set items h = different_of items (Rising-from_AllPairs ◌≢◌ items h.once)

split_in : (c set : ℕ) (items : List (List ℕ)) → AreSplits c set items → (parts : List ℕ) → In parts items → IsSplit c set parts
split_in c set items h parts i = (h.members parts).0 (Contains-from_In items parts i)

in_split : (c set : ℕ) (items : List (List ℕ)) → AreSplits c set items → (parts : List ℕ) → IsSplit c set parts → In parts items
in_split c set items h parts s = In-from_Contains items parts ((h.members parts).1 s)

-- the splits of two kinds, one behind the other
module _ (a b set : ℕ) (apart : a ≡ b → ⊥) (xs ys : List (List ℕ)) (h : AreSplits a set xs) (g : AreSplits b set ys) where
  either_split : (parts : List ℕ) → In parts (xs ++ ys) → ((length parts ≡ a) ⊎ (length parts ≡ b)) × IsSplit (length parts) set parts
  either_split parts i = ⊎_elim
      (λ j. let s = split_in a set xs h parts j in (inl s.counted, subst (λ n. IsSplit n set parts) (sym s.counted) s))
      (λ j. let s = split_in b set ys g parts j in (inr s.counted, subst (λ n. IsSplit n set parts) (sym s.counted) s))
      (in_either parts xs ys i)

  split_either : (parts : List ℕ) → (length parts ≡ a) ⊎ (length parts ≡ b) → IsSplit (length parts) set parts → In parts (xs ++ ys)
  split_either parts (inl e) s = in_left parts xs ys (in_split a set xs h parts (subst (λ n. IsSplit n set parts) e s))
  split_either parts (inr e) s = in_right parts xs ys (in_split b set ys g parts (subst (λ n. IsSplit n set parts) e s))

  both_different : Different (xs ++ ys)
  both_different = different_append xs ys (splits_different a set xs h) (splits_different b set ys g)
      (λ parts i j. apart (sym (split_in a set xs h parts i).counted ∙ (split_in b set ys g parts j).counted))

two_not_three : ◌≡◌ {A = ℕ} 2 3 → ⊥
two_not_three e = omega (arith, e)

three_not_four : ◌≡◌ {A = ℕ} 3 4 → ⊥
three_not_four e = omega (arith, e)

module _ (r : Reaction) where
  -- a split of a set at which nodes may meet
  record MayMeet (s : ℕ) (parts : List ℕ) : Type 0 where
    outward : is_outward r.scattering.size s ≡ true
    legs : IsLegSet s
    counted : (length parts ≡ 2) ⊎ (length parts ≡ 3)
    split : IsSplit (length parts) s parts
    edges : keeps_edges r (complement s r.scattering.size ∷ parts) ≡ true

  may_meet : (s : ℕ) (parts : List ℕ) → In parts (splits_of r s) → MayMeet s parts
  unfolding splits_of uncut_splits
  may_meet s parts i = by (is_outward r.scattering.size s && ltb s 4096) refl i
    where
      by : (b : Bool) → (is_outward r.scattering.size s && ltb s 4096) ≡ b → In parts (cond b (uncut_splits r s) []) → MayMeet s parts
      by false e i = absurd i
      by true e i =
          let t = both (is_outward r.scattering.size s) (ltb s 4096) e in
          let w : IsLegSet s = ltb-true s 4096 t.1 in
          let f = (in_filter (λ ps. keeps_edges r (complement s r.scattering.size ∷ ps)) parts (pairs s ++ triples s)).0 i in
          let p = either_split 2 3 s two_not_three (pairs s) (triples s) (AreSplits-pairs s w) (AreSplits-triples s w) parts f.0 in
          record { outward = t.0; legs = w; counted = p.0; split = p.1; edges = f.1 }

  meeting_split : (s : ℕ) (parts : List ℕ) → MayMeet s parts → In parts (splits_of r s)
  unfolding splits_of uncut_splits
  meeting_split s parts m =
      let t : (is_outward r.scattering.size s && ltb s 4096) ≡ true = both_true (is_outward r.scattering.size s) (ltb s 4096) m.outward (lt-ltb s 4096 m.legs) in
      subst (λ b. In parts (cond b (uncut_splits r s) [])) (sym t)
      ((in_filter (λ ps. keeps_edges r (complement s r.scattering.size ∷ ps)) parts (pairs s ++ triples s)).1
      (split_either 2 3 s two_not_three (pairs s) (triples s) (AreSplits-pairs s m.legs) (AreSplits-triples s m.legs) parts m.counted m.split, m.edges))

  once : (s : ℕ) → Different (splits_of r s)
  unfolding splits_of uncut_splits
  once s = by (is_outward r.scattering.size s && ltb s 4096) refl
    where
      by : (b : Bool) → (is_outward r.scattering.size s && ltb s 4096) ≡ b → Different (cond b (uncut_splits r s) [])
      by false e = tt
      by true e =
          let w : IsLegSet s = ltb-true s 4096 (both (is_outward r.scattering.size s) (ltb s 4096) e).1 in
          different_filter (λ ps. keeps_edges r (complement s r.scattering.size ∷ ps)) (pairs s ++ triples s) (both_different 2 3 s two_not_three (pairs s) (triples s) (AreSplits-pairs s w) (AreSplits-triples s w))

  -- the key by its parts
  key_by : (f v c : ℕ) (ks : List Key) (k : Key) (u : ℕ) → u ≡ k.legs → k.field ≡ f → (let slots = fused_slots r f v k.legs ks in k.partial ≡ joined (slot_partials slots) (r.choice v c) (hole_of slots))
      → k ≡ record { legs = u; field = f; partial = (let slots = fused_slots r f v u ks in joined (slot_partials slots) (r.choice v c) (hole_of slots)) }
  key_by f v c ks k u e g h = by k.legs k.field k.partial (sym e) g (h ∙ ap (λ n. let slots = fused_slots r f v n ks in joined (slot_partials slots) (r.choice v c) (hole_of slots)) (sym e))
    where
      by : (l m : ℕ) (p : Rattle.om_colour.specs.declared.Partial.Partial) → l ≡ u → m ≡ f → p ≡ (let slots = fused_slots r f v u ks in joined (slot_partials slots) (r.choice v c) (hole_of slots))
          → ◌≡◌ {A = Key} (record { legs = l; field = m; partial = p }) (record { legs = u; field = f; partial = (let slots = fused_slots r f v u ks in joined (slot_partials slots) (r.choice v c) (hole_of slots)) })
      by l m p a b c = rw (a, b, c) refl

  fuses_makes : (v c : ℕ) (ks : List Key) (k : Key) → Fuses r k.field v c ks k → MakesKey r v c ks k × In (sets_of ks) (splits_of r k.legs)
  unfolding fused_key
  fuses_makes v c ks k h =
      let n : length (sets_of ks) ≡ length ks = length-map ks (λ (k : Key). k.legs) in (
        record {
          vertex = h.vertex;
          choice = h.choice;
          slots = h.slots;
          made = key_by k.field v c ks k (union_of (sets_of ks)) (union_is (length ks) k.legs (sets_of ks) h.legs h.split) refl h.partial;
        },
        meeting_split k.legs (sets_of ks) (record {
          outward = h.outward;
          legs = h.legs;
          counted = subst (λ m. (m ≡ 2) ⊎ (m ≡ 3)) (sym n) h.counted;
          split = subst (λ m. IsSplit m k.legs (sets_of ks)) (sym n) h.split;
          edges = h.edges;
        }),
      )

  module _ (fields : HasFields r.scattering.theory) where
    makes_fuses : (v c : ℕ) (ks : List Key) (k : Key) → MakesKey r v c ks k × In (sets_of ks) (splits_of r k.legs) → Fuses r k.field v c ks k
    unfolding fused_key
    makes_fuses v c ks k (m, i) =
        let n : length (sets_of ks) ≡ length ks = length-map ks (λ (k : Key). k.legs) in
        let s = may_meet k.legs (sets_of ks) i in
        let u : union_of (sets_of ks) ≡ k.legs = union_is (length (sets_of ks)) k.legs (sets_of ks) s.legs s.split in
        record {
          has_field = refl;
          field = subst (λ f. f < r.scattering.theory.fields) (fields.anti_anti k.field) (fields.antis (r.scattering.theory.anti k.field) (fields.slots v (r.scattering.theory.anti k.field) (times_of_in (r.scattering.theory.anti k.field) (r.scattering.theory.slots v) (fills_slot (r.scattering.theory.anti k.field) (fields_of ks) (r.scattering.theory.slots v) m.slots))));
          vertex = m.vertex;
          choice = m.choice;
          counted = subst (λ m. (m ≡ 2) ⊎ (m ≡ 3)) n s.counted;
          legs = s.legs;
          split = subst (λ m. IsSplit m k.legs (sets_of ks)) n s.split;
          outward = s.outward;
          slots = m.slots;
          edges = s.edges;
          partial = ap (λ (j : Key). j.partial) m.made ∙ ap (λ l. let slots = fused_slots r k.field v l ks in joined (slot_partials slots) (r.choice v c) (hole_of slots)) u;
        }

    whole : (v c : ℕ) (ks : List Key) (k : Key) (s : ℕ) → MakesKey r v c ks k → In (sets_of ks) (splits_of r s) → k.legs ≡ s
    unfolding fused_key
    whole v c ks k s m i =
        let p = may_meet s (sets_of ks) i in
        ap (λ (j : Key). j.legs) m.made ∙ union_is (length (sets_of ks)) s (sets_of ks) p.legs p.split

    pub splitting : IsSplitting (fusion r) (λ (k : Key). k.legs) (splits_of r) (MakesKey r)
    splitting = record {
      fuses = λ v c ks k. (fuses_makes v c ks k, makes_fuses v c ks k);
      has_field = λ f v c ks k h. h.has_field;
      whole = whole;
      once = once;
    }

    -- the search finds just what is fused, each once
    pub is_search : IsSearch (fusion r) (set_search r)
    is_search = (split_search_is_exact (fusion r) key_lt (λ (k : Key). k.legs) (found_fused r) (splits_of r) (MakesKey r) key_order (meets_fused r fields) splitting).0

    pub found_once : (ns : List Key) (s : ℕ) → Different ((set_search r).found ns s)
    found_once = (split_search_is_exact (fusion r) key_lt (λ (k : Key). k.legs) (found_fused r) (splits_of r) (MakesKey r) key_order (meets_fused r fields) splitting).1

  -- a split of all legs at which nodes may close
  record MayClose (parts : List ℕ) : Type 0 where
    counted : (length parts ≡ 3) ⊎ (length parts ≡ 4)
    split : IsSplit (length parts) (all_legs r.scattering.size) parts
    outward : all_in (is_outward r.scattering.size) parts ≡ true
    edges : keeps_edges r parts ≡ true

  may_close : (parts : List ℕ) → In parts (keystone_splits r) → MayClose parts
  unfolding keystone_splits
  may_close parts i =
      let all = all_legs r.scattering.size in
      let w = IsLegSet-all_legs r.scattering.size in
      let f = (in_filter (λ ps. all_in (is_outward r.scattering.size) ps && keeps_edges r ps) parts (triples all ++ quadruples all)).0 i in
      let p = either_split 3 4 all three_not_four (triples all) (quadruples all) (AreSplits-triples all w) (AreSplits-quadruples all w) parts f.0 in
      let t = both (all_in (is_outward r.scattering.size) parts) (keeps_edges r parts) f.1 in
      record { counted = p.0; split = p.1; outward = t.0; edges = t.1 }

  closing_split : (parts : List ℕ) → MayClose parts → In parts (keystone_splits r)
  unfolding keystone_splits
  closing_split parts m =
      let all = all_legs r.scattering.size in
      let w = IsLegSet-all_legs r.scattering.size in
      (in_filter (λ ps. all_in (is_outward r.scattering.size) ps && keeps_edges r ps) parts (triples all ++ quadruples all)).1 (
        split_either 3 4 all three_not_four (triples all) (quadruples all) (AreSplits-triples all w) (AreSplits-quadruples all w) parts m.counted m.split,
        both_true (all_in (is_outward r.scattering.size) parts) (keeps_edges r parts) m.outward m.edges,
      )

  keystones_once : Different (keystone_splits r)
  unfolding keystone_splits
  keystones_once =
      let all = all_legs r.scattering.size in
      let w = IsLegSet-all_legs r.scattering.size in
      different_filter (λ ps. all_in (is_outward r.scattering.size) ps && keeps_edges r ps) (triples all ++ quadruples all) (both_different 3 4 all three_not_four (triples all) (quadruples all) (AreSplits-triples all w) (AreSplits-quadruples all w))

  closes_makes : (v c : ℕ) (ks : List Key) (w : Flow) → Closes r v c ks w → MakesFlow r v c ks w × In (sets_of ks) (keystone_splits r)
  unfolding closed_flow
  closes_makes v c ks w h =
      let n : length (sets_of ks) ≡ length ks = length-map ks (λ (k : Key). k.legs) in (
        record { vertex = h.vertex; choice = h.choice; slots = h.slots; made = h.flow },
        closing_split (sets_of ks) (record {
          counted = subst (λ m. (m ≡ 3) ⊎ (m ≡ 4)) (sym n) h.counted;
          split = subst (λ m. IsSplit m (all_legs r.scattering.size) (sets_of ks)) (sym n) h.split;
          outward = h.outward;
          edges = h.edges;
        }),
      )

  makes_closes : (v c : ℕ) (ks : List Key) (w : Flow) → MakesFlow r v c ks w → In (sets_of ks) (keystone_splits r) → Closes r v c ks w
  unfolding closed_flow
  makes_closes v c ks w m i =
      let n : length (sets_of ks) ≡ length ks = length-map ks (λ (k : Key). k.legs) in
      let s = may_close (sets_of ks) i in
      record {
        vertex = m.vertex;
        choice = m.choice;
        counted = subst (λ m. (m ≡ 3) ⊎ (m ≡ 4)) n s.counted;
        split = subst (λ m. IsSplit m (all_legs r.scattering.size) (sets_of ks)) n s.split;
        outward = s.outward;
        slots = m.slots;
        edges = s.edges;
        flow = m.made;
      }

  module _ (fields : HasFields r.scattering.theory) where
    -- just what closes is found, each once
    pub are_closings : (ns : List Key) → AreClosings (fusion r) ns (closings_of r ns)
    unfolding closings_of
    are_closings ns x =
        let m = (tuples_meet_over_all (λ (k : Key). k.legs) (found_closed r) (MakesFlow r) (meets_closed r fields) ns (keystone_splits r)).exact x in (
          (λ i. let h = m.0 i in (h.0, h.1, makes_closes x.vertex x.choice h.0 x.made h.3 h.2)),
          (λ h. let g = closes_makes x.vertex x.choice h.0 x.made h.2 in m.1 (h.0, h.1, g.1, g.0)),
        )

    pub closings_once : (ns : List Key) → Different (closings_of r ns)
    unfolding closings_of
    closings_once ns = (tuples_meet_over_all (λ (k : Key). k.legs) (found_closed r) (MakesFlow r) (meets_closed r fields) ns (keystone_splits r)).once keystones_once
