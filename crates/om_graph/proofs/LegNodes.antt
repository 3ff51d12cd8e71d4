-- The legs are the nodes of one leg, and the walk begins with them.
use Rattle.std.proofs.Common.{◌≡◌, ℕ, zero, suc, ◌+◌, ◌-◌, ◌^◌, ◌<◌, ◌≤◌, List, [], ◌∷◌, ◌++◌, map, length, Bool, true, false, cond, eqb, ltb, ◌⊎◌, inl, inr, refl, ap, ap₂, sym, subst, ◌∙◌, arith, true≢false}
use Rattle.std.proofs.Math.Pow.{pow_mono, pow-lt}
use Rattle.std.proofs.lemmas.Bool.{eqb-true, eq-eqb}
use Rattle.std.proofs.lemmas.Bool.Decides.{nat_tests}
use Rattle.om_ring.specs.Members.{In}
use Rattle.om_legs.specs.Legs as sets
use Rattle.om_legs.proofs.Bits.{same_sets, leg_range, IsLegSet-set_of}
use Rattle.om_legs.proofs.Least.{IsSubset_from}
use Rattle.om_legs.proofs.LegLists.{Contains-legs_of}
use Rattle.om_legs.proofs.Members.{Rising, Contains-from_In, In-from_Contains}
use Rattle.om_legs.proofs.Operations.{all_legs-ones, set_of_one-pow, holds-set_of_one, IsLegSet-all_legs}
use Rattle.om_legs.proofs.ShareSums.{IsSubset_le, size-empty}
use Rattle.om_model.specs.Order.{Rising as RisingBy}
use Rattle.om_model.specs.Parts.{holds, within}
use Rattle.om_model.specs.Diagram.{times_in}
use Rattle.om_model.specs.Tree.{Tree, legs}
use Rattle.om_model.specs.Tree.Tree.{leaf}
use Rattle.om_model.specs.FermionLines.{Kinds}
use Rattle.om_model.specs.LegSets.{leg_set}
use Rattle.om_model.specs.Spelled.{IsSubtree}
use Rattle.om_model.proofs.LegSets.{has_leg_set, leg_set_of_leaf}
use Rattle.om_graph.specs.declared.Key.{Key}
use Rattle.om_graph.specs.Caches.{counts_from, StandLast}
use Rattle.om_graph.specs.Fusion.{IsNode, HasKey}
use Rattle.om_graph.specs.Possible.{key_lt}
use Rattle.om_graph.specs.Search.{HasDone, Ready, all_done, AreNodes, interned}
use Rattle.om_graph.specs.SetSearch.{set_search, leg_keys, leg_state, outward_sets}
use Rattle.om_graph.specs.TreeKeys.{IsReaction}
use Rattle.om_graph.specs.Vertices.{Reaction, Fuses, fusion, leg_key}
use Rattle.om_graph.proofs.KeysOfSides.{leg_subtree, side_of, outward_of}
use Rattle.om_ring.proofs.Members.{in_map, in_mapped}
use Rattle.om_graph.proofs.Lists.{before_all}
use Rattle.om_graph.proofs.Adding.{interned_behind}
use Rattle.om_graph.proofs.NodeRanges.{none_stand_last}
use Rattle.om_graph.proofs.Orders.{key_order}
use Rattle.om_graph.proofs.PartSizes.{fused_some}
use Rattle.om_graph.proofs.SetNodes.{NodeIs, node_is, in_by_number}
use Rattle.om_graph.proofs.SetNodes.NodeIs.{a_leg, a_join}
use Rattle.om_graph.proofs.SetOrder.{IsInner, key_before, from_in-least, from_in-most, from_rises, outward_rise, outward_large, in_outward, ready}
use Rattle.om_graph.proofs.Steps.{in_from}
use Rattle.om_graph.proofs.TreeSplits.{all_holds}
use Rattle.std.proofs.lemmas.List.{map-append}

-- the sets of one leg
pub leg_sets : ℕ → List ℕ
leg_sets n = map sets.set_of_one (counts_from 1 n)

in_all_done : {K F : Type 0} (p : Rattle.om_graph.specs.Fusion.Fusion K F) (z : Rattle.om_graph.specs.Search.Search K) (done ss : List ℕ) (u : ℕ) → In u done ⊎ In u ss → In u (all_done p z done ss)
in_all_done p z done [] u (inl i) = i
in_all_done p z done [] u (inr i) = absurd i
in_all_done p z done (s ∷ ss) u (inl i) = in_all_done p z (s ∷ done) ss u (inl (inr i))
in_all_done p z done (s ∷ ss) u (inr (inl e)) = in_all_done p z (s ∷ done) ss u (inl (inl e))
in_all_done p z done (s ∷ ss) u (inr (inr i)) = in_all_done p z (s ∷ done) ss u (inr i)

-- a set of one leg rises with the leg
one_rises : (i j : ℕ) → 1 ≤ i → i < j → j ≤ 12 → sets.set_of_one i < sets.set_of_one j
one_rises zero j l m h = absurd (omega arith)
one_rises (suc i) zero l m h = absurd (omega arith)
one_rises (suc i) (suc j) l m h =
    let p : 2 ^ i < 2 ^ j = pow-lt (omega arith) in
    let a = set_of_one-pow i (omega arith) in
    let b = set_of_one-pow j (omega arith) in
    omega (arith, p, a, b)

-- a set of one leg is that of this leg
one_leg_only : (u : ℕ) → sets.IsLegSet u → sets.size u ≡ 1 → (j : ℕ) × (sets.holds u j ≡ true) × (u ≡ sets.set_of_one j)
unfolding sets.size
one_leg_only u w e = by (sets.legs_of u) refl e
  where
    only : (j : ℕ) → sets.legs_of u ≡ j ∷ [] → (k : ℕ) → sets.holds u k ≡ eqb k j
    only j q k = agree (sets.holds u k) (eqb k j) refl refl
      where
        member : sets.holds u k ≡ true → k ≡ j
        member h = one (subst (In k) q (In-from_Contains (sets.legs_of u) k ((Contains-legs_of u k w).1 h)))
          where
            one : In k (j ∷ []) → k ≡ j
            one (inl e) = e
            one (inr b) = absurd b

        agree : (a b : Bool) → sets.holds u k ≡ a → eqb k j ≡ b → a ≡ b
        agree true true e f = refl
        agree false false e f = refl
        agree true false e f = absurd (true≢false (sym (eq-eqb k j (member e)) ∙ f))
        agree false true e f = absurd (true≢false (sym ((Contains-legs_of u k w).0 (Contains-from_In (sets.legs_of u) k (subst (In k) (sym q) (inl (eqb-true k j f))))) ∙ e))

    held : (j : ℕ) → sets.legs_of u ≡ j ∷ [] → sets.holds u j ≡ true
    held j q = only j q j ∙ eq-eqb j j refl

    by : (xs : List ℕ) → sets.legs_of u ≡ xs → length xs ≡ 1 → (j : ℕ) × (sets.holds u j ≡ true) × (u ≡ sets.set_of_one j)
    by [] q e = absurd (omega (arith, e))
    by (j ∷ []) q e =
        let h = held j q in
        let b = leg_range u j w h in
        (j, h, same_sets u (sets.set_of_one j) (λ k. only j q k ∙ sym (holds-set_of_one j k b.0 b.1)))
    by (j ∷ k ∷ xs) q e = absurd (omega (arith, e))

module _ (r : Reaction) (kinds : Kinds) (is : IsReaction r kinds) where
  n : ℕ
  n = r.scattering.size

  one_leg : (j : ℕ) → 1 ≤ j → j ≤ r.scattering.size → sets.size (sets.set_of_one j) ≡ 1
  unfolding legs
  one_leg j l m = ap sets.size (sym (leg_set_of_leaf j)) ∙ (has_leg_set r.scattering is.most (leaf j) (leg_subtree r kinds is j l m)).counted

  -- a set of the list has one leg
  is_one : (u : ℕ) → In u (leg_sets r.scattering.size) → sets.size u ≡ 1
  unfolding leg_sets
  is_one u i =
      let m = in_mapped sets.set_of_one u (counts_from 1 r.scattering.size) i in
      let a = from_in-least 1 r.scattering.size m.0 m.1 in
      let b = from_in-most 1 r.scattering.size m.0 m.1 in
      ap sets.size m.2 ∙ one_leg m.0 a (omega (arith, b))

  none_fused : {P : Type 0} (f v c : ℕ) (ks : List Key) (k : Key) → Fuses r f v c ks k → In k.legs (leg_sets r.scattering.size) → P
  none_fused f v c ks k h i = absurd (let a = is_one k.legs i in let b = fused_some r f v c ks k h in omega (arith, a, b))

  leg_in : (j : ℕ) → 1 ≤ j → j ≤ r.scattering.size → In (sets.set_of_one j) (leg_sets r.scattering.size)
  unfolding leg_sets
  leg_in j l m = in_map sets.set_of_one j (counts_from 1 r.scattering.size) (in_from 1 r.scattering.size j l (omega (arith, m)))

  key_in : (j : ℕ) → 1 ≤ j → j ≤ r.scattering.size → In (leg_key r j) (leg_keys r)
  key_in j l m = in_map (leg_key r) j (counts_from 1 r.scattering.size) (in_from 1 r.scattering.size j l (omega (arith, m)))

  record IsLegKey (k : Key) : Type 0 where
    leg : ℕ
    least : 1 ≤ leg
    most : leg ≤ r.scattering.size
    same : k ≡ leg_key r leg

  leg_of : (k : Key) → In k (leg_keys r) → IsLegKey k
  leg_of k i =
      let m = in_mapped (leg_key r) k (counts_from 1 r.scattering.size) i in
      let a = from_in-least 1 r.scattering.size m.0 m.1 in
      let b = from_in-most 1 r.scattering.size m.0 m.1 in
      record { leg = m.0; least = a; most = omega (arith, b); same = m.2 }

  legs_within : (k : Key) → In k (leg_keys r) → In k.legs (leg_sets r.scattering.size)
  legs_within k i = let l = leg_of k i in subst (λ (j : Key). In j.legs (leg_sets r.scattering.size)) (sym l.same) (leg_in l.leg l.least l.most)

  leg_before : (i j : ℕ) → 1 ≤ i → i < j → j ≤ r.scattering.size → key_lt (leg_key r i) (leg_key r j) ≡ true
  leg_before i j l m h =
      let t = is.most in
      key_before (leg_key r i) (leg_key r j) (inr (one_leg i l (omega (arith, m, h)) ∙ sym (one_leg j (omega (arith, l, m)) h), one_rises i j l m (omega (arith, h, t))))

  keys_rise : (xs : List ℕ) → Rising ◌<◌ xs → ((x : ℕ) → In x xs → (1 ≤ x) × (x ≤ r.scattering.size)) → RisingBy key_lt (map (leg_key r) xs)
  keys_rise [] h w = tt
  keys_rise (x ∷ xs) h w = (
    before_all key_lt (leg_key r x) (map (leg_key r) xs) (λ k i. let m = in_mapped (leg_key r) k xs i in ap (key_lt (leg_key r x)) m.2 ∙ leg_before x m.0 (w x (inl refl)).0 (h.0 m.0 m.1) (w m.0 (inr m.1)).1),
    keys_rise xs h.1 (λ y i. w y (inr i)),
  )

  nodes : AreNodes (fusion r) (set_search r) (leg_sets r.scattering.size) (leg_keys r)
  unfolding HasKey
  nodes = record {
    rise = keys_rise (counts_from 1 r.scattering.size) (from_rises 1 r.scattering.size) (λ x i. (from_in-least 1 r.scattering.size x i, let b = from_in-most 1 r.scattering.size x i in omega (arith, b)));
    members = λ k. ((λ i. let l = leg_of k i in ((leaf l.leg, (l.least, l.most, l.same)), legs_within k i)), λ h. by k (node_is (fusion r) k h.0.0 h.0.1) h.1);
  }
    where
      by : (k : Key) → NodeIs (fusion r) k → In k.legs (leg_sets r.scattering.size) → In k (leg_keys r)
      by k (a_leg j l m e) i = subst (λ (x : Key). In x (leg_keys r)) (sym e) (key_in j l m)
      by k (a_join f v c ks h e) i = none_fused f v c ks k e i

  pub legs_done : HasDone (fusion r) (set_search r) (leg_sets r.scattering.size) (leg_state r)
  legs_done = record {
    legs = leg_in;
    closed = λ f v c ks k h i b j. none_fused f v c ks k h i;
    nodes = nodes;
    terms = record {
      rise = tt;
      members = λ x. ((λ i. absurd i), λ t. none_fused ((fusion r).field t.node) x.vertex x.choice t.branches t.node t.fuse (legs_within t.node (in_by_number (leg_keys r) x.made t.node t.is_node)));
    };
  }

  -- an outward set is that of a leg or stands among the sets of the walk
  inner_all : (u : ℕ) → IsInner r.scattering.size u → In u (leg_sets r.scattering.size) ⊎ In u (outward_sets r.scattering.size)
  inner_all u h = by (sets.size u) refl
    where
      wide : sets.IsLegSet u
      wide = let w = IsLegSet-all_legs r.scattering.size in let m = h.most in omega (arith, w, m)

      low : (j : ℕ) → 1 ≤ j → j ≤ 12 → u ≡ sets.set_of_one j → j ≤ r.scattering.size
      low zero l b e = absurd (omega (arith, l))
      low (suc j) l b e = by_less (ltb r.scattering.size (suc j)) refl
        where
          by_less : (c : Bool) → ltb r.scattering.size (suc j) ≡ c → suc j ≤ r.scattering.size
          by_less false q = let x = Rattle.std.proofs.lemmas.Bool.ltb-false r.scattering.size (suc j) q in omega (arith, x)
          by_less true q =
              let x = Rattle.std.proofs.lemmas.Bool.ltb-true r.scattering.size (suc j) q in
              let p : 2 ^ r.scattering.size ≤ 2 ^ j = pow_mono (omega (arith, x)) in
              let a = set_of_one-pow j (omega (arith, b)) in
              let o = all_legs-ones r.scattering.size is.most in
              let m = h.most in
              let z = h.some in
              absurd (omega (arith, p, a, o, m, e, z))

      by : (m : ℕ) → sets.size u ≡ m → In u (leg_sets r.scattering.size) ⊎ In u (outward_sets r.scattering.size)
      by zero e = absurd (let s = Rattle.om_legs.proofs.ShareSums.size_some u h.some wide in omega (arith, s, e))
      by (suc zero) e =
          let o = one_leg_only u wide e in
          let b = leg_range u o.0 wide o.1 in
          inl (subst (λ x. In x (leg_sets r.scattering.size)) (sym o.2) (leg_in o.0 b.0 (low o.0 b.0 b.1 o.2)))
      by (suc (suc m)) e = inr (in_outward r.scattering.size u h (omega (arith, e)))

  pub sets_ready : Ready (fusion r) (set_search r) (leg_sets r.scattering.size) (outward_sets r.scattering.size)
  sets_ready = ready r (leg_sets r.scattering.size) (outward_sets r.scattering.size) (outward_rise r.scattering.size)
      (λ d s i j. inl (let a = is_one d i in let b = (outward_large r.scattering.size s j).some in omega (arith, a, b)))
      (λ s i. (outward_large r.scattering.size s i).most) inner_all

  some_held : (t : Tree) → IsSubtree r.scattering t → (k : ℕ) → holds t k ≡ true → within r.scattering.size k ≡ true
  unfolding holds
  some_held t y k e = by (within r.scattering.size k) (times_in k (legs t)) (y.once k) e
    where
      by : (b : Bool) (m : ℕ) → m ≤ cond b 1 0 → ltb 0 m ≡ true → b ≡ true
      by true m l e = refl
      by false m l e = absurd (grind (arith, nat_tests))

  some_legs : (u : ℕ) → 0 < sets.size u → 0 < u
  some_legs zero l = absurd (omega (arith, l, size-empty))
  some_legs (suc u) l = omega arith

  node_some : (k : Key) → NodeIs (fusion r) k → 0 < k.legs
  node_some k (a_leg j l m e) = some_legs k.legs (let a = one_leg j l m in let b = ap (λ (x : Key). sets.size x.legs) e in omega (arith, a, b))
  node_some k (a_join f v c ks h e) = some_legs k.legs (let a = fused_some r f v c ks k e in omega (arith, a))

  -- each node is over one of these sets
  pub all_sets : (k : Key) → IsNode (fusion r) k → In k.legs (all_done (fusion r) (set_search r) (leg_sets r.scattering.size) (outward_sets r.scattering.size))
  all_sets k node =
      let s = side_of r kinds is node.0 k node.1 in
      let y = s.0.subtree in
      let has = has_leg_set r.scattering is.most node.0 y in
      in_all_done (fusion r) (set_search r) (leg_sets r.scattering.size) (outward_sets r.scattering.size) k.legs
      (inner_all k.legs (subst (λ (j : Key). IsInner r.scattering.size j.legs) (sym s.1) (record {
        some = subst (λ (j : Key). 0 < j.legs) s.1 (node_some k (node_is (fusion r) k node.0 node.1));
        most = IsSubset_le (leg_set node.0) (sets.all_legs r.scattering.size) (IsLegSet-all_legs r.scattering.size) (IsSubset_from (leg_set node.0) (sets.all_legs r.scattering.size) (IsLegSet-set_of (holds node.0)) (λ leg e. all_holds r.scattering.size leg is.most ∙ some_held node.0 y leg (sym (has.held leg) ∙ e)));
        outward = outward_of r kinds is node.0 y s.0.light;
      })))

-- ---- the legs, one by one

module _ (r : Reaction) where
  pub no_legs : [] ≡ map (leg_key r) (counts_from 1 0)
  unfolding counts_from
  no_legs = refl

  leg_new : (k : ℕ) → 1 ≤ k → k ≤ 12 → (x : Key) → In x (map (leg_key r) (counts_from 1 (k - 1))) → x.legs ≡ sets.set_of_one k → ⊥
  leg_new k l m x i e =
      let f = in_mapped (leg_key r) x (counts_from 1 (k - 1)) i in
      let a = from_in-least 1 (k - 1) f.0 f.1 in
      let b = from_in-most 1 (k - 1) f.0 f.1 in
      let g = one_rises f.0 k a (omega (arith, b, l)) m in
      let h = ap (λ (y : Key). y.legs) f.2 in
      omega (arith, e, g, h)

  -- no node has the set of the leg that comes next
  pub leg_stands : (ns : List Key) (k : ℕ) (key : Key) → ns ≡ map (leg_key r) (counts_from 1 (k - 1)) → 1 ≤ k → k ≤ 12 → key ≡ leg_key r k → StandLast ns key.legs
  leg_stands ns k key e l m q =
      subst (λ (x : Key). StandLast ns x.legs) (sym q) (subst (λ (ms : List Key). StandLast ms (sets.set_of_one k)) (sym e) (none_stand_last (map (leg_key r) (counts_from 1 (k - 1))) (sets.set_of_one k) (leg_new k l m)))

  map_more : (a n : ℕ) → map (leg_key r) (counts_from a (suc n)) ≡ map (leg_key r) (counts_from a n) ++ leg_key r (a + n) ∷ []
  unfolding counts_from
  map_more a n = map-append (leg_key r) (counts_from a n) ((a + n) ∷ [])

  pub leg_more : (ns ms : List Key) (k : ℕ) (key : Key) → ns ≡ map (leg_key r) (counts_from 1 (k - 1)) → 1 ≤ k → k ≤ 12 → key ≡ leg_key r k → ms ≡ interned key_lt ns key → ms ≡ map (leg_key r) (counts_from 1 (k + 1 - 1))
  leg_more ns ms k key e l m q g =
      let a : suc (k - 1) ≡ k + 1 - 1 = omega (arith, l) in
      let b : 1 + (k - 1) ≡ k = omega (arith, l) in
      g ∙ ap₂ (λ (xs : List Key) (x : Key). interned key_lt xs x) e q
      ∙ interned_behind key_lt key_order (map (leg_key r) (counts_from 1 (k - 1))) (leg_key r k) (λ i. leg_new k l m (leg_key r k) i refl)
      ∙ ap (λ j. map (leg_key r) (counts_from 1 (k - 1)) ++ leg_key r j ∷ []) (sym b)
      ∙ sym (map_more 1 (k - 1))
      ∙ ap (λ n. map (leg_key r) (counts_from 1 n)) a
