-- Just the sides of edges that may hang from a keystone have a key, and just the keystone forms close.
use Rattle.std.proofs.Common.{◌≡◌, ℕ, suc, ◌+◌, ◌*◌, ◌<◌, ◌≤◌, List, [], ◌∷◌, length, Bool, true, false, cond, not, ltb, eqb, ◌&&◌, ◌||◌, ◌⊎◌, inl, inr, refl, ap, ap₂, sym, subst, ◌∙◌, arith, length-append, Some}
use mathlib.Core.Path.{fun_ext}
use Rattle.std.proofs.lemmas.Bool.Decides.{nat_tests}
use Rattle.om_ring.specs.Members.{In}
use Rattle.om_legs.specs.Legs as sets
use Rattle.om_legs.specs.Splits.{IsSplit}
use Rattle.om_legs.proofs.Bits.{IsLegSet-set_of}
use Rattle.om_colour.specs.Partials.{joined}
use Rattle.om_colour.specs.Fitting.{IsPartialBehind}
use Rattle.om_model.specs.Theory.{Scattering}
use Rattle.om_model.specs.Tree.{Tree, Branches, legs, legs_all, count}
use Rattle.om_model.specs.Tree.Tree.{leaf, join}
use Rattle.om_model.specs.Tree.Branches.{none, and}
use Rattle.om_model.specs.Diagram as diagrams
use Rattle.om_model.specs.Diagram.{field_of, times_in, in_order, same_numbers, fits, fits_all, upto}
use Rattle.om_model.specs.Diagrams.{any_in}
use Rattle.om_model.specs.Parts.{within, others, holds}
use Rattle.om_model.specs.Keystone.{is_heavy}
use Rattle.om_model.specs.Spelled.{IsSubtree, is_opened}
use Rattle.om_model.specs.EdgeLaw.{behind_all, is_uncut, is_uncut_in, are_uncut_in}
use Rattle.om_model.specs.ColourLines.{partial_flow}
use Rattle.om_model.specs.FermionLines.{Kinds}
use Rattle.om_model.specs.LegSets.{leg_set}
use Rattle.om_model.proofs.Counting.{both, times_in-append, of_all_in}
use Rattle.om_model.proofs.AllDiagrams.{join_fits}
use Rattle.om_model.proofs.EdgesUncut.{all_of, both_true}
use Rattle.om_model.proofs.LegSets.{has_leg_set, leg_set_of_leaf}
use Rattle.om_model.proofs.PartialJoins.{leg_has_partial, partial_is_followed}
use Rattle.om_model.proofs.TidyTrees.{some_length, below, two_or_three, three_or_four}
use Rattle.om_model.proofs.Whole.{full_of}
use Rattle.om_graph.specs.declared.Key.{Key}
use Rattle.om_graph.specs.Fusion.{HasKey, HaveKeys}
use Rattle.om_graph.specs.Vertices.{Reaction, Fuses, fusion, is_outward, sets_of, fields_of, keeps_edges, lies_in, fused_slots, slot_partials, hole_of}
use Rattle.om_graph.specs.TreeKeys.{colours_in, IsReaction, key_of, keys_of, IsSide, SidesHaveKeys, IsSoundKey, NodesAreSound}
use Rattle.om_graph.proofs.TreeSplits.{AllSubtrees, sets_in, split_of, split_once, split_set, split_ordered, join_times}
use Rattle.om_graph.proofs.TreeSlots.{partial_is}
use Rattle.om_graph.proofs.TreeEdges.{join_same}

-- a side is light, or lies away from the keystone
outward_light : (n m : ℕ) (one : Bool) → (ltb n (m + m) || (eqb (m + m) n && one)) ≡ false → (ltb (2 * m) n || (eqb (2 * m) n && not one)) ≡ true
outward_light n m true h = grind (arith, nat_tests)
outward_light n m false h = grind (arith, nat_tests)

light_outward : (n m : ℕ) (one : Bool) → (ltb (2 * m) n || (eqb (2 * m) n && not one)) ≡ true → (ltb n (m + m) || (eqb (m + m) n && one)) ≡ false
light_outward n m true h = grind (arith, nat_tests)
light_outward n m false h = grind (arith, nat_tests)

-- what is heavy has more than half of the legs, or half
half_of : (n m : ℕ) (one : Bool) → (ltb n (m + m) || (eqb (m + m) n && one)) ≡ false → m + m ≤ n
half_of n m one h = grind (arith, nat_tests)

less_than_half : (n m : ℕ) (one : Bool) → m + m < n → (ltb n (m + m) || (eqb (m + m) n && one)) ≡ false
less_than_half n m true l = grind (arith, nat_tests)
less_than_half n m false l = grind (arith, nat_tests)

module _ (r : Reaction) (kinds : Kinds) (is : IsReaction r kinds) where
  abbrev s : Scattering
  s = r.scattering

  abbrev n : ℕ
  n = r.scattering.size

  abbrev pub AreSides : Branches → Type 0
  AreSides none = Unit {0}
  AreSides (and t bs) = IsSide r t × AreSides bs

  pub subtrees_of : (bs : Branches) → AreSides bs → AllSubtrees s bs
  subtrees_of none y = tt
  subtrees_of (and t bs) y = (y.0.subtree, subtrees_of bs y.1)

  pub all_fit : (bs : Branches) → AreSides bs → fits_all s bs ≡ true
  unfolding fits_all
  all_fit none y = refl
  all_fit (and t bs) y = both_true (fits s t) (fits_all s bs) y.0.subtree.joins (all_fit bs y.1)

  pub all_uncut : (e : ℕ) → In e r.edges → (bs : Branches) → AreSides bs → are_uncut_in n (sets.holds e) bs ≡ true
  unfolding are_uncut_in
  all_uncut e i none y = refl
  all_uncut e i (and t bs) y = both_true (is_uncut_in n (sets.holds e) t) (are_uncut_in n (sets.holds e) bs) (y.0.uncut e i) (all_uncut e i bs y.1)

  pub sets_are : (bs : Branches) → sets_of (keys_of r bs) ≡ sets_in bs
  unfolding keys_of
  sets_are none = refl
  sets_are (and t bs) = ap (λ ss. leg_set t ∷ ss) (sets_are bs)

  pub fields_are : (bs : Branches) → fields_of (keys_of r bs) ≡ diagrams.fields_of s bs
  unfolding keys_of diagrams.fields_of
  fields_are none = refl
  fields_are (and t bs) = ap (λ fs. field_of s t ∷ fs) (fields_are bs)

  pub length_keys : (bs : Branches) → length (keys_of r bs) ≡ count bs
  unfolding keys_of count
  length_keys none = refl
  length_keys (and t bs) = ap suc (length_keys bs)

  pub outward_of : (t : Tree) → IsSubtree s t → is_heavy n (legs t) ≡ false → is_outward n (leg_set t) ≡ true
  outward_of t y h = outward_light n (sets.size (leg_set t)) (sets.holds (leg_set t) 1) (sym (has_leg_set s is.most t y).heavy ∙ h)

  light_of : (t : Tree) → IsSubtree s t → is_outward n (leg_set t) ≡ true → is_heavy n (legs t) ≡ false
  light_of t y h = (has_leg_set s is.most t y).heavy ∙ light_outward n (sets.size (leg_set t)) (sets.holds (leg_set t) 1) h

  pub leg_subtree : (j : ℕ) → 1 ≤ j → j ≤ n → IsSubtree s (leaf j)
  unfolding fits legs times_in
  leg_subtree j l m = record { joins = refl; once = λ k. by n j k l m }
    where
      by : (n j k : ℕ) → 1 ≤ j → j ≤ n → cond (eqb k j) 1 0 + 0 ≤ cond (within n k) 1 0
      by n j k l m = grind (arith, nat_tests)

  leg_light : (j : ℕ) → is_heavy n (legs (leaf j)) ≡ false
  unfolding is_heavy legs
  leg_light j = less_than_half n 1 (ltb 0 (times_in 1 (j ∷ []))) (let l = is.least in omega (arith, l))

  leg_side : (j : ℕ) → 1 ≤ j → j ≤ n → IsSide r (leaf j)
  unfolding is_uncut_in
  leg_side j l m = record { subtree = leg_subtree j l m; light = leg_light j; uncut = λ e i. refl }

  leg_key_is : (j : ℕ) → (fusion r).leg j ≡ key_of r (leaf j)
  unfolding field_of
  leg_key_is j = ap₂ (λ x p. record { legs = x; field = s.field j; partial = p }) (sym (leg_set_of_leaf j)) (sym (leg_has_partial s (colours_in r) j))

  -- the edges at a vertex
  edges_same : (e : ℕ) → In e r.edges → (f v c : ℕ) (bs : Branches) → IsSubtree s (join f v c bs) → AllSubtrees s bs
      → any_in (λ part. lies_in e part || lies_in (sets.complement e n) part) (sets.complement (leg_set (join f v c bs)) n ∷ sets_of (keys_of r bs))
      ≡ is_uncut n (sets.holds e) (others n (holds (join f v c bs)) ∷ behind_all bs)
  edges_same e i f v c bs y ys =
      ap (λ ss. any_in (λ part. lies_in e part || lies_in (sets.complement e n) part) (sets.complement (leg_set (join f v c bs)) n ∷ ss)) (sets_are bs)
      ∙ join_same n e is.most (is.sets e i) (λ k h. is.bounded e k i h) s refl f v c bs y ys

  fits_of : (f v c : ℕ) (bs : Branches) → f < s.theory.fields → v < s.theory.vertices → c < s.theory.choices v → (count bs ≡ 2) ⊎ (count bs ≡ 3) → in_order s bs ≡ true
      → same_numbers (s.theory.anti f ∷ diagrams.fields_of s bs) (s.theory.slots v) ≡ true → fits_all s bs ≡ true → fits s (join f v c bs) ≡ true
  unfolding fits
  fits_of f v c bs a b d e g h i = rw (below f s.theory.fields a, below v s.theory.vertices b, below c (s.theory.choices v) d, two_or_three (count bs) e, g, h, i) refl

  pub split_in : (m set : ℕ) (bs : Branches) → IsSplit m set (sets_of (keys_of r bs)) → IsSplit m set (sets_in bs)
  split_in m set bs h = subst (IsSplit m set) (sets_are bs) h

  -- branches that share out legs and enter a vertex make a subtree
  pub subtree_of : (f v c set : ℕ) (bs : Branches) → AreSides bs → f < s.theory.fields → v < s.theory.vertices → c < s.theory.choices v → (length (keys_of r bs) ≡ 2) ⊎ (length (keys_of r bs) ≡ 3)
      → IsSplit (length (keys_of r bs)) set (sets_of (keys_of r bs)) → same_numbers (s.theory.anti f ∷ fields_of (keys_of r bs)) (s.theory.slots v) ≡ true → IsSubtree s (join f v c bs)
  unfolding legs
  subtree_of f v c set bs y a b d e h g =
      let split = split_in (length (keys_of r bs)) set bs h in
      record {
        joins = fits_of f v c bs a b d (subst (λ m. (m ≡ 2) ⊎ (m ≡ 3)) (length_keys bs) e)
            (split_ordered s is.most (length (keys_of r bs)) set bs (subtrees_of bs y) split)
            (subst (λ fs. same_numbers (s.theory.anti f ∷ fs) (s.theory.slots v) ≡ true) (fields_are bs) g)
            (all_fit bs y);
        once = split_once s is.most (length (keys_of r bs)) set bs (subtrees_of bs y) split;
      }

  -- a vertex with its branches
  pub join_side : (f v c : ℕ) (bs : Branches) (k : Key) → AreSides bs → Fuses r f v c (keys_of r bs) k → IsSide r (join f v c bs) × (k ≡ key_of r (join f v c bs))
  unfolding is_uncut_in keeps_edges field_of
  join_side f v c bs k y fuse =
      let ys = subtrees_of bs y in
      let split = split_in (length (keys_of r bs)) k.legs bs fuse.split in
      let subtree = subtree_of f v c k.legs bs y fuse.field fuse.vertex fuse.choice fuse.counted fuse.split fuse.slots in
      let set : k.legs ≡ leg_set (join f v c bs) = split_set s is.most (length (keys_of r bs)) k.legs bs ys split f v c subtree in (
        record {
          subtree = subtree;
          light = light_of (join f v c bs) subtree (subst (λ x. is_outward n x ≡ true) set fuse.outward);
          uncut = λ e i. both_true (is_uncut n (sets.holds e) (others n (holds (join f v c bs)) ∷ behind_all bs)) (are_uncut_in n (sets.holds e) bs)
              (sym (edges_same e i f v c bs subtree ys)
              ∙ of_all_in (λ e. any_in (λ part. lies_in e part || lies_in (sets.complement e n) part) (sets.complement (leg_set (join f v c bs)) n ∷ sets_of (keys_of r bs))) e r.edges
              (subst (λ x. keeps_edges r (sets.complement x n ∷ sets_of (keys_of r bs)) ≡ true) set fuse.edges) i)
              (all_uncut e i bs y);
        },
        same_key k (join f v c bs) set fuse.has_field
            (fuse.partial ∙ ap (λ x. let slots = fused_slots r f v x (keys_of r bs) in joined (slot_partials slots) (r.choice v c) (hole_of slots)) set ∙ sym (partial_is r is.most is.colours f v c bs subtree ys)),
      )
    where
      same_key : (k : Key) (t : Tree) → k.legs ≡ leg_set t → k.field ≡ field_of s t → k.partial ≡ partial_flow s (colours_in r) t → k ≡ key_of r t
      same_key k t a b c = rw (sym a, sym b, sym c) refl

  -- branches that share out all legs and enter a vertex make an opened diagram
  pub opened_of : (v c : ℕ) (bs : Branches) → v < s.theory.vertices → c < s.theory.choices v → (count bs ≡ 3) ⊎ (count bs ≡ 4) → in_order s bs ≡ true
      → same_numbers (diagrams.fields_of s bs) (s.theory.slots v) ≡ true → fits_all s bs ≡ true → same_numbers (legs_all bs) (upto s.size) ≡ true → is_opened s (record { vertex = v; choice = c; parts = bs }) ≡ true
  unfolding is_opened
  opened_of v c bs a b d e g h i = rw (below v s.theory.vertices a, below c (s.theory.choices v) b, three_or_four (count bs) d, e, g, h, i) refl

  -- the branches of a side are sides
  min_length : (bs : Branches) → fits_all s bs ≡ true → count bs ≤ length (legs_all bs)
  unfolding fits_all count legs
  min_length none e = omega arith
  min_length (and t bs) e = let b = both (fits s t) (fits_all s bs) e in omega (arith, length-append (legs t) (legs_all bs), some_length t (full_of s t b.0), min_length bs b.1)

  tree_light : (t : Tree) → length (legs t) + length (legs t) < n → is_heavy n (legs t) ≡ false
  unfolding is_heavy
  tree_light t l = less_than_half n (length (legs t)) (ltb 0 (times_in 1 (legs t))) l

  tree_half : (t : Tree) → is_heavy n (legs t) ≡ false → length (legs t) + length (legs t) ≤ n
  unfolding is_heavy
  tree_half t h = half_of n (length (legs t)) (ltb 0 (times_in 1 (legs t))) h

  pub first_once : (t : Tree) (bs : Branches) → ((k : ℕ) → times_in k (legs_all (and t bs)) ≤ cond (within n k) 1 0) → (k : ℕ) → times_in k (legs t) ≤ cond (within n k) 1 0
  unfolding legs
  first_once t bs o k = omega (arith, o k, times_in-append k (legs t) (legs_all bs))

  pub rest_once : (t : Tree) (bs : Branches) → ((k : ℕ) → times_in k (legs_all (and t bs)) ≤ cond (within n k) 1 0) → (k : ℕ) → times_in k (legs_all bs) ≤ cond (within n k) 1 0
  unfolding legs
  rest_once t bs o k = omega (arith, o k, times_in-append k (legs t) (legs_all bs))

  -- of the legs of the whole, d stand in branches before these
  branch_sides : (d : ℕ) (bs : Branches) → fits_all s bs ≡ true → ((k : ℕ) → times_in k (legs_all bs) ≤ cond (within n k) 1 0)
      → 2 ≤ d + count bs → (d + length (legs_all bs)) + (d + length (legs_all bs)) ≤ n → ((e : ℕ) → In e r.edges → are_uncut_in n (sets.holds e) bs ≡ true) → AreSides bs
  unfolding fits_all count legs are_uncut_in
  branch_sides d none fit o two half uncut = tt
  branch_sides d (and t bs) fit o two half uncut =
      let b = both (fits s t) (fits_all s bs) fit in
      let a = length-append (legs t) (legs_all bs) in
      let some = some_length t (full_of s t b.0) in
      let more = min_length bs b.1 in (
        record {
          subtree = record { joins = b.0; once = first_once t bs o };
          light = tree_light t (omega (arith, a, some, more, two, half));
          uncut = λ e i. (both (is_uncut_in n (sets.holds e) t) (are_uncut_in n (sets.holds e) bs) (uncut e i)).0;
        },
        branch_sides (d + length (legs t)) bs b.1 (rest_once t bs o) (omega (arith, some, two)) (omega (arith, a, half)) (λ e i. (both (is_uncut_in n (sets.holds e) t) (are_uncut_in n (sets.holds e) bs) (uncut e i)).1),
      )

  sides_below : (f v c : ℕ) (bs : Branches) → IsSide r (join f v c bs) → AreSides bs
  unfolding legs is_uncut_in
  sides_below f v c bs y =
      let j = join_fits s f v c bs y.subtree.joins in
      branch_sides 0 bs j.rest y.subtree.once (at_least_two j.number) (let l = tree_half (join f v c bs) y.light in omega (arith, l))
      (λ e i. (both (is_uncut n (sets.holds e) (others n (holds (join f v c bs)) ∷ behind_all bs)) (are_uncut_in n (sets.holds e) bs) (y.uncut e i)).1)
    where
      at_least_two : {m : ℕ} → (m ≡ 2) ⊎ (m ≡ 3) → 2 ≤ 0 + m
      at_least_two (inl e) = omega arith
      at_least_two (inr e) = omega arith

  fuses_of : (f v c : ℕ) (bs : Branches) → IsSide r (join f v c bs) → AreSides bs → Fuses r f v c (keys_of r bs) (key_of r (join f v c bs))
  unfolding fits is_uncut_in keeps_edges field_of
  fuses_of f v c bs y ys =
      let j = join_fits s f v c bs y.subtree.joins in
      let zs = subtrees_of bs ys in
      let ordered : in_order s bs ≡ true = grind_order f v c bs y.subtree.joins in
      let slots : same_numbers (s.theory.anti f ∷ diagrams.fields_of s bs) (s.theory.slots v) ≡ true = grind_slots f v c bs y.subtree.joins in
      record {
        has_field = refl;
        field = j.field;
        vertex = j.vertex;
        choice = j.choice;
        counted = subst (λ m. (m ≡ 2) ⊎ (m ≡ 3)) (sym (length_keys bs)) j.number;
        legs = IsLegSet-set_of (holds (join f v c bs));
        split = subst (λ m. IsSplit m (leg_set (join f v c bs)) (sets_of (keys_of r bs))) (sym (length_keys bs))
            (subst (IsSplit (count bs) (leg_set (join f v c bs))) (sym (sets_are bs)) (split_of s is.most (leg_set (join f v c bs)) bs zs (join_times s is.most f v c bs y.subtree) ordered));
        outward = outward_of (join f v c bs) y.subtree y.light;
        slots = subst (λ fs. same_numbers (s.theory.anti f ∷ fs) (s.theory.slots v) ≡ true) (sym (fields_are bs)) slots;
        edges = all_of (λ e. any_in (λ part. lies_in e part || lies_in (sets.complement e n) part) (sets.complement (leg_set (join f v c bs)) n ∷ sets_of (keys_of r bs))) r.edges
            (λ e i. edges_same e i f v c bs y.subtree zs ∙ (both (is_uncut n (sets.holds e) (others n (holds (join f v c bs)) ∷ behind_all bs)) (are_uncut_in n (sets.holds e) bs) (y.uncut e i)).0);
        partial = partial_is r is.most is.colours f v c bs y.subtree zs;
      }
    where
      grind_order : (f v c : ℕ) (bs : Branches) → fits s (join f v c bs) ≡ true → in_order s bs ≡ true
      grind_order f v c bs h = grind (arith, nat_tests)

      grind_slots : (f v c : ℕ) (bs : Branches) → fits s (join f v c bs) ≡ true → same_numbers (s.theory.anti f ∷ diagrams.fields_of s bs) (s.theory.slots v) ≡ true
      grind_slots f v c bs h = grind (arith, nat_tests)

  leg_range : (j : ℕ) → IsSubtree s (leaf j) → (1 ≤ j) × (j ≤ n)
  unfolding legs times_in
  leg_range j y = by n j (y.once j)
    where
      by : (n j : ℕ) → cond (eqb j j) 1 0 + 0 ≤ cond (within n j) 1 0 → (1 ≤ j) × (j ≤ n)
      by n j l = (grind (arith, nat_tests), grind (arith, nat_tests))

  mutual
    unfolding HasKey keys_of

    pub key_at : (t : Tree) → IsSide r t → HasKey (fusion r) t (key_of r t)
    key_at (leaf j) y = let l = leg_range j y.subtree in (l.0, l.1, sym (leg_key_is j))
    key_at (join f v c bs) y = let ys = sides_below f v c bs y in (keys_of r bs, keys_at bs ys, fuses_of f v c bs y ys)

    pub keys_at : (bs : Branches) → AreSides bs → HaveKeys (fusion r) bs (keys_of r bs)
    keys_at none y = refl
    keys_at (and t bs) y = (key_of r t, keys_of r bs, key_at t y.0, keys_at bs y.1, refl)

  mutual
    unfolding HasKey keys_of

    pub side_of : (t : Tree) (k : Key) → HasKey (fusion r) t k → IsSide r t × (k ≡ key_of r t)
    side_of (leaf j) k h = (leg_side j h.0 h.1, h.2 ∙ leg_key_is j)
    side_of (join f v c bs) k h =
        let y = sides_of bs h.0 h.1 in
        join_side f v c bs k y.0 (subst (λ ks. Fuses r f v c ks k) y.1 h.2)

    pub sides_of : (bs : Branches) (ks : List Key) → HaveKeys (fusion r) bs ks → AreSides bs × (ks ≡ keys_of r bs)
    sides_of none ks h = (tt, h)
    sides_of (and t bs) ks h =
        let a = side_of t h.0 h.2 in
        let b = sides_of bs h.1 h.3 in
        ((a.0, b.0), h.4 ∙ ap₂ ◌∷◌ a.1 b.1)

pub sides_have_keys : SidesHaveKeys
sides_have_keys r kinds is t k = (λ h. side_of r kinds is t k h, λ h. subst (HasKey (fusion r) t) (sym h.1) (key_at r kinds is t h.0))

pub nodes_are_sound : NodesAreSound
nodes_are_sound r kinds is k node =
    let y = side_of r kinds is node.0 k node.1 in
    let t = node.0 in
    let f = (partial_is_followed r.scattering (colours_in r) is.colours is.most t y.0.subtree).1 in
    let g = subst (λ h. IsPartialBehind (λ j. h (j + 1)) (r.colour (field_of r.scattering t)) (Some (partial_flow r.scattering (colours_in r) t))) (sym (fun_ext (has_leg_set r.scattering is.most t y.0.subtree).held)) f in
    subst (IsSoundKey r) (sym y.1) g
