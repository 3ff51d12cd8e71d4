-- What is reached from the keystone terms is what stands in a diagram.
use Rattle.std.proofs.Common.{◌≡◌, ℕ, List, [], ◌∷◌, inl, inr, refl, ap₂, sym, subst, ◌∙◌}
use Rattle.om_ring.specs.Members.{In}
use Rattle.om_model.specs.Tree.{Tree, Branches}
use Rattle.om_model.specs.Tree.Tree.{leaf, join}
use Rattle.om_model.specs.Tree.Branches.{none, and}
use Rattle.om_graph.specs.Fusion.{Fusion, HasKey, HaveKeys, IsNode, AllNodes}
use Rattle.om_graph.proofs.SetNodes.{nodes_of}
use Rattle.om_keystone.specs.InDiagrams.{TermOf, KeyTermOf, InDiagram, IsOutward, IsMet}
use Rattle.om_keystone.proofs.Reaching.{IsPossibleTerm, Reached, PruneIsExact, IsSettled}
use Rattle.om_keystone.proofs.Reaching.Reached.{from_key, from_term}
use Rattle.om_keystone.proofs.Standing.{Stands, Within, stands_below, standing, stood}

module _ {K F : Type 0} (p : Fusion K F) where
  pub node_among : (ks : List K) (k : K) → AllNodes p ks → In k ks → IsNode p k
  node_among [] k n i = absurd i
  node_among (j ∷ ks) k n (inl e) = subst (IsNode p) (sym e) n.0
  node_among (j ∷ ks) k n (inr i) = node_among ks k n.1 i

  -- trees for nodes
  pub record Grown (ks : List K) : Type 0 where
    pub trees : Branches
    pub have : HaveKeys p trees ks

  pub grow : (ks : List K) → AllNodes p ks → Grown ks
  unfolding HasKey
  grow [] n = record { trees = none; have = refl }
  grow (k ∷ ks) n = let g = grow ks n.1 in record { trees = and n.0.0 g.trees; have = (k, ks, n.0.1, g.have, refl) }

  -- trees for nodes, of which one is given
  record GrownWith (ks : List K) (t : Tree) : Type 0 where
    trees : Branches
    have : HaveKeys p trees ks
    stands : Stands t trees

  grow_with : (ks : List K) (k : K) (t : Tree) → AllNodes p ks → In k ks → HasKey p t k → GrownWith ks t
  unfolding HasKey
  grow_with [] k t n i h = absurd i
  grow_with (j ∷ ks) k t n (inl e) h =
      let g = grow ks n.1 in
      record { trees = and t g.trees; have = (j, ks, subst (HasKey p t) e h, g.have, refl); stands = inl refl }
  grow_with (j ∷ ks) k t n (inr i) h =
      let g = grow_with ks k t n.1 i h in
      record { trees = and n.0.0 g.trees; have = (j, ks, n.0.1, g.have, refl); stands = inr (inr g.stands) }

  joined_key : (x : TermOf K) (bs : Branches) → HaveKeys p bs x.branches → p.fuses (p.field x.node) x.vertex x.choice x.branches x.node → HasKey p (join (p.field x.node) x.vertex x.choice bs) x.node
  unfolding HasKey
  joined_key x bs h f = (x.branches, h, f)

  -- each subtree of a node that is reached stands in a diagram
  placed : (k : K) → Reached p k → (t : Tree) → HasKey p t k → InDiagram p t
  placed k (from_key y m i) t h =
      let g = grow_with y.branches k t m.0 i h in
      record { diagram = record { vertex = y.vertex; choice = y.choice; parts = g.trees }; flow = y.flow; opened = record { keys = y.branches; have = g.have; close = m.1 }; hangs = standing t g.trees g.stands }
  placed k (from_term x n r i) t h =
      let g = grow_with x.branches k t n.0 i h in
      let d = placed x.node r (join (p.field x.node) x.vertex x.choice g.trees) (joined_key x g.trees g.have n.1) in
      record { diagram = d.diagram; flow = d.flow; opened = d.opened; hangs = standing t d.diagram.parts (stands_below t (join (p.field x.node) x.vertex x.choice g.trees) d.diagram.parts g.stands (stood (join (p.field x.node) x.vertex x.choice g.trees) d.diagram.parts d.hangs)) }

  -- a tree that stands in a diagram has a key, which is reached
  pub record Seen (t : Tree) : Type 0 where
    pub key : K
    pub has_key : HasKey p t key
    pub reached : Reached p key

  module _ (has_field : (f v c : ℕ) (ks : List K) (k : K) → p.fuses f v c ks k → p.field k ≡ f) where
    fused_term : (f v c : ℕ) (ks : List K) (k : K) → AllNodes p ks → p.fuses f v c ks k → IsPossibleTerm p (record { node = k; vertex = v; choice = c; branches = ks })
    fused_term f v c ks k n h = (n, subst (λ g. p.fuses g v c ks k) (sym (has_field f v c ks k h)) h)

    mutual
      unfolding HasKey

      seen : (t : Tree) (bs : Branches) (ks : List K) → HaveKeys p bs ks → ((k : K) → In k ks → Reached p k) → Stands t bs → Seen t
      seen t none ks h r i = absurd i
      seen t (and u bs) ks h r (inl e) =
          subst Seen (sym e) (record { key = h.0; has_key = h.2; reached = r h.0 (subst (In h.0) (sym h.4) (inl refl)) })
      seen t (and u bs) ks h r (inr (inl i)) = seen_in t u h.0 h.2 (r h.0 (subst (In h.0) (sym h.4) (inl refl))) i
      seen t (and u bs) ks h r (inr (inr i)) = seen t bs h.1 h.3 (λ k j. r k (subst (In k) (sym h.4) (inr j))) i

      seen_in : (t u : Tree) (k : K) → HasKey p u k → Reached p k → Within t u → Seen t
      seen_in t (leaf j) k h r i = absurd i
      seen_in t (join f v c bs) k h r i =
          seen t bs h.0 h.1 (λ b j. from_term (record { node = k; vertex = v; choice = c; branches = h.0 }) (fused_term f v c h.0 k (nodes_of p bs h.0 h.1) h.2) r j) i

    pub seen_here : (t : Tree) → InDiagram p t → Seen t
    seen_here t d =
        let w = d.opened in
        let y : KeyTermOf K F = record { flow = d.flow; vertex = d.diagram.vertex; choice = d.diagram.choice; branches = w.keys } in
        seen t d.diagram.parts w.keys w.have (λ k j. from_key y (nodes_of p d.diagram.parts w.keys w.have, w.close) j) (stood t d.diagram.parts d.hangs)

    module _ (rank : K → ℕ) (ok : IsSettled p rank) where
      mutual
        unfolding HasKey

        one_key : (t : Tree) (j k : K) → HasKey p t j → HasKey p t k → j ≡ k
        one_key (leaf n) j k g h = g.2 ∙ sym h.2
        one_key (join f v c bs) j k g h = ok.fuse_once f v c g.0 j k g.2 (subst (λ ks. p.fuses f v c ks k) (sym (same_keys bs g.0 h.0 g.1 h.1)) h.2)

        pub same_keys : (bs : Branches) (js ks : List K) → HaveKeys p bs js → HaveKeys p bs ks → js ≡ ks
        same_keys none js ks g h = g ∙ sym h
        same_keys (and t bs) js ks g h = g.4 ∙ ap₂ ◌∷◌ (one_key t g.0 h.0 g.2 h.2) (same_keys bs g.1 h.1 g.3 h.3) ∙ sym h.4

      outward_reached : (k : K) → IsOutward p k → Reached p k
      outward_reached k d = let s = seen_here d.0 d.1 in subst (Reached p) (one_key d.0 s.key k s.has_key d.2) s.reached

      met_term : (x : TermOf K) → IsMet p x → IsPossibleTerm p x × Reached p x.node
      unfolding HasKey
      met_term x m =
          let t = join m.field x.vertex x.choice m.branches in
          let s = seen_here t m.in_diagram in
          let h : HasKey p t x.node = (x.branches, m.have, m.fuse) in
          (fused_term m.field x.vertex x.choice x.branches x.node (nodes_of p m.branches x.branches m.have) m.fuse, subst (Reached p) (one_key t s.key x.node s.has_key h) s.reached)

      node_is : (k : K) → Reached p k → IsNode p k
      node_is k (from_key y m i) = node_among y.branches k m.0 i
      node_is k (from_term x m r i) = node_among x.branches k m.0 i

      term_met : (x : TermOf K) → IsPossibleTerm p x × Reached p x.node → IsMet p x
      term_met x m =
          let g = grow x.branches m.0.0 in
          let t = join (p.field x.node) x.vertex x.choice g.trees in
          let d = placed x.node m.1 t (joined_key x g.trees g.have m.0.1) in
          record { field = p.field x.node; branches = g.trees; in_diagram = d; have = g.have; fuse = m.0.1 }

      pub prune_is_exact : PruneIsExact p
      prune_is_exact = record {
        nodes = λ k. (outward_reached k, λ r. let n = node_is k r in (n.0, placed k r n.0 n.1, n.1));
        terms = λ x. (met_term x, term_met x);
        keys = λ y. ((λ m. (nodes_of p m.branches y.branches m.have, m.close)), (λ m. let g = grow y.branches m.0 in record { branches = g.trees; have = g.have; close = m.1 }));
      }
