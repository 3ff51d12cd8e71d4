-- The part that the keystone terms reach is the canonical graph.
use Rattle.std.proofs.Common.{◌≡◌, ℕ, ◌<◌, ◌≤◌, List, [], ◌∷◌, map, filter, length, Bool, true, ◌↔◌, inl, inr, ⊎_elim, refl, ap, ap₂, sym, subst, ◌∙◌, arith, Some, slice_get}
use Rattle.std.specs.Prelude.{slice_index}
use Rattle.std.proofs.lemmas.Option.{same_Some, slice_get_within}
use Rattle.om_ring.specs.Members.{In}
use Rattle.om_model.specs.Order.{IsOrder, BeforeAll, Rising, numbers_lt}
use Rattle.om_ring.proofs.Members.{in_map, in_filter, in_mapped}
use Rattle.om_graph.specs.Fusion.{Fusion, IsNode, AllNodes}
use Rattle.om_graph.proofs.SetNodes.{nodes_of}
use Rattle.om_keystone.specs.InDiagrams.{TermOf, KeyTermOf, IsOutward, IsFlowMet}
use Rattle.om_keystone.proofs.Reaching.{Reached, IsSettled}
use Rattle.om_keystone.proofs.Reaching as reaching
use Rattle.om_keystone.proofs.Reaching.Reached.{from_key, from_term}
use Rattle.om_graph.specs.Graph.{at_numbers, Numbered, numbered_lt, IsTerm, IsKeyTerm, IsGraph}
use Rattle.om_keystone.specs.CanonicalGraph.{IsMetAt, IsKeyMetAt}
use Rattle.om_keystone.proofs.Reaching.{BranchesFirst, ReachedIsCanonical}
use Rattle.om_keystone.specs.Pruning.{is_marked, marks_of, marked_of, numbers_from, new_number, renumbered, renumbered_key, kept_terms}
use Rattle.om_keystone.proofs.Reached.{node_among, prune_is_exact, grow}
use Rattle.om_keystone.proofs.Numbers.{At, at_of, of_at, at_number, at_member, at_all, rising_at, number_less, number_once, kept_at, from_kept, rising_kept, rising_filter, rising_mapped, numbers_cases, numbers_first, numbers_rest, numbers_map}
use Rattle.om_graph.proofs.SetNodes.{number_of, in_by_number}
use Rattle.om_keystone.proofs.Numbers.At.{at_none, at_more}
use Rattle.om_keystone.proofs.Marked.{Reaches, InSome, InRank, marked_is_reached, reached_is_marked}
use Rattle.om_keystone.proofs.Marked.Reaches.{at_first, along}

pub made_rises : (x y : Numbered) → numbered_lt x y ≡ true → x.made ≤ y.made
unfolding numbered_lt
made_rises x y h = elim (numbers_cases x.made y.made (x.vertex ∷ x.choice ∷ x.branches) (y.vertex ∷ y.choice ∷ y.branches) h) [ inl l ↦ omega arith | inr q ↦ (let e = q.0 in omega arith) ]

all_rise : (x : Numbered) (xs : List Numbered) → BeforeAll numbered_lt x xs → (y : Numbered) → In y xs → x.made ≤ y.made
all_rise x [] b y i = absurd i
all_rise x (z ∷ xs) b y (inl e) = subst (λ (u : Numbered). x.made ≤ u.made) (sym e) (made_rises x z b.0)
all_rise x (z ∷ xs) b y (inr i) = all_rise x xs b.1 y i

in_rank : (xs : List Numbered) → Rising numbered_lt xs → ((x : Numbered) → In x xs → (k : ℕ) → In k x.branches → k < x.made) → InRank xs
in_rank [] r h = tt
in_rank (x ∷ xs) r h = (h x (inl refl), all_rise x xs r.0, in_rank xs r.1 (λ y i. h y (inr i)))

numbered_map : (f : ℕ → ℕ) (x y : Numbered) → (x.made < y.made → f x.made < f y.made) → ((a b : ℕ) → In a x.branches → In b y.branches → a < b → f a < f b) → numbered_lt x y ≡ true
    → numbered_lt (record { made = f x.made; vertex = x.vertex; choice = x.choice; branches = map f x.branches }) (record { made = f y.made; vertex = y.vertex; choice = y.choice; branches = map f y.branches }) ≡ true
unfolding numbered_lt
numbered_map f x y h g e = elim (numbers_cases x.made y.made (x.vertex ∷ x.choice ∷ x.branches) (y.vertex ∷ y.choice ∷ y.branches) e) [
  | inl l ↦ numbers_first (f x.made) (f y.made) (x.vertex ∷ x.choice ∷ map f x.branches) (y.vertex ∷ y.choice ∷ map f y.branches) (h l)
  | inr q ↦ numbers_rest (f x.made) (f y.made) (x.vertex ∷ x.choice ∷ map f x.branches) (y.vertex ∷ y.choice ∷ map f y.branches) (ap f q.0) (rest q.1)
]
  where
    rest : numbers_lt (x.vertex ∷ x.choice ∷ x.branches) (y.vertex ∷ y.choice ∷ y.branches) ≡ true → numbers_lt (x.vertex ∷ x.choice ∷ map f x.branches) (y.vertex ∷ y.choice ∷ map f y.branches) ≡ true
    rest e = elim (numbers_cases x.vertex y.vertex (x.choice ∷ x.branches) (y.choice ∷ y.branches) e) [
      | inl l ↦ numbers_first x.vertex y.vertex (x.choice ∷ map f x.branches) (y.choice ∷ map f y.branches) l
      | inr q ↦ numbers_rest x.vertex y.vertex (x.choice ∷ map f x.branches) (y.choice ∷ map f y.branches) q.0 (elim (numbers_cases x.choice y.choice x.branches y.branches q.1) [
        | inl l ↦ numbers_first x.choice y.choice (map f x.branches) (map f y.branches) l
        | inr s ↦ numbers_rest x.choice y.choice (map f x.branches) (map f y.branches) s.0 (numbers_map f x.branches y.branches g s.1)
      ])
    ]

-- the same where what is made keeps its number
keyed_map : (f : ℕ → ℕ) (x y : Numbered) → ((a b : ℕ) → In a x.branches → In b y.branches → a < b → f a < f b) → numbered_lt x y ≡ true
    → numbered_lt (record { made = x.made; vertex = x.vertex; choice = x.choice; branches = map f x.branches }) (record { made = y.made; vertex = y.vertex; choice = y.choice; branches = map f y.branches }) ≡ true
unfolding numbered_lt
keyed_map f x y g e = elim (numbers_cases x.made y.made (x.vertex ∷ x.choice ∷ x.branches) (y.vertex ∷ y.choice ∷ y.branches) e) [
  | inl l ↦ numbers_first x.made y.made (x.vertex ∷ x.choice ∷ map f x.branches) (y.vertex ∷ y.choice ∷ map f y.branches) l
  | inr q ↦ numbers_rest x.made y.made (x.vertex ∷ x.choice ∷ map f x.branches) (y.vertex ∷ y.choice ∷ map f y.branches) q.0 (elim (numbers_cases x.vertex y.vertex (x.choice ∷ x.branches) (y.choice ∷ y.branches) q.1) [
    | inl l ↦ numbers_first x.vertex y.vertex (x.choice ∷ map f x.branches) (y.choice ∷ map f y.branches) l
    | inr s ↦ numbers_rest x.vertex y.vertex (x.choice ∷ map f x.branches) (y.choice ∷ map f y.branches) s.0 (elim (numbers_cases x.choice y.choice x.branches y.branches s.1) [
      | inl l ↦ numbers_first x.choice y.choice (map f x.branches) (map f y.branches) l
      | inr t ↦ numbers_rest x.choice y.choice (map f x.branches) (map f y.branches) t.0 (numbers_map f x.branches y.branches g t.1)
    ])
  ])
]

module _ {K F : Type 0} (p : Fusion K F) (lt : K → K → Bool) (order : IsOrder lt) (before : F → F → Bool) (rank : K → ℕ) (ok : IsSettled p rank) (first : BranchesFirst p lt)
    (ns : List K) (ts ys : List Numbered) (ws : List F) (graph : IsGraph p lt before ns ts ys ws) where
  node_here : (k : K) → IsNode p k → In k ns
  node_here k h = (graph.nodes k).1 h

  all_nodes : (ks : List K) → ((k : K) → In k ks → In k ns) → AllNodes p ks
  all_nodes [] h = tt
  all_nodes (k ∷ ks) h = ((graph.nodes k).0 (h k (inl refl)), all_nodes ks (λ j i. h j (inr i)))

  all_here : (ks : List K) → AllNodes p ks → (k : K) → In k ks → In k ns
  all_here ks n k i = node_here k (node_among p ks k n i)

  at_nodes : {is : List ℕ} {ks : List K} → At ns is ks → (k : K) → In k ks → In k ns
  at_nodes a k i = let m = at_member k a i in in_by_number ns m.0 k m.1

  -- terms by number and by key
  keyed : (x : Numbered) (t : IsTerm p ns x) → reaching.IsPossibleTerm p (record { node = t.node; vertex = x.vertex; choice = x.choice; branches = t.branches })
  keyed x t = (all_nodes t.branches (at_nodes (at_of ns x.branches t.branches t.are_branches)), t.fuse)

  keyed_key : (y : Numbered) (t : IsKeyTerm p ns ws y) → reaching.IsPossibleKeyTerm p (record { flow = t.flow; vertex = y.vertex; choice = y.choice; branches = t.branches })
  keyed_key y t = (all_nodes t.branches (at_nodes (at_of ns y.branches t.branches t.are_branches)), t.close)

  term_of : (x : Numbered) → In x ts → IsTerm p ns x
  term_of x i = (graph.terms.members x).0 i

  key_term_of : (y : Numbered) → In y ys → IsKeyTerm p ns ws y
  key_term_of y i = (graph.keys y).0 i

  lower : (x : Numbered) → In x ts → (n : ℕ) → In n x.branches → n < x.made
  lower x i n j =
      let t = term_of x i in
      let b = at_number n (at_of ns x.branches t.branches t.are_branches) j in
      number_less lt order ns graph.nodes_rise n x.made b.0 t.node b.1 t.is_node (first (p.field t.node) x.vertex x.choice t.branches t.node b.0 t.fuse b.2)

  -- a number is reached just where its key is
  pub record ReachedAt (n : ℕ) : Type 0 where
    pub key : K
    pub is_key : slice_get ns n ≡ Some key
    pub reached : Reached p key

  reached_at : (n : ℕ) → Reaches ts (InSome ys) n → ReachedAt n
  reached_at n (at_first h) =
      let t = key_term_of h.0 h.1 in
      let b = at_number n (at_of ns h.0.branches t.branches t.are_branches) h.2 in
      record { key = b.0; is_key = b.1; reached = from_key (record { flow = t.flow; vertex = h.0.vertex; choice = h.0.choice; branches = t.branches }) (keyed_key h.0 t) b.2 }
  reached_at n (along x i r j) =
      let t = term_of x i in
      let b = at_number n (at_of ns x.branches t.branches t.are_branches) j in
      let up = reached_at x.made r in
      let same : up.key ≡ t.node = same_Some up.key t.node (sym up.is_key ∙ t.is_node) in
      record { key = b.0; is_key = b.1; reached = from_term (record { node = t.node; vertex = x.vertex; choice = x.choice; branches = t.branches }) (keyed x t) (subst (Reached p) same up.reached) b.2 }

  has_key_term : (y : KeyTermOf K F) → reaching.IsPossibleKeyTerm p y → (z : Numbered) × In z ys × At ns z.branches y.branches × (slice_get ws z.made ≡ Some y.flow) × (z.vertex ≡ y.vertex) × (z.choice ≡ y.choice)
  has_key_term y h =
      let w = number_of y.flow ws ((graph.flows y.flow).1 (y.vertex, y.choice, y.branches, h.0, h.1)) in
      let b = at_all ns y.branches (all_here y.branches h.0) in
      let z : Numbered = record { made = w.0; vertex = y.vertex; choice = y.choice; branches = b.0 } in
      (z, (graph.keys z).1 (record { flow = y.flow; branches = y.branches; is_flow = w.1; are_branches = of_at b.1; close = h.1 }), b.1, w.1, refl, refl)

  has_term : (x : TermOf K) → reaching.IsPossibleTerm p x → (n : ℕ) → slice_get ns n ≡ Some x.node → (z : Numbered) × In z ts × At ns z.branches x.branches × (z.made ≡ n)
  has_term x h n e =
      let b = at_all ns x.branches (all_here x.branches h.0) in
      let z : Numbered = record { made = n; vertex = x.vertex; choice = x.choice; branches = b.0 } in
      (z, (graph.terms.members z).1 (record { node = x.node; branches = x.branches; is_node = e; are_branches = of_at b.1; fuse = h.1 }), b.1, refl)

  reached_here : (k : K) → Reached p k → In k ns
  reached_here k (from_key y h i) = all_here y.branches h.0 k i
  reached_here k (from_term x h r i) = all_here x.branches h.0 k i

  -- what is reached is numbered, and is reached by number
  reaches : (k : K) → Reached p k → (n : ℕ) → slice_get ns n ≡ Some k → Reaches ts (InSome ys) n
  reaches k (from_key y h i) n e =
      let z = has_key_term y h in
      let b = at_member k z.2 i in
      at_first (z.0, z.1, subst (λ j. In j z.0.branches) (number_once lt order ns graph.nodes_rise b.0 n k b.1 e) b.2)
  reaches k (from_term x h r i) n e =
      let m = number_of x.node ns (reached_here x.node r) in
      let z = has_term x h m.0 m.1 in
      let b = at_member k z.2 i in
      along z.0 z.1 (subst (Reaches ts (InSome ys)) (sym z.3) (reaches x.node r m.0 m.1)) (subst (λ j. In j z.0.branches) (number_once lt order ns graph.nodes_rise b.0 n k b.1 e) b.2)

  marks : List Bool
  marks = marks_of (length ns) ts ys

  numbers : List ℕ
  numbers = numbers_from 0 marks

  kept : List K
  kept = marked_of marks ns

  f : ℕ → ℕ
  f n = new_number numbers n

  marked : (n : ℕ) (k : K) → slice_get ns n ≡ Some k → Reached p k → is_marked marks n ≡ true
  unfolding marks
  marked n k e r =
      reached_is_marked (length ns) ts ys n (in_rank ts graph.terms.rise lower) (λ x i. let t = term_of x i in slice_get_within ns x.made t.node t.is_node) (slice_get_within ns n k e) (reaches k r n e)

  unmarked : (n : ℕ) → is_marked marks n ≡ true → ReachedAt n
  unfolding marks
  unmarked n h = reached_at n (marked_is_reached (length ns) ts ys n h)

  kept_rises : Rising lt kept
  unfolding kept
  kept_rises = rising_kept lt marks ns graph.nodes_rise

  -- the new number of a node that is kept
  new_place : (n : ℕ) (k : K) → slice_get ns n ≡ Some k → Reached p k → slice_get kept (f n) ≡ Some k
  unfolding kept f numbers
  new_place n k e r =
      let t = kept_at 0 n marks ns k (marked n k e r) e in
      let q : t.place ≡ slice_index (numbers_from 0 marks) n = let c = t.number in omega arith in
      subst (λ j. slice_get (marked_of marks ns) j ≡ Some k) q t.there

  old_place : (j : ℕ) (k : K) → slice_get kept j ≡ Some k → (n : ℕ) × (slice_get ns n ≡ Some k) × Reached p k × (f n ≡ j)
  unfolding kept
  old_place j k e =
      let o = from_kept marks ns j k e in
      let r = unmarked o.0 o.2 in
      let same : r.key ≡ k = same_Some r.key k (sym r.is_key ∙ o.1) in
      let reached : Reached p k = subst (Reached p) same r.reached in
      (o.0, o.1, reached, number_once lt order kept kept_rises (f o.0) j k (new_place o.0 k o.1 reached) e)

  less : (a b : ℕ) (x y : K) → slice_get ns a ≡ Some x → slice_get ns b ≡ Some y → Reached p x → Reached p y → a < b → f a < f b
  less a b x y d e r q h = number_less lt order kept kept_rises (f a) (f b) x y (new_place a x d r) (new_place b y e q) (rising_at lt ns graph.nodes_rise a b x y d e h)

  new_at : {is : List ℕ} {ks : List K} → At ns is ks → ((k : K) → In k ks → Reached p k) → At kept (map f is) ks
  new_at at_none r = at_none
  new_at (at_more {n = n} {y = y} e a) r = at_more (new_place n y e (r y (inl refl))) (new_at a (λ k i. r k (inr i)))

  old_at : {js : List ℕ} {ks : List K} → At kept js ks → (is : List ℕ) × At ns is ks × (map f is ≡ js) × ((k : K) → In k ks → Reached p k)
  old_at at_none = ([], at_none, refl, λ k i. absurd i)
  old_at (at_more {y = y} e a) =
      let o = old_place _ y e in
      let r = old_at a in
      (o.0 ∷ r.0, at_more o.1 r.1, ap₂ ◌∷◌ o.3 r.2, λ k i. ⊎_elim (λ q. subst (Reached p) (sym q) o.2) (λ j. r.3 k j) i)

  exact : reaching.PruneIsExact p
  exact = prune_is_exact p ok.has_field rank ok

  reached_term : (x : Numbered) (t : IsTerm p ns x) → Reached p t.node → (k : K) → In k t.branches → Reached p k
  reached_term x t r k i = from_term (record { node = t.node; vertex = x.vertex; choice = x.choice; branches = t.branches }) (keyed x t) r i

  reached_key : (y : Numbered) (t : IsKeyTerm p ns ws y) → (k : K) → In k t.branches → Reached p k
  reached_key y t k i = from_key (record { flow = t.flow; vertex = y.vertex; choice = y.choice; branches = t.branches }) (keyed_key y t) i

  -- a term that is kept, and its node
  kept_node : (x : Numbered) → In x ts → is_marked marks x.made ≡ true → (t : IsTerm p ns x) × Reached p t.node
  kept_node x i m =
      let t = term_of x i in
      let r = unmarked x.made m in
      (t, subst (Reached p) (same_Some r.key t.node (sym r.is_key ∙ t.is_node)) r.reached)

  to_met : (z : Numbered) → In z (kept_terms marks numbers ts) → IsMetAt p kept z
  unfolding kept_terms f
  to_met z i =
      let m = in_mapped (renumbered numbers) z (filter (λ (x : Numbered). is_marked marks x.made) ts) i in
      let x = m.0 in
      let b = (in_filter (λ (x : Numbered). is_marked marks x.made) x ts).0 m.1 in
      let k = kept_node x b.0 b.1 in
      let t = k.0 in
      subst (IsMetAt p kept) (sym m.2) (record {
        node = t.node;
        branches = t.branches;
        is_node = new_place x.made t.node t.is_node k.1;
        are_branches = of_at (new_at (at_of ns x.branches t.branches t.are_branches) (reached_term x t k.1));
        met = (exact.terms (record { node = t.node; vertex = x.vertex; choice = x.choice; branches = t.branches })).1 (keyed x t, k.1);
      })

  from_met : (z : Numbered) → IsMetAt p kept z → In z (kept_terms marks numbers ts)
  unfolding kept_terms f
  from_met z h =
      let q = (exact.terms (record { node = h.node; vertex = z.vertex; choice = z.choice; branches = h.branches })).0 h.met in
      let o = old_place z.made h.node h.is_node in
      let b = old_at (at_of kept z.branches h.branches h.are_branches) in
      let x : Numbered = record { made = o.0; vertex = z.vertex; choice = z.choice; branches = b.0 } in
      let here : In x ts = (graph.terms.members x).1 (record { node = h.node; branches = h.branches; is_node = o.1; are_branches = of_at b.1; fuse = q.0.1 }) in
      let there = in_map (renumbered numbers) x (filter (λ (x : Numbered). is_marked marks x.made) ts) ((in_filter (λ (x : Numbered). is_marked marks x.made) x ts).1 (here, marked o.0 h.node o.1 o.2)) in
      subst (λ y. In y (map (renumbered numbers) (filter (λ (x : Numbered). is_marked marks x.made) ts))) (ap₂ (λ n is. let y : Numbered = record { made = n; vertex = z.vertex; choice = z.choice; branches = is } in y) o.3 b.2) there

  to_key : (z : Numbered) → In z (map (renumbered_key numbers) ys) → IsKeyMetAt p kept ws z
  unfolding f
  to_key z i =
      let m = in_mapped (renumbered_key numbers) z ys i in
      let y = m.0 in
      let t = key_term_of y m.1 in
      subst (IsKeyMetAt p kept ws) (sym m.2) (record {
        flow = t.flow;
        branches = t.branches;
        is_flow = t.is_flow;
        are_branches = of_at (new_at (at_of ns y.branches t.branches t.are_branches) (reached_key y t));
        met = (exact.keys (record { flow = t.flow; vertex = y.vertex; choice = y.choice; branches = t.branches })).1 (keyed_key y t);
      })

  from_key_met : (z : Numbered) → IsKeyMetAt p kept ws z → In z (map (renumbered_key numbers) ys)
  unfolding f
  from_key_met z h =
      let q = (exact.keys (record { flow = h.flow; vertex = z.vertex; choice = z.choice; branches = h.branches })).0 h.met in
      let b = old_at (at_of kept z.branches h.branches h.are_branches) in
      let y : Numbered = record { made = z.made; vertex = z.vertex; choice = z.choice; branches = b.0 } in
      let here : In y ys = (graph.keys y).1 (record { flow = h.flow; branches = h.branches; is_flow = h.is_flow; are_branches = of_at b.1; close = q.1 }) in
      subst (λ x. In x (map (renumbered_key numbers) ys)) (ap (λ is. let x : Numbered = record { made = z.made; vertex = z.vertex; choice = z.choice; branches = is } in x) b.2) (in_map (renumbered_key numbers) y ys here)

  branch_less : {is js : List ℕ} {ks us : List K} → At ns is ks → At ns js us → ((k : K) → In k ks → Reached p k) → ((k : K) → In k us → Reached p k) → (a b : ℕ) → In a is → In b js → a < b → f a < f b
  branch_less x y r q a b i j h =
      let m = at_number a x i in
      let n = at_number b y j in
      less a b m.0 n.0 m.1 n.1 (r m.0 m.2) (q n.0 n.2) h

  terms_rise : Rising numbered_lt (kept_terms marks numbers ts)
  unfolding kept_terms f
  terms_rise = rising_mapped numbered_lt numbered_lt (renumbered numbers) (filter (λ (x : Numbered). is_marked marks x.made) ts)
      (λ x y i j h.
      let c = (in_filter (λ (x : Numbered). is_marked marks x.made) x ts).0 i in
      let d = (in_filter (λ (x : Numbered). is_marked marks x.made) y ts).0 j in
      let s = kept_node x c.0 c.1 in
      let t = kept_node y d.0 d.1 in
      numbered_map f x y (λ l. less x.made y.made s.0.node t.0.node s.0.is_node t.0.is_node s.1 t.1 l)
      (branch_less (at_of ns x.branches s.0.branches s.0.are_branches) (at_of ns y.branches t.0.branches t.0.are_branches) (reached_term x s.0 s.1) (reached_term y t.0 t.1)) h)
      (rising_filter numbered_lt (λ (x : Numbered). is_marked marks x.made) ts graph.terms.rise)

  keys_rise : Rising numbered_lt (map (renumbered_key numbers) ys)
  unfolding f
  keys_rise = rising_mapped numbered_lt numbered_lt (renumbered_key numbers) ys
      (λ x y i j h.
      let s = key_term_of x i in
      let t = key_term_of y j in
      keyed_map f x y (branch_less (at_of ns x.branches s.branches s.are_branches) (at_of ns y.branches t.branches t.are_branches) (reached_key x s) (reached_key y t)) h)
      graph.keys_rise

  outward_kept : (k : K) → In k kept ↔ IsOutward p k
  outward_kept k = (
    (λ i. let j = number_of k kept i in let o = old_place j.0 k j.1 in (exact.nodes k).1 o.2),
    (λ d. let r = (exact.nodes k).0 d in let n = number_of k ns (reached_here k r) in in_by_number kept (f n.0) k (new_place n.0 k n.1 r)),
  )

  flow_met : (u : F) → In u ws ↔ IsFlowMet p u
  flow_met u = (
    (λ i. let h = (graph.flows u).0 i in let g = grow p h.2 h.3 in (record { vertex = h.0; choice = h.1; parts = g.trees }, record { keys = h.2; have = g.have; close = h.4 })),
    (λ h. let a = h.0 in let w = h.1 in (graph.flows u).1 (a.vertex, a.choice, w.keys, nodes_of p a.parts w.keys w.have, w.close)),
  )

  -- a term that is kept, by its old and by its new numbers
  pub record TwoPlaces (x : Numbered) : Type 0 where
    pub node : K
    pub branches : List K
    pub old_node : slice_get ns x.made ≡ Some node
    pub old_branches : at_numbers ns x.branches ≡ Some branches
    pub new_node : slice_get (marked_of (marks_of (length ns) ts ys) ns) (new_number (numbers_from 0 (marks_of (length ns) ts ys)) x.made) ≡ Some node
    pub new_branches : at_numbers (marked_of (marks_of (length ns) ts ys) ns) (map (new_number (numbers_from 0 (marks_of (length ns) ts ys))) x.branches) ≡ Some branches

  pub two_places : (x : Numbered) → In x ts → is_marked (marks_of (length ns) ts ys) x.made ≡ true → TwoPlaces x
  unfolding marks numbers kept f
  two_places x i m =
      let k = kept_node x i m in
      let t = k.0 in
      record {
        node = t.node;
        branches = t.branches;
        old_node = t.is_node;
        old_branches = t.are_branches;
        new_node = new_place x.made t.node t.is_node k.1;
        new_branches = of_at (new_at (at_of ns x.branches t.branches t.are_branches) (reached_term x t k.1));
      }

  pub record TwoBranches (y : Numbered) : Type 0 where
    pub branches : List K
    pub old_branches : at_numbers ns y.branches ≡ Some branches
    pub new_branches : at_numbers (marked_of (marks_of (length ns) ts ys) ns) (map (new_number (numbers_from 0 (marks_of (length ns) ts ys))) y.branches) ≡ Some branches

  pub two_branches : (y : Numbered) → In y ys → TwoBranches y
  unfolding marks numbers kept f
  two_branches y i =
      let t = key_term_of y i in
      record { branches = t.branches; old_branches = t.are_branches; new_branches = of_at (new_at (at_of ns y.branches t.branches t.are_branches) (reached_key y t)) }

  pub reached_is_canonical : ReachedIsCanonical p lt before ns ts ys ws
  unfolding marks numbers kept
  reached_is_canonical = record {
    nodes_rise = kept_rises;
    nodes = outward_kept;
    terms_rise = terms_rise;
    terms = λ x. (to_met x, from_met x);
    keys_rise = keys_rise;
    keys = λ y. (to_key y, from_key_met y);
    flows_rise = graph.flows_rise;
    flows = flow_met;
  }
