-- How many nodes, terms and flows a canonical graph has.
use Rattle.std.proofs.Common.{◌≡◌, ℕ, zero, suc, ◌+◌, ◌<◌, ◌≤◌, ◌⊎◌, inl, inr, ⊎_elim, List, [], ◌∷◌, ◌++◌, length, map, Bool, true, false, not, Some, refl, ap, sym, subst, ◌∙◌, arith}
use Rattle.std.specs.Prelude.{slice_get}
use Rattle.std.specs.List.{filter}
use Rattle.std.proofs.lemmas.Bool.{cases_lt}
use Rattle.std.proofs.lemmas.List.{length-append, length-map}
use Rattle.std.proofs.lemmas.List.Filters.{length-filter_both}
use Rattle.std.proofs.lemmas.Option.{same_Some}
use Rattle.om_ring.specs.Members.{In, Different}
use Rattle.om_ring.proofs.Members.{different_filter, in_either, in_filter, in_left, in_mapped, in_right}
use Rattle.om_colour.specs.declared.Flow.{Flow}
use Rattle.om_legs.specs.Legs as sets
use Rattle.om_model.specs.Diagram.{upto}
use Rattle.om_model.specs.Order.{IsOrder, Rising}
use Rattle.om_model.specs.ModelLines.{kinds_of}
use Rattle.om_model.specs.ProcessOf.{IsProcessOf}
use Rattle.om_model.specs.WellFormed.{IsWellFormed}
use Rattle.om_model.specs.declared.model.Model.{Model}
use Rattle.om_model.specs.declared.process.Process.{Process}
use Rattle.om_model.proofs.Counting.{length-upto}
use Rattle.om_model.proofs.FormSums.{rising_different}
use Rattle.om_graph.specs.declared.Graph.{Graph}
use Rattle.om_graph.specs.declared.Key.{Key}
use Rattle.om_graph.specs.declared.KeyTerm.{KeyTerm}
use Rattle.om_graph.specs.declared.Term.{Term}
use Rattle.om_graph.specs.Graph.{Numbered, at_numbers, numbered_lt}
use Rattle.om_graph.specs.Possible.{IsPossible, flow_lt, key_lt, term_count, unsigned, unsigned_key}
use Rattle.om_graph.specs.Reactions.{reaction_of}
use Rattle.om_graph.specs.Vertices.{Reaction, fusion}
use Rattle.om_graph.proofs.HaveReactions.{well_formed_have_reactions}
use Rattle.om_graph.proofs.Orders.{flow_order, key_order}
use Rattle.om_graph.proofs.SetNodes.{number_of}
use Rattle.om_keystone.specs.Built.{is_inner}
use Rattle.om_keystone.specs.CanonicalGraph.{IsCanonicalOf}
use Rattle.om_keystone.specs.InDiagrams.{IsKeyMet, KeyTermOf}
use Rattle.om_keystone.proofs.BuiltGraph.{built_up}
use Rattle.om_keystone.proofs.Nodes.{leg_or_inner}
use Rattle.om_keystone.proofs.ByNumber.{numbered_differ, same_numbered}
use Rattle.om_keystone.proofs.Numbers.{At, at_all, at_of, at_once, number_once, of_at}
use Rattle.om_keystone.proofs.PartOfPossible.{canonical_is_part_of_possible}
use Rattle.om_keystone.proofs.Reached.{prune_is_exact}
use Rattle.om_keystone.proofs.Reaching.Reached.{from_key}
use Rattle.om_keystone.proofs.Settled.{is_settled}
use Rattle.om_code.specs.declared.code.Code.{Code}
use Rattle.om_emit.specs.GraphCode.{IsCodeOf}
use Rattle.om_emit.proofs.GraphHelds.{leg_of}

-- a member stands between those before it and those behind it
pub record StandsAt {A : Type 0} (x : A) (xs : List A) : Type 0 where
  pub front : List A
  pub behind : List A
  pub whole : xs ≡ front ++ x ∷ behind

stands_at : {A : Type 0} (x : A) (xs : List A) → In x xs → StandsAt x xs
stands_at x [] i = absurd i
stands_at x (y ∷ ys) (inl e) = record { front = []; behind = ys; whole = ap (λ z. z ∷ ys) (sym e) }
stands_at x (y ∷ ys) (inr i) = let s = stands_at x ys i in record { front = y ∷ s.front; behind = s.behind; whole = ap (λ zs. y ∷ zs) s.whole }

-- all but one
others : {A : Type 0} (x y : A) (front behind : List A) → In y (front ++ x ∷ behind) → (y ≡ x → ⊥) → In y (front ++ behind)
others x y front behind i n = ⊎_elim (λ j. in_left y front behind j)
    (λ (j : (y ≡ x) ⊎ In y behind). ⊎_elim (λ e. absurd (n e)) (λ k. in_right y front behind k) j)
    (in_either y front (x ∷ behind) i)

-- an image of each of some members
pub record HasImage {A B : Type 0} (R : A → B → Type 0) (x : A) (ys : List B) : Type 0 where
  pub image : B
  pub among : In image ys
  pub is : R x image

-- members that have different images are no more than there are images
pub few_images : {A B : Type 0} (R : A → B → Type 0) (xs : List A) (ys : List B) → ((x z : A) (y : B) → R x y → R z y → x ≡ z)
    → Different xs → ((x : A) → In x xs → HasImage R x ys) → length xs ≤ length ys
few_images R [] ys once d h = omega arith
few_images {A} {B} R (x ∷ xs) ys once d h =
    let im = h x (inl refl) in
    let at = stands_at im.image ys im.among in
    let fewer = few_images R xs (at.front ++ at.behind) once d.1 (λ z i.
    let jm = h z (inr i) in
    let P : List B → Type 0 = λ us. In jm.image us in
    record {
      image = jm.image;
      among = others im.image jm.image at.front at.behind (subst P at.whole jm.among)
          (λ e. d.0 (subst (λ w. In w xs) (once z x im.image (subst (λ w. R z w) e jm.is) im.is) i));
      is = jm.is;
    }) in
    let long = ap length at.whole ∙ length-append at.front (im.image ∷ at.behind) in
    let short = length-append at.front at.behind in
    omega (arith, fewer, long, short)

-- each number below the length is that of a member
numbers_of : {A B : Type 0} (lt : A → A → Bool) → IsOrder lt → (xs : List A) → Rising lt xs → (ys : List B) (f : B → ℕ)
    → ((x : A) → In x xs → (y : B) × In y ys × (slice_get xs (f y) ≡ Some x)) → length xs ≤ length ys
numbers_of {A} {B} lt order xs rise ys f h =
    let R : A → B → Type 0 = λ x y. slice_get xs (f y) ≡ Some x in
    few_images R xs ys (λ x z y e g. same_Some x z (sym e ∙ g)) (rising_different lt order.irreflexive xs rise)
    (λ x i. let y = h x i in record { image = y.0; among = y.1; is = y.2 })

in_upto_from : (j n : ℕ) → 1 ≤ j → j ≤ n → In j (upto n)
unfolding upto
in_upto_from j zero low high = absurd (omega (arith, low, high))
in_upto_from j (suc n) low high =
    ⊎_elim (λ (l : j < suc n). in_left j (upto n) (suc n ∷ []) (in_upto_from j n low (omega (arith, l))))
    (λ (l : suc n ≤ j). in_right j (upto n) (suc n ∷ []) (inl (omega (arith, l, high))))
    (cases_lt j (suc n))

not_true : (b : Bool) → not b ≡ true → b ≡ false
not_true true e = sym e
not_true false e = refl

-- a node of one leg
abbrev pub is_leg_node : Key → Bool
is_leg_node node = not (is_inner node)

module _ (m : Model) (p : Process) (formed : IsWellFormed m) (is : IsProcessOf m p) (g : Graph) (canonical : IsCanonicalOf (reaction_of m p) g) where
  -- a flow has a keystone term
  pub few_flows : length g.flows ≤ length g.keys
  few_flows =
      let r = reaction_of m p in
      let settled = is_settled r (kinds_of m.particles) (well_formed_have_reactions m p formed is) in
      let exact = prune_is_exact (fusion r) settled.has_field (λ (k : Key). sets.size k.legs) settled in
      numbers_of flow_lt flow_order g.flows canonical.graph.flows_rise g.keys (λ (y : KeyTerm). y.flow) (λ w i.
      let d = (canonical.graph.flows w).0 i in
      let term : KeyTermOf Key Flow = record { flow = w; vertex = d.0.vertex; choice = d.0.choice; branches = d.1.keys } in
      let met : IsKeyMet (fusion r) term = record { branches = d.0.parts; have = d.1.have; close = d.1.close } in
      let possible = (exact.keys term).0 met in
      let n = number_of w g.flows i in
      let b = at_all g.nodes d.1.keys (λ k j. (canonical.graph.nodes k).1 ((exact.nodes k).1 (from_key term possible j))) in
      let x : Numbered = record { made = n.0; vertex = d.0.vertex; choice = d.0.choice; branches = b.0 } in
      let among = (canonical.graph.keys x).1 (record { flow = w; branches = d.1.keys; is_flow = n.1; are_branches = of_at b.1; met = met }) in
      let y = in_mapped unsigned_key x g.keys among in
      (y.0, y.1, subst (λ (z : Numbered). slice_get g.flows z.made ≡ Some w) y.2 n.1))

  abbrev r : Reaction
  r = reaction_of m p

  -- a term or keystone term and one of another graph are the same, by what their numbers stand for
  record IsSame {M : Type 0} (ms others : List M) (nodes : List Key) (x y : Numbered) : Type 0 where
    its_made : slice_get ms x.made ≡ slice_get others y.made
    its_vertex : x.vertex ≡ y.vertex
    its_choice : x.choice ≡ y.choice
    its_branches : at_numbers g.nodes x.branches ≡ at_numbers nodes y.branches

  same_nodes : (is js : List ℕ) (ks us : List Key) → at_numbers g.nodes is ≡ Some ks → at_numbers g.nodes js ≡ Some us → at_numbers g.nodes is ≡ at_numbers g.nodes js → is ≡ js
  same_nodes is js ks us e f q =
      at_once key_lt key_order g.nodes canonical.graph.nodes_rise (at_of g.nodes is ks e) (subst (At g.nodes js) (same_Some us ks (sym f ∙ sym q ∙ e)) (at_of g.nodes js us f))

  -- terms or keystone terms, whose numbers stand for members of `ms` and for nodes
  module _ {M T : Type 0} (lt : M → M → Bool) (order : IsOrder lt) (ms : List M) (rise : Rising lt ms) (numbered : T → Numbered) (ts : List T)
      (known : (x : Numbered) → In x (map numbered ts) → (made : M) × (slice_get ms x.made ≡ Some made) × (ks : List Key) × (at_numbers g.nodes x.branches ≡ Some ks)) (others : List M) (nodes : List Key) where
    once : (x z y : Numbered) → In x (map numbered ts) → In z (map numbered ts) → IsSame ms others nodes x y → IsSame ms others nodes z y → x ≡ z
    once x z y i j a b =
        let u = known x i in
        let w = known z j in
        same_numbered x z
        (number_once lt order ms rise x.made z.made w.0 (a.its_made ∙ sym b.its_made ∙ w.1) w.1)
        (a.its_vertex ∙ sym b.its_vertex) (a.its_choice ∙ sym b.its_choice)
        (same_nodes x.branches z.branches u.2 w.2 u.3 w.3 (a.its_branches ∙ sym b.its_branches))

    -- where each is one of the other graph, they are no more than those there
    fewer : (us : List T) → Rising numbered_lt (map numbered ts) → ((t : T) → In t ts → (s : T) × In s us × IsSame ms others nodes (numbered t) (numbered s)) → length ts ≤ length us
    fewer us rises found =
        let R : Numbered → T → Type 0 = λ x y. In x (map numbered ts) × IsSame ms others nodes x (numbered y) in
        let few = few_images R (map numbered ts) us (λ x z y a b. once x z (numbered y) a.0 b.0 a.1 b.1)
        (numbered_differ (map numbered ts) rises)
        (λ x i.
        let t = in_mapped numbered x ts i in
        let s = found t.0 t.1 in
        subst (λ (z : Numbered). HasImage R z us) (sym t.2) (record { image = s.0; among = s.1; is = (subst (λ (z : Numbered). In z (map numbered ts)) t.2 i, s.2) })) in
        let e = length-map ts numbered in
        omega (arith, few, e)

  module _ (whole : Graph) (possible : IsPossible (reaction_of m p) whole) where
    fewer_terms : length g.terms ≤ length whole.terms
    fewer_terms =
        let part = canonical_is_part_of_possible m p formed is g canonical whole possible in
        fewer key_lt key_order g.nodes canonical.graph.nodes_rise unsigned g.terms (λ x i. let u = (canonical.graph.terms x).0 i in (u.node, u.is_node, u.branches, u.are_branches)) whole.nodes whole.nodes
        whole.terms canonical.graph.terms_rise
        (λ t i. let s = part.terms t i in (s.term, s.is_term, record { its_made = s.node; its_vertex = s.vertex; its_choice = s.choice; its_branches = s.branches }))

    fewer_keys : length g.keys ≤ length whole.keys
    fewer_keys =
        let part = canonical_is_part_of_possible m p formed is g canonical whole possible in
        fewer flow_lt flow_order g.flows canonical.graph.flows_rise unsigned_key g.keys (λ x i. let u = (canonical.graph.keys x).0 i in (u.flow, u.is_flow, u.branches, u.are_branches)) whole.flows whole.nodes
        whole.keys canonical.graph.keys_rise
        (λ t i. let s = part.keys t i in (s.key, s.is_key, record { its_made = s.flow; its_vertex = s.vertex; its_choice = s.choice; its_branches = s.branches }))

    -- the canonical graph has no more terms and keystone terms than the possible one
    pub few_terms : length g.terms + length g.keys ≤ term_count whole
    few_terms = let a = fewer_terms in let b = fewer_keys in omega (arith, a, b)

  inner_made : (node : Key) → In node (filter is_inner g.nodes) → HasImage (λ k (t : Term). slice_get g.nodes t.node ≡ Some k) node g.terms
  inner_made node i =
      let reaction = well_formed_have_reactions m p formed is in
      let kinds = kinds_of m.particles in
      let f = (in_filter is_inner node g.nodes).0 i in
      let n = number_of node g.nodes f.0 in
      let made = (built_up r kinds reaction g canonical).made n.0 node n.1 (leg_or_inner r kinds reaction node f.1) in
      let t = in_mapped unsigned made.0 g.terms made.1 in
      let same : t.0.node ≡ n.0 = sym (ap (λ (x : Numbered). x.made) t.2) ∙ made.2 in
      record { image = t.0; among = t.1; is = ap (slice_get g.nodes) same ∙ n.1 }

  -- a node of more legs has a term
  pub few_inner : length (filter is_inner g.nodes) ≤ length g.terms
  few_inner = few_images (λ k (t : Term). slice_get g.nodes t.node ≡ Some k) (filter is_inner g.nodes) g.terms (λ x z y a b. same_Some x z (sym a ∙ b))
      (different_filter is_inner g.nodes (rising_different key_lt key_order.irreflexive g.nodes canonical.graph.nodes_rise))
      inner_made

  module _ (c : Code) (code : IsCodeOf m p g c) where
    -- there are at most as many nodes of one leg as legs
    pub few_legs : length (filter is_leg_node g.nodes) ≤ length p.legs
    few_legs =
        let few = few_images (λ k j. k ≡ (fusion r).leg j) (filter is_leg_node g.nodes) (upto (length p.legs)) (λ x z y a b. a ∙ sym b)
        (different_filter is_leg_node g.nodes (rising_different key_lt key_order.irreflexive g.nodes canonical.graph.nodes_rise))
        (λ x i.
        let f = (in_filter is_leg_node x g.nodes).0 i in
        let leg = leg_of m p formed is g canonical c code x ((canonical.graph.nodes x).0 f.0) (not_true (is_inner x) f.1) in
        record { image = leg.leg; among = in_upto_from leg.leg (length p.legs) leg.low leg.high; is = leg.is_leg }) in
        let e = length-upto (length p.legs) in
        omega (arith, few, e)

    pub few_nodes : length g.nodes ≤ length g.terms + length p.legs
    few_nodes = let a = few_legs in let b = few_inner in let e = length-filter_both is_inner is_leg_node (λ x. refl) g.nodes in omega (arith, a, b, e)
