-- What is pruned has the signs that it had.
use Rattle.std.proofs.Common.{◌≡◌, ℕ, suc, List, [], ◌∷◌, map, filter, length, Bool, true, false, cond, inl, inr, refl, ap, ap₂, sym, subst, ◌∙◌, arith, Some, slice_get}
use Rattle.std.proofs.lemmas.Option.{same_Some}
use Rattle.om_ring.specs.Members.{In}
use Rattle.om_model.specs.Order.{IsOrder}
use Rattle.om_ring.proofs.Members.{in_map, in_filter, map-map}
use Rattle.om_colour.specs.declared.Flow.{Flow}
use Rattle.om_graph.specs.declared.Graph.{Graph}
use Rattle.om_graph.specs.declared.Key.{Key}
use Rattle.om_graph.specs.declared.KeyTerm.{KeyTerm}
use Rattle.om_graph.specs.declared.Term.{Term}
use Rattle.om_graph.specs.Fusion.{Fusion}
use Rattle.om_keystone.proofs.Reaching.{IsSettled}
use Rattle.om_graph.specs.Graph.{at_numbers, Numbered, IsGraph}
use Rattle.om_keystone.specs.CanonicalGraph.{IsCanonicalGraph, HasSigns}
use Rattle.om_keystone.proofs.Reaching.{BranchesFirst}
use Rattle.om_keystone.specs.Pruning.{is_marked, marks_of, numbers_from, new_number, renumbered, renumbered_key, kept_terms, kept_signs, IsReachedPart}
use Rattle.om_graph.specs.Possible.{unsigned, unsigned_key}
use Rattle.om_legs.specs.BranchNodes.{nodes_of}
use Rattle.om_keystone.proofs.ReachedPart.{reached_is_canonical, two_places, two_branches}

first_same : {A : Type 0} (x y : A) (xs ys : List A) → x ∷ xs ≡ y ∷ ys → (x ≡ y) × (xs ≡ ys)
first_same x y xs ys e = (cc, cc)

-- members that stand at one place of two lists
same_place : {A B C D : Type 0} (m : A → B) (u : A → C) (n : D → B) (v : D → C) (xs : List A) (ys : List D) → map m xs ≡ map n ys → map u xs ≡ map v ys → (x : A) → In x xs → (y : D) × In y ys × (m x ≡ n y) × (u x ≡ v y)
same_place m u n v [] ys e g x i = absurd i
same_place m u n v (z ∷ xs) [] e g x i = let l : suc (length (map m xs)) ≡ 0 = ap length e in absurd (omega arith)
same_place m u n v (z ∷ xs) (y ∷ ys) e g x (inl q) =
    let a = first_same (m z) (n y) (map m xs) (map n ys) e in
    let b = first_same (u z) (v y) (map u xs) (map v ys) g in
    (y, inl refl, ap m q ∙ a.0, ap u q ∙ b.0)
same_place m u n v (z ∷ xs) (y ∷ ys) e g x (inr i) =
    let a = first_same (m z) (n y) (map m xs) (map n ys) e in
    let b = first_same (u z) (v y) (map u xs) (map v ys) g in
    let r = same_place m u n v xs ys a.1 b.1 x i in
    (r.0, inr r.1, r.2, r.3)

filter_map : {A B : Type 0} (q : B → Bool) (f : A → B) (xs : List A) → filter q (map f xs) ≡ map f (filter (λ x. q (f x)) xs)
filter_map q f [] = refl
filter_map {A} q f (x ∷ xs) = by (q (f x)) (filter_map q f xs)
  where
    by : (b : Bool) → filter q (map f xs) ≡ map f (filter (λ x. q (f x)) xs) → cond b (f x ∷ filter q (map f xs)) (filter q (map f xs)) ≡ map f (cond b (x ∷ filter (λ x. q (f x)) xs) (filter (λ x. q (f x)) xs))
    by true ih = ap (λ ys. f x ∷ ys) ih
    by false ih = ih

module _ (p : Fusion Key Flow) (lt : Key → Key → Bool) (order : IsOrder lt) (before : Flow → Flow → Bool) (rank : Key → ℕ) (ok : IsSettled p rank) (first : BranchesFirst p lt)
    (minus : ℕ → Key → List Key → Bool) (closed_minus : ℕ → List Key → Bool) (old new : Graph) (part : IsReachedPart old new)
    (graph : IsGraph p lt before old.nodes (map unsigned old.terms) (map unsigned_key old.keys) old.flows) (signs : HasSigns minus closed_minus old) where
  abbrev ts : List Numbered
  ts = map unsigned old.terms

  abbrev ys : List Numbered
  ys = map unsigned_key old.keys

  abbrev marks : List Bool
  marks = marks_of (length old.nodes) ts ys

  abbrev numbers : List ℕ
  numbers = numbers_from 0 marks

  pub is_canonical : IsCanonicalGraph p lt before new.nodes (map unsigned new.terms) (map unsigned_key new.keys) new.flows
  is_canonical =
      let a = reached_is_canonical p lt order before rank ok first old.nodes ts ys old.flows graph in
      let b = subst (λ ns. IsCanonicalGraph p lt before ns (kept_terms marks numbers ts) (map (renumbered_key numbers) ys) old.flows) (sym part.nodes) a in
      let c = subst (λ xs. IsCanonicalGraph p lt before new.nodes xs (map (renumbered_key numbers) ys) old.flows) (sym part.terms) b in
      let d = subst (λ zs. IsCanonicalGraph p lt before new.nodes (map unsigned new.terms) zs old.flows) (sym part.keys) c in
      subst (λ ws. IsCanonicalGraph p lt before new.nodes (map unsigned new.terms) (map unsigned_key new.keys) ws) (sym part.flows) d

  terms_same : map unsigned new.terms ≡ map (λ x. renumbered numbers (unsigned x)) (filter (λ (x : Term). is_marked marks x.node) old.terms)
  unfolding kept_terms
  terms_same = part.terms ∙ ap (map (renumbered numbers)) (filter_map (λ (x : Numbered). is_marked marks x.made) unsigned old.terms) ∙ map-map (renumbered numbers) unsigned (filter (λ (x : Term). is_marked marks x.node) old.terms)

  term_sign : (x : Term) (k : Key) (ks : List Key) → In x new.terms → slice_get new.nodes x.node ≡ Some k → at_numbers new.nodes (nodes_of x.branches) ≡ Some ks → x.minus ≡ minus x.vertex k ks
  unfolding kept_signs
  term_sign x k ks i e g =
      let s = same_place (λ (x : Term). x.minus) unsigned (λ (x : Term). x.minus) (λ x. renumbered numbers (unsigned x)) new.terms (filter (λ (x : Term). is_marked marks x.node) old.terms) part.signs terms_same x i in
      let y = s.0 in
      let b = (in_filter (λ (x : Term). is_marked marks x.node) y old.terms).0 s.1 in
      let t = two_places p lt order before rank ok first old.nodes ts ys old.flows graph (unsigned y) (in_map unsigned y old.terms b.0) b.1 in
      let node : k ≡ t.node = same_Some k t.node (sym e ∙ ap (slice_get new.nodes) (ap (λ (z : Numbered). z.made) s.3) ∙ ap (λ ns. slice_get ns (new_number numbers y.node)) part.nodes ∙ t.new_node) in
      let branches : ks ≡ t.branches = same_Some ks t.branches (sym g ∙ ap (at_numbers new.nodes) (ap (λ (z : Numbered). z.branches) s.3) ∙ ap (λ ns. at_numbers ns (map (new_number numbers) (nodes_of y.branches))) part.nodes ∙ t.new_branches) in
      s.2 ∙ signs.signs y t.node t.branches b.0 t.old_node t.old_branches
      ∙ ap (λ v. minus v t.node t.branches) (sym (ap (λ (z : Numbered). z.vertex) s.3)) ∙ ap₂ (minus x.vertex) (sym node) (sym branches)

  keys_same : map unsigned_key new.keys ≡ map (λ y. renumbered_key numbers (unsigned_key y)) old.keys
  keys_same = part.keys ∙ map-map (renumbered_key numbers) unsigned_key old.keys

  key_sign : (y : KeyTerm) (ks : List Key) → In y new.keys → at_numbers new.nodes (nodes_of y.branches) ≡ Some ks → y.minus ≡ closed_minus y.vertex ks
  key_sign y ks i g =
      let s = same_place (λ (x : KeyTerm). x.minus) unsigned_key (λ (x : KeyTerm). x.minus) (λ x. renumbered_key numbers (unsigned_key x)) new.keys old.keys part.key_signs keys_same y i in
      let z = s.0 in
      let t = two_branches p lt order before rank ok first old.nodes ts ys old.flows graph (unsigned_key z) (in_map unsigned_key z old.keys s.1) in
      let branches : ks ≡ t.branches = same_Some ks t.branches (sym g ∙ ap (at_numbers new.nodes) (ap (λ (x : Numbered). x.branches) s.3) ∙ ap (λ ns. at_numbers ns (map (new_number numbers) (nodes_of z.branches))) part.nodes ∙ t.new_branches) in
      s.2 ∙ signs.key_signs z t.branches s.1 t.old_branches
      ∙ ap (λ v. closed_minus v t.branches) (sym (ap (λ (x : Numbered). x.vertex) s.3)) ∙ ap (closed_minus y.vertex) (sym branches)

  pub has_signs : HasSigns minus closed_minus new
  has_signs = record { signs = term_sign; key_signs = key_sign }
