-- The filling of slots keeps what is known of each part.
use Rattle.std.proofs.Common.{◌≡◌, ℕ, suc, ◌+◌, List, [], ◌∷◌, ◌++◌, map, length, Bool, true, false, cond, eqb, ltb, refl, ap, ap₂, sym, ◌∙◌, arith, true≢false, Option, Some, None, slice_get}
use Rattle.std.proofs.lemmas.Bool.{eq-eqb}
use Rattle.std.proofs.lemmas.Option.{none-some}
use Rattle.om_legs.specs.Legs.{holds}
use Rattle.om_model.specs.Parts.{Part as Edge, first_from, least, others, put, sort}
use Rattle.om_model.specs.Slots.{first_with as first_edge, without_first as without_edge, fill, in_slots}
use Rattle.om_model.proofs.Filling.{carry, in_slots-map}
use Rattle.om_graph.specs.declared.Key.{Key}
use Rattle.om_graph.specs.declared.parts.Part.{Part}
use Rattle.om_graph.specs.declared.fields.Meeting.{Meeting}
use Rattle.om_graph.specs.declared.parts.Side.{Side}
use Rattle.om_graph.specs.Fillings.{first_with, without_first, filled, known_part, branch_parts, entering, filled_at, key_at, key_numbered, sides_of, upward_part}
use Rattle.om_graph.specs.Loops.{one_or_none}
use Rattle.om_graph.specs.Vertices.{Reaction, branch, upward, slots_of, fused_slots, closed_slots, sets_of, union_of}

-- a part that was found is left out
pub taken : (f : ℕ) (ps : List Part) (p : Part) → first_with f ps ≡ Some p → length (without_first f ps) + 1 ≡ length ps
unfolding first_with without_first
taken f [] p e = absurd (none-some p e)
taken f (q ∷ ps) p e = by (eqb q.field f) e (taken f ps p)
  where
    by : (b : Bool) → cond b (Some q) (first_with f ps) ≡ Some p → (first_with f ps ≡ Some p → length (without_first f ps) + 1 ≡ length ps) → length (cond b ps (q ∷ without_first f ps)) + 1 ≡ suc (length ps)
    by true e h = omega arith
    by false e h = let l = h e in omega arith

-- parts whose fields are those of the slots stay in their order
at_first : (b : Bool) (p : Part) (ps : List Part) (o : Option Part) (qs : List Part) → b ≡ true → one_or_none (cond b (Some p) o) ++ filled (map (λ (q : Part). q.field) ps) (cond b ps (p ∷ qs)) ≡ p ∷ filled (map (λ (q : Part). q.field) ps) ps
at_first true p ps o qs h = refl
at_first false p ps o qs h = absurd (true≢false (sym h))

by_own_fields : (ps : List Part) → filled (map (λ (p : Part). p.field) ps) ps ≡ ps
unfolding filled first_with without_first
by_own_fields [] = refl
by_own_fields (p ∷ ps) = at_first (eqb p.field p.field) p ps (first_with p.field ps) (without_first p.field ps) (eq-eqb p.field p.field refl) ∙ ap (λ qs. p ∷ qs) (by_own_fields ps)

pub filled_in_order : (fs : List ℕ) (ps : List Part) → map (λ (p : Part). p.field) ps ≡ fs → filled fs ps ≡ ps
filled_in_order fs ps e = ap (λ gs. filled gs ps) (sym e) ∙ by_own_fields ps

module _ {A B : Type 0} (f : A → B) where
  map_append : (xs ys : List A) → map f (xs ++ ys) ≡ map f xs ++ map f ys
  map_append [] ys = refl
  map_append (x ∷ xs) ys = ap (λ zs. f x ∷ zs) (map_append xs ys)

  map_put : (k : B → ℕ) (x : A) (ys : List A) → map f (put (λ a. k (f a)) x ys) ≡ put k (f x) (map f ys)
  unfolding put
  map_put k x [] = refl
  map_put k x (y ∷ ys) = by (ltb (k (f x)) (k (f y))) (map_put k x ys)
    where
      by : (b : Bool) → map f (put (λ a. k (f a)) x ys) ≡ put k (f x) (map f ys) → map f (cond b (x ∷ y ∷ ys) (y ∷ put (λ a. k (f a)) x ys)) ≡ cond b (f x ∷ f y ∷ map f ys) (f y ∷ put k (f x) (map f ys))
      by true e = refl
      by false e = ap (λ zs. f y ∷ zs) e

  map_sort : (k : B → ℕ) (xs : List A) → map f (sort (λ a. k (f a)) xs) ≡ sort k (map f xs)
  unfolding sort
  map_sort k [] = refl
  map_sort k (x ∷ xs) = map_put k x (sort (λ a. k (f a)) xs) ∙ ap (put k (f x)) (map_sort k xs)

module _ (n : ℕ) where
  map_first : (f : ℕ) (qs : List (Edge × Option ℕ)) → map (known_part n) (first_edge f qs) ≡ one_or_none (first_with f (map (known_part n) qs))
  unfolding first_edge first_with
  map_first f [] = refl
  map_first f (q ∷ qs) = by (eqb q.0.field f) (map_first f qs)
    where
      by : (b : Bool) → map (known_part n) (first_edge f qs) ≡ one_or_none (first_with f (map (known_part n) qs)) → map (known_part n) (cond b (q ∷ []) (first_edge f qs)) ≡ one_or_none (cond b (Some (known_part n q)) (first_with f (map (known_part n) qs)))
      by true e = refl
      by false e = e

  map_without : (f : ℕ) (qs : List (Edge × Option ℕ)) → map (known_part n) (without_edge f qs) ≡ without_first f (map (known_part n) qs)
  unfolding without_edge without_first
  map_without f [] = refl
  map_without f (q ∷ qs) = by (eqb q.0.field f) (map_without f qs)
    where
      by : (b : Bool) → map (known_part n) (without_edge f qs) ≡ without_first f (map (known_part n) qs) → map (known_part n) (cond b qs (q ∷ without_edge f qs)) ≡ cond b (map (known_part n) qs) (known_part n q ∷ without_first f (map (known_part n) qs))
      by true e = refl
      by false e = ap (λ zs. known_part n q ∷ zs) e

  map_fill : (fs : List ℕ) (qs : List (Edge × Option ℕ)) → map (known_part n) (fill fs qs) ≡ filled fs (map (known_part n) qs)
  unfolding fill filled
  map_fill [] qs = refl
  map_fill (f ∷ fs) qs =
      map_append (known_part n) (first_edge f qs) (fill fs (without_edge f qs))
      ∙ ap (λ xs. xs ++ map (known_part n) (fill fs (without_edge f qs))) (map_first f qs)
      ∙ ap (λ xs. one_or_none (first_with f (map (known_part n) qs)) ++ xs) (map_fill fs (without_edge f qs) ∙ ap (filled fs) (map_without f qs))

  known_keys : (ks : List Key) (qs : List (Edge × Option ℕ)) → map (λ (q : Edge × Option Key). q.1) (map (carry (key_numbered ks)) qs) ≡ map (key_at ks) (map (known_part n) qs)
  known_keys ks [] = refl
  known_keys ks (q ∷ qs) = ap (λ os. key_numbered ks q.1 ∷ os) (known_keys ks qs)

module _ (r : Reaction) where
  -- the edges of branches, numbered from i on
  numbered_edges : ℕ → List Key → List (Edge × Option ℕ)
  numbered_edges i [] = []
  numbered_edges i (k ∷ ks) = ((branch r k).0, Some i) ∷ numbered_edges (i + 1) ks

  known_branches : (i : ℕ) (ks : List Key) → map (known_part r.scattering.size) (numbered_edges i ks) ≡ branch_parts r.scattering.size i (sides_of ks)
  unfolding least branch_parts numbered_edges
  known_branches i [] = refl
  known_branches i (k ∷ ks) = ap (λ ps. record { field = k.field; least = first_from (holds k.legs) 1 r.scattering.size; branch = Some i } ∷ ps) (known_branches (i + 1) ks)

  -- by its number each has its key, where these keys stand from place i on
  keys_back : (all : List Key) (i : ℕ) (ks : List Key) → ((j : ℕ) → slice_get all (i + j) ≡ slice_get ks j) → map (carry (key_numbered all)) (numbered_edges i ks) ≡ map (branch r) ks
  unfolding numbered_edges
  keys_back all i [] h = refl
  keys_back all i (k ∷ ks) h =
      let e : i ≡ i + 0 = omega arith in
      ap₂ (λ (o : Option Key) (qs : List (Edge × Option Key)). ((branch r k).0, o) ∷ qs) (ap (slice_get all) e ∙ h 0)
      (keys_back all (i + 1) ks (λ j. ap (slice_get all) (next i j) ∙ h (suc j)))
    where
      next : (i j : ℕ) → (i + 1) + j ≡ i + suc j
      next i j = omega arith

  edges_back : (ks : List Key) → map (carry (key_numbered ks)) (numbered_edges 0 ks) ≡ map (branch r) ks
  edges_back ks = keys_back ks 0 ks (λ j. ap (slice_get ks) (same j))
    where
      same : (j : ℕ) → 0 + j ≡ j
      same j = omega arith

  known_slots : (v : ℕ) (ks : List Key) (qs : List (Edge × Option ℕ)) → slots_of r v (map (carry (key_numbered ks)) qs) ≡ map (key_at ks) (filled (r.scattering.theory.slots v) (sort (λ (p : Part). p.least) (map (known_part r.scattering.size) qs)))
  unfolding slots_of in_slots
  known_slots v ks qs =
      ap (map (λ (q : Edge × Option Key). q.1)) (in_slots-map (key_numbered ks) r.scattering v qs)
      ∙ known_keys r.scattering.size ks (fill (r.scattering.theory.slots v) (sort (λ (q : Edge × Option ℕ). least r.scattering.size q.0) qs))
      ∙ ap (map (key_at ks))
      (map_fill r.scattering.size (r.scattering.theory.slots v) (sort (λ (q : Edge × Option ℕ). least r.scattering.size q.0) qs)
      ∙ ap (filled (r.scattering.theory.slots v)) (map_sort (known_part r.scattering.size) (λ (p : Part). p.least) qs))

  -- the keys of the parts that fill a vertex are what stands at its slots
  pub closed_filled : (m : Meeting) (ks : List Key) → map (key_at ks) (filled_at r true m (sides_of ks)) ≡ closed_slots r m.vertex ks
  unfolding closed_slots filled_at
  closed_filled m ks =
      sym (ap (slots_of r m.vertex) (sym (edges_back ks))
      ∙ known_slots m.vertex ks (numbered_edges 0 ks)
      ∙ ap (λ ps. map (key_at ks) (filled (r.scattering.theory.slots m.vertex) (sort (λ (p : Part). p.least) ps))) (known_branches 0 ks))

  legs_of_sides : (ks : List Key) → map (λ (s : Side). s.legs) (sides_of ks) ≡ sets_of ks
  legs_of_sides [] = refl
  legs_of_sides (k ∷ ks) = ap (λ ss. k.legs ∷ ss) (legs_of_sides ks)

  around : (f legs : ℕ) (m : Meeting) (ks : List Key) → legs ≡ union_of (map (λ (s : Side). s.legs) (sides_of ks))
      → map (key_at ks) (filled (r.scattering.theory.slots m.vertex) (entering r false (Some f) (sides_of ks))) ≡ fused_slots r f m.vertex legs ks
  unfolding fused_slots sort least upward_part
  around f legs m ks e =
      sym (ap (λ (qs : List (Edge × Option Key)). slots_of r m.vertex (upward r f legs ∷ qs)) (sym (edges_back ks))
      ∙ known_slots m.vertex ks (((upward r f legs).0, None) ∷ numbered_edges 0 ks)
      ∙ ap₂ (λ (l : ℕ) ps. map (key_at ks) (filled (r.scattering.theory.slots m.vertex) (put (λ (p : Part). p.least) (record { field = r.scattering.theory.anti f; least = first_from (others r.scattering.size (holds l)) 1 r.scattering.size; branch = None }) (sort (λ (p : Part). p.least) ps)))) e (known_branches 0 ks))

  pub fused_filled : (f legs : ℕ) (m : Meeting) (ks : List Key) → m.up ≡ Some f → legs ≡ union_of (sets_of ks) → map (key_at ks) (filled_at r false m (sides_of ks)) ≡ fused_slots r f m.vertex legs ks
  unfolding filled_at
  fused_filled f legs m ks u e =
      ap (λ (o : Option ℕ). map (key_at ks) (filled (r.scattering.theory.slots m.vertex) (entering r false o (sides_of ks)))) u
      ∙ around f legs m ks (e ∙ ap union_of (sym (legs_of_sides ks)))
