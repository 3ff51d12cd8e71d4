-- What is made at each vertex by each choice: just that, each once.
use Rattle.std.proofs.Common.{◌≡◌, ℕ, zero, suc, ◌<◌, List, [], ◌∷◌, ◌++◌, map, flat_map, Bool, true, false, ltb, inl, inr, refl, ap, sym, subst, ◌∙◌, arith, Option, Some, None}
use Rattle.std.proofs.lemmas.Bool.{ltb-true, ltb-false}
use Rattle.om_ring.specs.Members.{In, Different}
use Rattle.om_graph.specs.Graph.{Found}
use Rattle.om_graph.specs.Loops.{counts}
use Rattle.om_ring.proofs.Members.{in_left, in_right, in_flat_map, from_flat_map, different_append, different_flat_map}
use Rattle.om_graph.proofs.MeetingLists.{counts_in}

pub in_counts : (v n : ℕ) → v < n → In v (counts n)
unfolding counts
in_counts v zero l = absurd (omega arith)
in_counts v (suc n) l = by (ltb v n) refl (in_counts v n)
  where
    by : (b : Bool) → ltb v n ≡ b → (v < n → In v (counts n)) → In v (counts n ++ n ∷ [])
    by true e ih = in_left v (counts n) (n ∷ []) (ih (ltb-true v n e))
    by false e ih = in_right v (counts n) (n ∷ []) (inl (let s = ltb-false v n e in omega arith))

counts_different : (n : ℕ) → Different (counts n)
unfolding counts
counts_different zero = tt
counts_different (suc n) = different_append (counts n) (n ∷ []) (counts_different n) ((λ i. i), tt) (λ k i j. apart k i j)
  where
    apart : (k : ℕ) → In k (counts n) → In k (n ∷ []) → ⊥
    apart k i (inl e) = let l = counts_in k n i in omega (arith, l, e)
    apart k i (inr b) = absurd b

pub map-flat_map : {A B C : Type 0} (f : B → C) (g : A → List B) (xs : List A) → map f (flat_map g xs) ≡ flat_map (λ x. map f (g x)) xs
map-flat_map f g [] = refl
map-flat_map f g (x ∷ xs) = map_append f (g x) (flat_map g xs) ∙ ap (λ ys. map f (g x) ++ ys) (map-flat_map f g xs)
  where
    map_append : {B C : Type 0} (f : B → C) (xs ys : List B) → map f (xs ++ ys) ≡ map f xs ++ map f ys
    map_append f [] ys = refl
    map_append f (x ∷ xs) ys = ap (λ zs. f x ∷ zs) (map_append f xs ys)

module _ {A M : Type 0} (vertices : ℕ) (choices : ℕ → ℕ) (test : ℕ → Option A) (make : A → ℕ → ℕ → Found M) where
  unfoldable pub at_vertex : ℕ → Option A → List (Found M)
  at_vertex v None = []
  at_vertex v (Some a) = flat_map (λ c. make a v c ∷ []) (counts (choices v))

  unfoldable pub made_everywhere : List (Found M)
  made_everywhere = flat_map (λ v. at_vertex v (test v)) (counts vertices)

  pub record MadeAt (x : Found M) : Type 0 where
    pub v : ℕ
    pub c : ℕ
    pub a : A
    pub vertex : v < vertices
    pub choice : c < choices v
    pub passes : test v ≡ Some a
    pub is : x ≡ make a v c

  made_at : (x : Found M) → In x made_everywhere → MadeAt x
  unfolding made_everywhere at_vertex
  made_at x i = let f = from_flat_map (λ v. at_vertex v (test v)) x (counts vertices) i in by f.0 (counts_in f.0 vertices f.1) (test f.0) refl f.2
    where
      by : (v : ℕ) → v < vertices → (o : Option A) → test v ≡ o → In x (at_vertex v o) → MadeAt x
      by v l None e i = absurd i
      by v l (Some a) e i =
          let f = from_flat_map (λ c. make a v c ∷ []) x (counts (choices v)) i in
          record { v = v; c = f.0; a = a; vertex = l; choice = counts_in f.0 (choices v) f.1; passes = e; is = one (make a v f.0) f.2 }
        where
          one : (y : Found M) → In x (y ∷ []) → x ≡ y
          one y (inl e) = e
          one y (inr b) = absurd b

  at_made : (x : Found M) → MadeAt x → In x made_everywhere
  unfolding made_everywhere at_vertex
  at_made x m =
      in_flat_map (λ v. at_vertex v (test v)) m.v x (counts vertices) (in_counts m.v vertices m.vertex)
      (subst (λ o. In x (at_vertex m.v o)) (sym m.passes) (in_flat_map (λ c. make m.a m.v c ∷ []) m.c x (counts (choices m.v)) (in_counts m.c (choices m.v) m.choice) (inl m.is)))

  pub just_made : (x : Found M) → (In x made_everywhere → MadeAt x) × (MadeAt x → In x made_everywhere)
  just_made x = (made_at x, at_made x)

  pub made_once : ((a : A) (v c : ℕ) → ((make a v c).vertex ≡ v) × ((make a v c).choice ≡ c)) → Different made_everywhere
  unfolding made_everywhere at_vertex
  made_once tells = different_flat_map (λ v. at_vertex v (test v)) (counts vertices) (counts_different vertices) (λ v i. each v (test v)) (λ v w x _ _ i j. sym (is_at v (test v) x i) ∙ is_at w (test w) x j)
    where
      choice_of : (a : A) (v c : ℕ) (x : Found M) → In x (make a v c ∷ []) → x.choice ≡ c
      choice_of a v c x (inl e) = ap (λ (y : Found M). y.choice) e ∙ (tells a v c).1
      choice_of a v c x (inr b) = absurd b

      each : (v : ℕ) (o : Option A) → Different (at_vertex v o)
      each v None = tt
      each v (Some a) = different_flat_map (λ c. make a v c ∷ []) (counts (choices v)) (counts_different (choices v)) (λ c i. ((λ b. b), tt)) (λ c d x _ _ i j. sym (choice_of a v c x i) ∙ choice_of a v d x j)

      vertex_of : (a : A) (v c : ℕ) (x : Found M) → In x (make a v c ∷ []) → x.vertex ≡ v
      vertex_of a v c x (inl e) = ap (λ (y : Found M). y.vertex) e ∙ (tells a v c).0
      vertex_of a v c x (inr b) = absurd b

      is_at : (v : ℕ) (o : Option A) (x : Found M) → In x (at_vertex v o) → x.vertex ≡ v
      is_at v None x i = absurd i
      is_at v (Some a) x i = let f = from_flat_map (λ c. make a v c ∷ []) x (counts (choices v)) i in vertex_of a v f.0 x f.2
