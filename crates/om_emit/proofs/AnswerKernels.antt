-- The index sums of a vertex of a code are nested sums over the indices of what enters it.
use Rattle.std.proofs.Common.{◌≡◌, ℕ, ◌+◌, List, [], ◌∷◌, length, map, Option, Some, None, ◌⊎◌, inl, inr, ap, sym, ◌∙◌, arith}
use Rattle.std.specs.Prelude.{slice_get}
use Rattle.om_ring.specs.Ops.{Ops, Laws}
use Rattle.om_ring.specs.Sums.{sum_over}
use Rattle.om_ring.proofs.RingLemmas.{times_left_comm}
use Rattle.om_ring.proofs.SumLemmas.{sum_over-ext, times-sum_over}
use Rattle.om_lorentz.specs.declared.structures.Factors.{Factors}
use Rattle.om_lorentz.specs.declared.structures.Reading.{Reading}
use Rattle.om_lorentz.specs.declared.structures.Structure.{Structure}
use Rattle.om_lorentz.specs.declared.vectors.Four.{Four}
use Rattle.om_lorentz.specs.declared.vectors.Momenta.{Momenta}
use Rattle.om_lorentz.specs.Entries.{entry}
use Rattle.om_legs.specs.Legs as sets
use Rattle.om_legs.proofs.LegLists.{legs_of-empty}
use Rattle.om_kernel.specs.declared.waves.Wave.{Wave}
use Rattle.om_kernel.specs.IndexSums.{Summand, fixed, brought, sum_slots, index_sum, full_sum, momenta_of}
use Rattle.om_model.specs.declared.model.Vertex.{Vertex}
use Rattle.om_model.specs.Entries.{factors_of, feynman_rules, four_of, reading_in, vertex_entry}
use Rattle.om_model.specs.Event.{members, momentum_of}
use Rattle.om_model.specs.FeynmanRules.{Table}
use Rattle.om_model.specs.Model.{colour_row}
use Rattle.om_model.specs.Theory.{Scattering}
use Rattle.om_model.specs.Value.{entering}
use Rattle.om_keystone.specs.EdgeRules.{with_indices}
use Rattle.om_code.specs.declared.code.Code.{Code}
use Rattle.om_code.specs.Contents.{EnteringWave, open_slot, slots_of}
use Rattle.om_code.specs.Vertices.{reading_of_vertex, structure_of}
use Rattle.om_code.specs.Waves.{Incoming, event_of, momentum_behind}
use Rattle.om_machine.proofs.Each.{Each}
use Rattle.om_emit.proofs.AnswerNests.{nest, nest-ext, times-nest}
use Rattle.om_emit.proofs.AnswerSlots.{part_in, key_in}

of_three : {A : Type 0} (P : List A → Type 0) → ((a b c : A) → P (a ∷ b ∷ c ∷ [])) → (xs : List A) → length xs ≡ 3 → P xs
of_three P h (a ∷ b ∷ c ∷ []) e = h a b c
of_three P h [] e = absurd (omega (arith, e))
of_three P h (a ∷ []) e = absurd (omega (arith, e))
of_three P h (a ∷ b ∷ []) e = absurd (omega (arith, e))
of_three P h (a ∷ b ∷ c ∷ d ∷ xs) e = absurd (omega (arith, e))

of_four : {A : Type 0} (P : List A → Type 0) → ((a b c d : A) → P (a ∷ b ∷ c ∷ d ∷ [])) → (xs : List A) → length xs ≡ 4 → P xs
of_four P h [] e = absurd (omega (arith, e))
of_four P h (a ∷ xs) e = of_three (λ ys. P (a ∷ ys)) (h a) xs (omega (arith, e))

module _ {E : Type 0} (o : Ops E) where
  -- what enters brings its wave; where the edge leads upwards, the one index n
  abbrev pub summand_in : ℕ → Option (Wave E) → Summand E
  summand_in n None = fixed o n
  summand_in n (Some w) = brought o (Some w)

  abbrev pub indices_in : ℕ → EnteringWave E → List ℕ
  indices_in n q = (summand_in n q.wave).indices

  abbrev pub weight_in : ℕ → EnteringWave E → ℕ → E
  weight_in n q = (summand_in n q.wave).weight

  abbrev pub one_if_open : Option (Wave E) → ℕ
  one_if_open None = 1
  one_if_open (Some w) = 0

  -- through how many edges no wave enters
  abbrev pub open_edges : List (EnteringWave E) → ℕ
  open_edges [] = 0
  open_edges (q ∷ qs) = one_if_open q.wave + open_edges qs

module _ {E : Type 0} (o : Ops E) (l : Laws o) where
  abbrev pub nested : ℕ → List (EnteringWave E) → (List ℕ → E) → E
  nested n qs f = nest o l key_in (indices_in o n) (weight_in o n) qs f

  -- the factors of a summand, each before the inner sum
  three_factors : (f a b c : E) → o.plus (o.times f (o.times a (o.times b (o.times c o.one)))) o.zero ≡ o.times a (o.times b (o.times c f))
  three_factors f a b c =
      l.plus_zero _
      ∙ ap (λ x. o.times f (o.times a (o.times b x))) (l.times_one c)
      ∙ times_left_comm o l f a _
      ∙ ap (o.times a) (times_left_comm o l f b c ∙ ap (o.times b) (l.times_comm f c))

  four_factors : (f a b c d : E) → o.times f (o.times a (o.times b (o.times c d))) ≡ o.times a (o.times b (o.times c (o.times d f)))
  four_factors f a b c d =
      times_left_comm o l f a _
      ∙ ap (o.times a) (times_left_comm o l f b _ ∙ ap (o.times b) (times_left_comm o l f c d ∙ ap (o.times c) (l.times_comm f d)))

  -- two factors go inside
  two_inside : {A B : Type 0} (a : E) (xs : List A) (b : A → E) (ys : List B) (f : A → B → E)
      → o.times a (sum_over o xs (λ x. o.times (b x) (sum_over o ys (f x)))) ≡ sum_over o xs (λ x. sum_over o ys (λ y. o.times a (o.times (b x) (f x y))))
  two_inside a xs b ys f =
      times-sum_over o l a xs _
      ∙ sum_over-ext o xs _ _ (λ x. ap (o.times a) (times-sum_over o l (b x) ys (f x)) ∙ times-sum_over o l a ys _)

  sum-three : (f : ℕ → ℕ → ℕ → ℕ → E) (a b c : Summand E) → sum_slots o f a b c (fixed o 0)
      ≡ sum_over o a.indices (λ i. o.times (a.weight i) (sum_over o b.indices (λ j. o.times (b.weight j) (sum_over o c.indices (λ k. o.times (c.weight k) (f i j k 0))))))
  sum-three f a b c =
      sum_over-ext o a.indices _ _ (λ i.
      sum_over-ext o b.indices _ _ (λ j. sum_over-ext o c.indices _ _ (λ k. three_factors (f i j k 0) (a.weight i) (b.weight j) (c.weight k)))
      ∙ sym (two_inside (a.weight i) b.indices b.weight c.indices (λ j k. o.times (c.weight k) (f i j k 0))))

  sum-four : (f : ℕ → ℕ → ℕ → ℕ → E) (a b c d : Summand E) → sum_slots o f a b c d
      ≡ sum_over o a.indices (λ i. o.times (a.weight i) (sum_over o b.indices (λ j. o.times (b.weight j) (sum_over o c.indices (λ k. o.times (c.weight k) (sum_over o d.indices (λ m. o.times (d.weight m) (f i j k m))))))))
  sum-four f a b c d =
      sum_over-ext o a.indices _ _ (λ i.
      sum_over-ext o b.indices _ _ (λ j.
      sum_over-ext o c.indices _ _ (λ k. sum_over-ext o d.indices _ _ (λ m. four_factors (f i j k m) (a.weight i) (b.weight j) (c.weight k) (d.weight m)))
      ∙ sum_over-ext o c.indices _ _ (λ k. sym (times-sum_over o l (a.weight i) d.indices _) ∙ ap (o.times (a.weight i)) (sym (times-sum_over o l (b.weight j) d.indices _)))
      ∙ sym (times-sum_over o l (a.weight i) c.indices _)
      ∙ ap (o.times (a.weight i)) (sym (two_inside_again (b.weight j) k_of d_of i j)))
      ∙ sym (times-sum_over o l (a.weight i) b.indices _))
    where
      k_of : List ℕ
      k_of = c.indices

      d_of : List ℕ
      d_of = d.indices

      two_inside_again : (x : E) (ks ms : List ℕ) (i j : ℕ)
          → o.times x (sum_over o ks (λ k. o.times (c.weight k) (sum_over o ms (λ m. o.times (d.weight m) (f i j k m))))) ≡ sum_over o ks (λ k. o.times x (sum_over o ms (λ m. o.times (c.weight k) (o.times (d.weight m) (f i j k m)))))
      two_inside_again x ks ms i j =
          times-sum_over o l x ks _ ∙ sum_over-ext o ks _ _ (λ k. ap (o.times x) (times-sum_over o l (c.weight k) ms _))

  module _ (c : Code) (t : Table E) (e : Incoming E) where
    abbrev edge : ℕ → ℕ → Option (Wave E) → EnteringWave E
    edge legs field w = record { legs = legs; field = field; wave = w }

    -- the entry of a vertex at some indices, with the momenta of what enters
    abbrev entry_at : Structure → Reading → Factors E → List (EnteringWave E) → List ℕ → E
    entry_at s r f qs is = entry o s r f (momenta_of (slots_of o c t e qs)) is

    module _ (s : Structure) (r : Reading) (f : Factors E) (n : ℕ) where
      abbrev four : List (EnteringWave E) → ℕ → ℕ → ℕ → ℕ → E
      four qs i j k m = entry_at s r f qs (i ∷ j ∷ k ∷ m ∷ [])

      abbrev listed : List ℕ → List ℕ
      listed (i ∷ j ∷ k ∷ []) = i ∷ j ∷ k ∷ 0 ∷ []
      listed is = is

      abbrev IndexSumIsNested : List (EnteringWave E) → Type 0
      IndexSumIsNested qs = index_sum o s r f (slots_of o c t e qs) (open_slot qs) n ≡ nested n qs (λ is. entry_at s r f qs (listed is))

      abbrev FullSumIsNested : List (EnteringWave E) → Type 0
      FullSumIsNested qs = full_sum o s r f (slots_of o c t e qs) ≡ nested n qs (λ is. entry_at s r f qs (listed is))

      index-three : (la fa lb fb lc fc : ℕ) (x y z : Option (Wave E)) → let qs = edge la fa x ∷ edge lb fb y ∷ edge lc fc z ∷ [] in open_edges o qs ≡ 1 → IndexSumIsNested qs
      index-three la fa lb fb lc fc None (Some y) (Some z) h = sum-three (four (edge la fa None ∷ edge lb fb (Some y) ∷ edge lc fc (Some z) ∷ [])) (fixed o n) (brought o (Some y)) (brought o (Some z))
      index-three la fa lb fb lc fc (Some x) None (Some z) h = sum-three (four (edge la fa (Some x) ∷ edge lb fb None ∷ edge lc fc (Some z) ∷ [])) (brought o (Some x)) (fixed o n) (brought o (Some z))
      index-three la fa lb fb lc fc (Some x) (Some y) None h = sum-three (four (edge la fa (Some x) ∷ edge lb fb (Some y) ∷ edge lc fc None ∷ [])) (brought o (Some x)) (brought o (Some y)) (fixed o n)
      index-three la fa lb fb lc fc None None (Some z) h = absurd (omega (arith, h))
      index-three la fa lb fb lc fc None (Some y) None h = absurd (omega (arith, h))
      index-three la fa lb fb lc fc (Some x) None None h = absurd (omega (arith, h))
      index-three la fa lb fb lc fc None None None h = absurd (omega (arith, h))
      index-three la fa lb fb lc fc (Some x) (Some y) (Some z) h = absurd (omega (arith, h))

      full-three : (la fa lb fb lc fc : ℕ) (x y z : Option (Wave E)) → let qs = edge la fa x ∷ edge lb fb y ∷ edge lc fc z ∷ [] in open_edges o qs ≡ 0 → FullSumIsNested qs
      full-three la fa lb fb lc fc (Some x) (Some y) (Some z) h = sum-three (four (edge la fa (Some x) ∷ edge lb fb (Some y) ∷ edge lc fc (Some z) ∷ [])) (brought o (Some x)) (brought o (Some y)) (brought o (Some z))
      full-three la fa lb fb lc fc None y z h = absurd (omega (arith, h))
      full-three la fa lb fb lc fc (Some x) None z h = absurd (omega (arith, h))
      full-three la fa lb fb lc fc (Some x) (Some y) None h = absurd (omega (arith, h))

      index-four : (la fa lb fb lc fc ld fd : ℕ) (x y z w : Option (Wave E)) → let qs = edge la fa x ∷ edge lb fb y ∷ edge lc fc z ∷ edge ld fd w ∷ [] in open_edges o qs ≡ 1 → IndexSumIsNested qs
      index-four la fa lb fb lc fc ld fd None (Some y) (Some z) (Some w) h =
          sum-four (four (edge la fa None ∷ edge lb fb (Some y) ∷ edge lc fc (Some z) ∷ edge ld fd (Some w) ∷ [])) (fixed o n) (brought o (Some y)) (brought o (Some z)) (brought o (Some w))
      index-four la fa lb fb lc fc ld fd (Some x) None (Some z) (Some w) h =
          sum-four (four (edge la fa (Some x) ∷ edge lb fb None ∷ edge lc fc (Some z) ∷ edge ld fd (Some w) ∷ [])) (brought o (Some x)) (fixed o n) (brought o (Some z)) (brought o (Some w))
      index-four la fa lb fb lc fc ld fd (Some x) (Some y) None (Some w) h =
          sum-four (four (edge la fa (Some x) ∷ edge lb fb (Some y) ∷ edge lc fc None ∷ edge ld fd (Some w) ∷ [])) (brought o (Some x)) (brought o (Some y)) (fixed o n) (brought o (Some w))
      index-four la fa lb fb lc fc ld fd (Some x) (Some y) (Some z) None h =
          sum-four (four (edge la fa (Some x) ∷ edge lb fb (Some y) ∷ edge lc fc (Some z) ∷ edge ld fd None ∷ [])) (brought o (Some x)) (brought o (Some y)) (brought o (Some z)) (fixed o n)
      index-four la fa lb fb lc fc ld fd None None z w h = absurd (omega (arith, h))
      index-four la fa lb fb lc fc ld fd None (Some y) None w h = absurd (omega (arith, h))
      index-four la fa lb fb lc fc ld fd None (Some y) (Some z) None h = absurd (omega (arith, h))
      index-four la fa lb fb lc fc ld fd (Some x) None None w h = absurd (omega (arith, h))
      index-four la fa lb fb lc fc ld fd (Some x) None (Some z) None h = absurd (omega (arith, h))
      index-four la fa lb fb lc fc ld fd (Some x) (Some y) None None h = absurd (omega (arith, h))
      index-four la fa lb fb lc fc ld fd (Some x) (Some y) (Some z) (Some w) h = absurd (omega (arith, h))

      full-four : (la fa lb fb lc fc ld fd : ℕ) (x y z w : Option (Wave E)) → let qs = edge la fa x ∷ edge lb fb y ∷ edge lc fc z ∷ edge ld fd w ∷ [] in open_edges o qs ≡ 0 → FullSumIsNested qs
      full-four la fa lb fb lc fc ld fd (Some x) (Some y) (Some z) (Some w) h =
          sum-four (four (edge la fa (Some x) ∷ edge lb fb (Some y) ∷ edge lc fc (Some z) ∷ edge ld fd (Some w) ∷ [])) (brought o (Some x)) (brought o (Some y)) (brought o (Some z)) (brought o (Some w))
      full-four la fa lb fb lc fc ld fd None y z w h = absurd (omega (arith, h))
      full-four la fa lb fb lc fc ld fd (Some x) None z w h = absurd (omega (arith, h))
      full-four la fa lb fb lc fc ld fd (Some x) (Some y) None w h = absurd (omega (arith, h))
      full-four la fa lb fb lc fc ld fd (Some x) (Some y) (Some z) None h = absurd (omega (arith, h))

    -- the legs behind an edge, as of a diagram
    abbrev pub HasMembers : ℕ → EnteringWave E → Type 0
    HasMembers size q = members size (sets.holds q.legs) ≡ sets.legs_of q.legs

    -- what enters a vertex of a diagram there
    abbrev pub vertex_value : Scattering → ℕ → ℕ → List (EnteringWave E) → List ℕ → E
    vertex_value s v ch qs is = (feynman_rules o c.model t).vertex v ch (map (entering o s (feynman_rules o c.model t) (event_of o e)) (with_indices (map part_in qs) is))

    module _ (s : Scattering) (v ch : ℕ) (vx : Vertex) (at : slice_get c.model.vertices v ≡ Some vx) where
      abbrev momentum_in : EnteringWave E → Four E
      momentum_in q = four_of (momentum_of o (event_of o e) (members s.size (sets.holds q.legs)))

      none_four : momentum_behind o e 0 ≡ four_of (λ mu. o.zero)
      none_four = ap (λ ks. four_of (momentum_of o (event_of o e) ks)) legs_of-empty

      in_is : (q : EnteringWave E) → HasMembers s.size q → momentum_in q ≡ momentum_behind o e q.legs
      in_is q h = ap (λ ks. four_of (momentum_of o (event_of o e) ks)) h

      abbrev reading : Reading
      reading = reading_in (colour_row c.model.particles vx.fields) ch

      value-three : (a b d : EnteringWave E) → HasMembers s.size a → HasMembers s.size b → HasMembers s.size d → (i j k : ℕ)
          → vertex_value s v ch (a ∷ b ∷ d ∷ []) (i ∷ j ∷ k ∷ []) ≡ o.times o.imag (entry_at vx.structure reading (factors_of o (t.factors v)) (a ∷ b ∷ d ∷ []) (i ∷ j ∷ k ∷ 0 ∷ []))
      unfolding with_indices
      value-three a b d ha hb hd i j k =
          let m : Momenta E → E = λ ps. o.times o.imag (entry o vx.structure reading (factors_of o (t.factors v)) ps (i ∷ j ∷ k ∷ 0 ∷ [])) in
          ap (λ x. vertex_entry o x c.model.particles (t.factors v) ch (map (entering o s (feynman_rules o c.model t) (event_of o e)) (with_indices (map part_in (a ∷ b ∷ d ∷ [])) (i ∷ j ∷ k ∷ [])))) at
          ∙ ap (λ p. m (record { first = p; second = momentum_in b; third = momentum_in d; fourth = four_of (λ mu. o.zero) })) (in_is a ha)
          ∙ ap (λ p. m (record { first = momentum_behind o e a.legs; second = p; third = momentum_in d; fourth = four_of (λ mu. o.zero) })) (in_is b hb)
          ∙ ap (λ p. m (record { first = momentum_behind o e a.legs; second = momentum_behind o e b.legs; third = p; fourth = four_of (λ mu. o.zero) })) (in_is d hd)
          ∙ ap (λ p. m (record { first = momentum_behind o e a.legs; second = momentum_behind o e b.legs; third = momentum_behind o e d.legs; fourth = p })) (sym none_four)

      value-four : (a b d f : EnteringWave E) → HasMembers s.size a → HasMembers s.size b → HasMembers s.size d → HasMembers s.size f → (i j k h : ℕ)
          → vertex_value s v ch (a ∷ b ∷ d ∷ f ∷ []) (i ∷ j ∷ k ∷ h ∷ []) ≡ o.times o.imag (entry_at vx.structure reading (factors_of o (t.factors v)) (a ∷ b ∷ d ∷ f ∷ []) (i ∷ j ∷ k ∷ h ∷ []))
      unfolding with_indices
      value-four a b d f ha hb hd hf i j k h =
          let m : Momenta E → E = λ ps. o.times o.imag (entry o vx.structure reading (factors_of o (t.factors v)) ps (i ∷ j ∷ k ∷ h ∷ [])) in
          ap (λ x. vertex_entry o x c.model.particles (t.factors v) ch (map (entering o s (feynman_rules o c.model t) (event_of o e)) (with_indices (map part_in (a ∷ b ∷ d ∷ f ∷ [])) (i ∷ j ∷ k ∷ h ∷ [])))) at
          ∙ ap (λ p. m (record { first = p; second = momentum_in b; third = momentum_in d; fourth = momentum_in f })) (in_is a ha)
          ∙ ap (λ p. m (record { first = momentum_behind o e a.legs; second = p; third = momentum_in d; fourth = momentum_in f })) (in_is b hb)
          ∙ ap (λ p. m (record { first = momentum_behind o e a.legs; second = momentum_behind o e b.legs; third = p; fourth = momentum_in f })) (in_is d hd)
          ∙ ap (λ p. m (record { first = momentum_behind o e a.legs; second = momentum_behind o e b.legs; third = momentum_behind o e d.legs; fourth = p })) (in_is f hf)

      abbrev AreMany : List (EnteringWave E) → Type 0
      AreMany qs = (length qs ≡ 3) ⊎ (length qs ≡ 4)

      many_of : (P : List (EnteringWave E) → Type 0) → ((a b d : EnteringWave E) → P (a ∷ b ∷ d ∷ [])) → ((a b d f : EnteringWave E) → P (a ∷ b ∷ d ∷ f ∷ [])) → (qs : List (EnteringWave E)) → AreMany qs → P qs
      many_of P three four qs (inl m) = of_three P three qs m
      many_of P three four qs (inr m) = of_four P four qs m

      abbrev ValueIs : List (EnteringWave E) → List ℕ → Type 0
      ValueIs qs is = vertex_value s v ch qs is ≡ o.times o.imag (entry_at vx.structure reading (factors_of o (t.factors v)) qs (listed vx.structure reading (factors_of o (t.factors v)) 0 is))

      value-is : (qs : List (EnteringWave E)) → AreMany qs → Each (HasMembers s.size) qs → (is : List ℕ) → length is ≡ length qs → ValueIs qs is
      value-is = many_of (λ qs. Each (HasMembers s.size) qs → (is : List ℕ) → length is ≡ length qs → ValueIs qs is)
          (λ a b d h. of_three (ValueIs (a ∷ b ∷ d ∷ [])) (value-three a b d h.0 h.1.0 h.1.1.0))
          (λ a b d f h. of_four (ValueIs (a ∷ b ∷ d ∷ f ∷ [])) (value-four a b d f h.0 h.1.0 h.1.1.0 h.1.1.1.0))

      index-is : (n : ℕ) (qs : List (EnteringWave E)) → AreMany qs → open_edges o qs ≡ 1 → IndexSumIsNested vx.structure reading (factors_of o (t.factors v)) n qs
      index-is n = many_of (λ qs. open_edges o qs ≡ 1 → IndexSumIsNested vx.structure reading (factors_of o (t.factors v)) n qs)
          (λ a b d. index-three vx.structure reading (factors_of o (t.factors v)) n a.legs a.field b.legs b.field d.legs d.field a.wave b.wave d.wave)
          (λ a b d f. index-four vx.structure reading (factors_of o (t.factors v)) n a.legs a.field b.legs b.field d.legs d.field f.legs f.field a.wave b.wave d.wave f.wave)

      full-is : (n : ℕ) (qs : List (EnteringWave E)) → AreMany qs → open_edges o qs ≡ 0 → FullSumIsNested vx.structure reading (factors_of o (t.factors v)) n qs
      full-is n = many_of (λ qs. open_edges o qs ≡ 0 → FullSumIsNested vx.structure reading (factors_of o (t.factors v)) n qs)
          (λ a b d. full-three vx.structure reading (factors_of o (t.factors v)) n a.legs a.field b.legs b.field d.legs d.field a.wave b.wave d.wave)
          (λ a b d f. full-four vx.structure reading (factors_of o (t.factors v)) n a.legs a.field b.legs b.field d.legs d.field f.legs f.field a.wave b.wave d.wave f.wave)

      turned-in : (n : ℕ) (qs : List (EnteringWave E)) → AreMany qs → Each (HasMembers s.size) qs
          → o.times o.imag (nested n qs (λ is. entry_at vx.structure reading (factors_of o (t.factors v)) qs (listed vx.structure reading (factors_of o (t.factors v)) n is)))
          ≡ nested n qs (vertex_value s v ch qs)
      turned-in n qs m h =
          times-nest o l key_in (indices_in o n) (weight_in o n) o.imag qs _
          ∙ nest-ext o l key_in (indices_in o n) (weight_in o n) qs _ (vertex_value s v ch qs) (λ is e. sym (value-is qs m h is e))

      -- i times the index sum of a vertex, as a sum over what enters
      pub index_sum-nested : (n : ℕ) (qs : List (EnteringWave E)) → AreMany qs → Each (HasMembers s.size) qs → open_edges o qs ≡ 1
          → o.times o.imag (index_sum o (structure_of c v) (reading_of_vertex c v ch) (factors_of o (t.factors v)) (slots_of o c t e qs) (open_slot qs) n) ≡ nested n qs (vertex_value s v ch qs)
      index_sum-nested n qs m h one = rw at (ap (o.times o.imag) (index-is n qs m one) ∙ turned-in n qs m h)

      pub full_sum-nested : (n : ℕ) (qs : List (EnteringWave E)) → AreMany qs → Each (HasMembers s.size) qs → open_edges o qs ≡ 0
          → o.times o.imag (full_sum o (structure_of c v) (reading_of_vertex c v ch) (factors_of o (t.factors v)) (slots_of o c t e qs)) ≡ nested n qs (vertex_value s v ch qs)
      full_sum-nested n qs m h none = rw at (ap (o.times o.imag) (full-is n qs m none) ∙ turned-in n qs m h)
