-- The wave functions of a model, with their signs, by keys.
use Rattle.std.proofs.Common.{◌≡◌, ℕ, List, [], ◌∷◌, map, Bool, true, false, refl, ap, ap₂, sym, ◌∙◌}
use Rattle.om_ring.specs.Ops.{Ops, Laws, signed}
use Rattle.om_ring.specs.Sums.{sum_over}
use Rattle.om_ring.proofs.RingLemmas.{minus_times, times_minus, minus_minus}
use Rattle.om_ring.proofs.SumLemmas.{sum_over-ext}
use Rattle.om_model.specs.Theory.{Scattering}
use Rattle.om_model.specs.Tree.{Tree, Branches}
use Rattle.om_model.specs.Tree.Tree.{join}
use Rattle.om_model.specs.Tree.Branches.{none, and}
use Rattle.om_model.specs.Diagram.{field_of}
use Rattle.om_model.specs.Parts.{Part, part, up}
use Rattle.om_model.specs.Event.{Event}
use Rattle.om_model.specs.FeynmanRules.{FeynmanRules}
use Rattle.om_model.specs.Propagator.{edge_name, propagator}
use Rattle.om_model.specs.Value.{vertex_entry, indices_of, sum_at_vertex}
use Rattle.om_model.specs.WaveFunction.{wave, contract}
use Rattle.om_model.proofs.Contraction.{sum_is_contraction}
use Rattle.om_model.specs.Opened.{Opened}
use Rattle.om_graph.specs.Fusion.{Fusion, HasKey, HaveKeys}
use Rattle.om_keystone.proofs.KeyedWaves.{KeyRules, meet_trees, AreTreeWaves}
use Rattle.om_model.specs.Inversions.{xor}
use Rattle.om_keystone.proofs.ModelRules.{KeyView, model_rules, odd_all, AreSigns, ShowsParts}
use Rattle.om_keystone.specs.EdgeRules.{opposite, name_of, with_indices, propagator_of}
use Rattle.om_keystone.proofs.NodeSums.{signed_sum}

-- what is seen of a tree's edge is all that its name and its propagator depend on
pub name_is : (s : Scattering) (t : Tree) → edge_name s t ≡ name_of s (part s t)
unfolding edge_name name_of part
name_is s t = refl

up_is : (s : Scattering) (t : Tree) → up s t ≡ opposite s (part s t)
unfolding up part
up_is s t = refl

field_is : (s : Scattering) (t : Tree) → field_of s t ≡ (part s t).field
unfolding part
field_is s t = refl

module _ {E : Type 0} (o : Ops E) (l : Laws o) where
  signed_times : (a b : Bool) (x y : E) → o.times (signed o a x) (signed o b y) ≡ signed o (xor a b) (o.times x y)
  signed_times false false x y = refl
  signed_times false true x y = times_minus o l x y
  signed_times true false x y = minus_times o l x y
  signed_times true true x y = minus_times o l x (o.minus y) ∙ ap o.minus (times_minus o l x y) ∙ minus_minus o l (o.times x y)

  times_signed : (b : Bool) (x y : E) → o.times x (signed o b y) ≡ signed o b (o.times x y)
  times_signed true x y = times_minus o l x y
  times_signed false x y = refl

  signed_twice : (a b : Bool) (x : E) → signed o a (signed o b x) ≡ signed o (xor a b) x
  signed_twice true true x = minus_minus o l x
  signed_twice true false x = refl
  signed_twice false b x = refl

  module _ (s : Scattering) (r : FeynmanRules E) (e : Event E) {K F : Type 0} (p : Fusion K F) (view : KeyView K) (shows : ShowsParts p view s) (odd : Tree → Bool) (signs : AreSigns p view odd) where
    abbrev pub signed_wave : Tree → ℕ → E
    signed_wave t i = signed o (odd t) (wave o s r e t i)

    abbrev rules : KeyRules E K
    rules = model_rules o s r e view

    propagator_is : (t : Tree) (i j : ℕ) → propagator o r e s t i j ≡ propagator_of o s r e (part s t) i j
    unfolding propagator propagator_of edge_name name_of part up
    propagator_is t i j = refl

    -- contracting branches with signed wave functions gives the sign of all of them
    contract_is : (bs : Branches) (ks : List K) (entry : List (Part × ℕ) → E) → HaveKeys p bs ks
        → signed o (odd_all odd bs) (contract o s r e bs entry) ≡ meet_trees o rules signed_wave bs ks (λ is. entry (with_indices (map view.part ks) is))
    unfolding HasKey contract meet_trees odd_all with_indices
    contract_is none ks entry h = ap (λ us. entry (with_indices (map view.part us) [])) (sym h)
    contract_is (and t bs) ks entry h =
        let k = h.0 in
        let js = h.1 in
        let e₁ : part s t ≡ view.part k = shows t k h.2 in
        signed_sum o l (xor (odd t) (odd_all odd bs)) (indices_of o s r e t) _
        ∙ sum_over-ext o (indices_of o s r e t) _ (λ i. o.times (signed_wave t i) (meet_trees o rules signed_wave bs js (λ is. entry ((part s t, i) ∷ with_indices (map view.part js) is)))) (λ i.
        sym (signed_times (odd t) (odd_all odd bs) (wave o s r e t i) (contract o s r e bs (λ qs. entry ((part s t, i) ∷ qs))))
        ∙ ap (o.times (signed_wave t i)) (contract_is bs js (λ qs. entry ((part s t, i) ∷ qs)) h.3))
        ∙ ap (λ f. sum_over o (r.indices f) (λ i. o.times (signed_wave t i) (meet_trees o rules signed_wave bs js (λ is. entry ((part s t, i) ∷ with_indices (map view.part js) is))))) (field_is s t)
        ∙ ap (λ (q : Part). sum_over o (r.indices q.field) (λ i. o.times (signed_wave t i) (meet_trees o rules signed_wave bs js (λ is. entry ((q, i) ∷ with_indices (map view.part js) is))))) e₁
        ∙ ap (λ us. meet_trees o rules signed_wave (and t bs) us (λ is. entry (with_indices (map view.part us) is))) (sym h.4)

    pub are_tree_waves : AreTreeWaves o rules p signed_wave
    unfolding wave HasKey
    are_tree_waves = record {
      at_leg = λ j i low high. ap (λ b. signed o b (e.wave j i)) (signs.at_leg j);
      at_join = λ f v c bs ks k h fuse i.
          let t = join f v c bs in
          let q : part s t ≡ view.part k = shows t k (ks, h, fuse) in
          let entry : Part → ℕ → List (Part × ℕ) → E = λ u j qs. vertex_entry o s r e v c ((opposite s u, j) ∷ qs) in
          let minus : Bool = view.minus v k ks in
          ap (λ b. signed o b (wave o s r e t i)) (signs.at_join f v c bs ks k h fuse)
          ∙ signed_sum o l (xor minus (odd_all odd bs)) (indices_of o s r e t) _
          ∙ sum_over-ext o (indices_of o s r e t) _ (λ j. o.times (propagator_of o s r e (part s t) i j) (signed o minus (meet_trees o rules signed_wave bs ks (λ is. entry (part s t) j (with_indices (map view.part ks) is))))) (λ j.
          sym (times_signed (xor minus (odd_all odd bs)) (propagator o r e s t i j) (contract o s r e bs (λ qs. vertex_entry o s r e v c ((up s t, j) ∷ qs))))
          ∙ ap₂ o.times (propagator_is t i j)
          (ap (λ u. signed o (xor minus (odd_all odd bs)) (contract o s r e bs (λ qs. vertex_entry o s r e v c ((u, j) ∷ qs)))) (up_is s t)
          ∙ sym (signed_twice minus (odd_all odd bs) (contract o s r e bs (λ qs. entry (part s t) j qs)))
          ∙ ap (signed o minus) (contract_is bs ks (λ qs. entry (part s t) j qs) h)))
          ∙ ap (λ f. sum_over o (r.indices f) (λ j. o.times (propagator_of o s r e (part s t) i j) (signed o minus (meet_trees o rules signed_wave bs ks (λ is. entry (part s t) j (with_indices (map view.part ks) is)))))) (field_is s t)
          ∙ ap (λ (u : Part). sum_over o (r.indices u.field) (λ j. o.times (propagator_of o s r e u i j) (signed o minus (meet_trees o rules signed_wave bs ks (λ is. entry u j (with_indices (map view.part ks) is)))))) q;
    }

    -- the value of a diagram that is opened at a vertex, with its sign
    pub opened_sum : (a : Opened) (ks : List K) → HaveKeys p a.parts ks
        → signed o (xor (view.closed_minus a.vertex ks) (odd_all odd a.parts)) (sum_at_vertex o s r e a.vertex a.choice a.parts)
        ≡ signed o (rules.closed_minus a.vertex ks) (meet_trees o rules signed_wave a.parts ks (rules.closed a.vertex a.choice ks))
    opened_sum a ks h =
        ap (signed o (xor (view.closed_minus a.vertex ks) (odd_all odd a.parts))) (sum_is_contraction o l s r e a.vertex a.choice a.parts)
        ∙ sym (signed_twice (view.closed_minus a.vertex ks) (odd_all odd a.parts) (contract o s r e a.parts (vertex_entry o s r e a.vertex a.choice)))
        ∙ ap (signed o (view.closed_minus a.vertex ks)) (contract_is a.parts ks (vertex_entry o s r e a.vertex a.choice) h)
