-- The model of a sample breaks no rule.
use Rattle.std.proofs.Common.{◌≡◌, ℕ, zero, suc, inl, inr, false, [], ◌∷◌, take, refl, sym, ◌∙◌, arith, subst}
use Rattle.std.specs.Prelude.{Option, Some, None, slice_get}
use Rattle.std.specs.Option.{option_map}
use Rattle.std.proofs.lemmas.Option.{slice_get_past}
use Rattle.om_ring.specs.Ops.{Laws, Ops, number_of, signed, turned}
use Rattle.om_ring.specs.Products.{times_option}
use Rattle.om_ring.proofs.RingLemmas.{zero_plus}
use Rattle.om_model.specs.Rules.{HasNoValue, IsAccepted, ParticleBreaks, RowBreaks, VertexBreaks}
use Rattle.om_model.specs.declared.rules.ModelRule.{ModelRule}
use Rattle.om_model.specs.declared.rules.ModelRule.TheVariants.{RepeatedName, BadPattern, NoInverse, NotSymmetric, Limit}
use Rattle.om_model.specs.declared.rules.Table.{Table}
use Rattle.om_model.specs.declared.rules.Table.TheVariants as table
use Rattle.om_sample.specs.Model.{sample_model, sample_particle, sample_vertex, whole}

-- a list with one row
pub one_row : {A : Type 0} (x y : A) (k : ℕ) → slice_get (x ∷ []) k ≡ Some y → (k ≡ 0) × (y ≡ x)
one_row x y zero h = (refl, cc)
one_row x y (suc k) h = absurd (let none = slice_get_past (x ∷ []) (suc k) (omega arith) in cc)

module _ {E : Type 0} (o : Ops E) (l : Laws o) where
  one_inverts : o.times (number_of o 1) o.one ≡ o.one
  unfolding number_of
  one_inverts = l.times_one (number_of o 1) ∙ zero_plus o l o.one

  is_there : (f g : E → E) (r : Option E) → r ≡ o.inverse (number_of o 1) → times_option o (option_map f (option_map g r)) (Some o.one) ≡ None → ⊥
  is_there f g None e h = (let i = l.inverts (number_of o 1) in (rw (sym e) at i) o.one one_inverts)
  is_there f g (Some x) e h = cc

  -- a whole number has a value
  has_value : (n : ℕ) → HasNoValue o (whole n ∷ []) → ⊥
  has_value n h = is_there (λ q. turned o false (signed o false q)) (o.times (number_of o n)) (o.inverse (number_of o 1)) refl h

  particle_fine : (rule : ModelRule) → ParticleBreaks o [] sample_particle rule → ⊥
  particle_fine Limit h = h ((omega arith, omega arith), (omega arith, omega arith), (omega arith, omega arith))
  particle_fine RepeatedName (inl e) = cc
  particle_fine RepeatedName (inr e) = cc
  particle_fine BadPattern (n, inl e) = cc
  particle_fine BadPattern (n, inr (inl e)) = cc
  particle_fine BadPattern (n, inr (inr e)) = cc
  particle_fine NoInverse (inl h) = has_value 1 h
  particle_fine NoInverse (inr (inl h)) = has_value 0 h
  particle_fine NoInverse (inr (inr (inl h))) = has_value 1 h
  particle_fine NoInverse (inr (inr (inr h))) = (let e = h.0 in cc)
  particle_fine NotSymmetric h = h

  vertex_fine : (rule : ModelRule) → VertexBreaks o (sample_particle ∷ []) sample_vertex rule → ⊥
  vertex_fine Limit h = h (((omega arith, omega arith), tt), omega arith)
  vertex_fine RepeatedName h = h
  vertex_fine BadPattern h = h (record { fields = refl; spins_are = refl; factors = refl; fermions = tt }, inl (omega arith))
  vertex_fine NoInverse (inl h) = has_value 1 h
  vertex_fine NoInverse (inr h) = h
  vertex_fine NotSymmetric h = h.2 (λ slot lt j f a b c. tt)

  row_fine : (t : Table) (row : ℕ) (rule : ModelRule) → RowBreaks o sample_model t row rule → ⊥
  row_fine table.Top row rule (a, b, inl h) = omega (arith, h)
  row_fine table.Top row rule (a, b, inr h) = omega (arith, h)
  row_fine table.Parameter row rule h = h
  row_fine table.Particle row rule (k, p, e, there, h) =
      let is = one_row sample_particle p k there in
      particle_fine rule (subst (λ q. ParticleBreaks o [] q rule) is.1 (subst (λ j. ParticleBreaks o (take j (sample_particle ∷ [])) p rule) is.0 h))
  row_fine table.Vertex row rule (k, v, e, there, h) =
      let is = one_row sample_vertex v k there in
      vertex_fine rule (subst (λ u. VertexBreaks o (sample_particle ∷ []) u rule) is.1 h)

  pub sample_model_accepted : IsAccepted o sample_model
  sample_model_accepted fault h = row_fine fault.table fault.row fault.rule h
