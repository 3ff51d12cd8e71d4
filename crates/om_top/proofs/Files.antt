-- What the bytes of a file say.
use Rattle.std.proofs.Common.{◌≡◌, ℕ, ◌+◌, ◌≤◌, ◌<◌, List, length, Ok, refl, subst, arith, inl, inr}
use Rattle.om_ring.specs.Ops.{Ops}
use Rattle.om_model.specs.WellFormed.{IsWellFormed}
use Rattle.om_model.specs.declared.limits.TheConstants.{MOST_PARTICLES}
use Rattle.om_model.specs.Rules.{Breaks, IsAccepted}
use Rattle.om_model.specs.declared.model.Model.{Model}
use Rattle.om_model.specs.declared.rules.ModelRule.TheVariants.{Limit, NoInverse}
use Rattle.om_model.specs.declared.rules.Table.TheVariants.{Top, Particle, Vertex}
use Rattle.om_model.proofs.AcceptedModels.{accepted_are_well_formed}
use Rattle.om_modelfile.specs.ModelOf.{SaysModel}
use Rattle.om_modelfile.specs.declared.fault.ModelFault.{ModelFault}
use Rattle.om_modelfile.specs.declared.fault.ModelFault.TheVariants.{Rule, Memory}
use Rattle.om_code.specs.declared.code.Code.{Code}
use Rattle.om_machine.specs.LoadFaults.{IsLoadFault}
use Rattle.om_machine.specs.declared.loading.LoadFault.TheVariants.{NoInverse as WithoutInverse}
use Rattle.om_top.specs.Loads.{SaysFault}

module _ {E : Type 0} (o : Ops E) where
  -- an accepted model has at most 64 particles
  pub few_particles : (m : Model) → IsAccepted o m → length m.particles ≤ MOST_PARTICLES
  few_particles m accepted =
      let never : MOST_PARTICLES < length m.particles → ⊥ = λ many. accepted (record { rule = Limit; table = Top; row = 0 }) (refl, refl, inl many) in
      omega (arith, never)

  -- and is well formed
  pub formed : (m : Model) → IsAccepted o m → IsWellFormed m
  formed m accepted = accepted_are_well_formed o m accepted

  -- and no row of it lacks an inverse
  pub never_lacks : (c : Code) (line : ℕ) → IsAccepted o c.model → IsLoadFault o c (WithoutInverse line) → ⊥
  never_lacks c line accepted h = elim h.2.0 [
    | inl (p, is, lacks) ↦ accepted (record { rule = NoInverse; table = Particle; row = h.0 + 1 }) (h.0, p, refl, is, lacks)
    | inr (row, v, at, is, lacks) ↦ accepted (record { rule = NoInverse; table = Vertex; row = row + 1 }) (row, v, refl, is, lacks)
  ]

module _ {E : Type 0} (o : Ops E) (bytes : List ℕ) where
  -- bytes are those of one model
  pub one_model : (a b : Model) → SaysModel o bytes (Ok a) → SaysModel o bytes (Ok b) → a ≡ b
  one_model a b (p, _) (q, _) = cc

  -- bytes are not those of a model and of a fault
  pub no_fault : (m : Model) (fault : ModelFault) → SaysModel o bytes (Ok m) → SaysFault o bytes fault → ⊥
  no_fault m Memory says fault = fault
  no_fault m (Rule broken) (form, accepted) (n, form_n, (breaks, first)) =
      accepted broken (subst (λ (x : Model). Breaks o x broken) (let same : n ≡ m = cc in same) breaks)
  no_fault m fault (form, accepted) says = cc
