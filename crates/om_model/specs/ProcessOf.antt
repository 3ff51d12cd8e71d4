-- Processes over a model.
use Rattle.std.specs.Prelude.{◌≡◌, ℕ, ◌+◌, ◌≤◌, length, true, Some, slice_get}
use Rattle.om_legs.specs.Legs.{IsLegSet, size, minus, all_legs}
use Rattle.om_legs.specs.declared.leg_set.TheConstants.{MOST_LEGS}
use Rattle.om_model.specs.declared.limits.TheConstants.{FEWEST_LEGS}
use Rattle.om_model.specs.declared.model.Model.{Model}
use Rattle.om_model.specs.declared.process.Leg.{Leg}
use Rattle.om_model.specs.declared.process.Process.{Process}
use Rattle.om_model.specs.Model.{is_field}

-- a set of at least two legs of n, and of all but two at most
abbrev pub IsNamedEdge : ℕ → ℕ → Type 0
IsNamedEdge n e = IsLegSet e × (minus e (all_legs n) ≡ 0) × (2 ≤ size e) × (size e + 2 ≤ n)

-- 3 to 12 legs with fields of the model, and edges named by sets of the legs on one of their sides
pub record IsProcessOf (m : Model) (p : Process) : Type 0 where
  pub least : FEWEST_LEGS ≤ length p.legs
  pub most : length p.legs ≤ MOST_LEGS
  pub fields : (k : ℕ) (leg : Leg) → slice_get p.legs k ≡ Some leg → is_field m.particles leg.field ≡ true
  pub edges : (k e : ℕ) → slice_get p.edges k ≡ Some e → IsNamedEdge (length p.legs) e
