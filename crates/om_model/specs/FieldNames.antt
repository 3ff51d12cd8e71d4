-- The names of fields, both ways.
use Rattle.std.specs.Prelude.{◌≡◌, ℕ, ◌+◌, ◌*◌, ◌%◌, ◌==◌, List, [], ◌∷◌, Bool, true, cond, Option, Some, None, if◌then◌else◌}
use Rattle.std.specs.Str.{bytes_eq}
use Rattle.om_model.specs.declared.model.Particle.{Particle}
use Rattle.om_model.specs.declared.model.Model.{Model}
use Rattle.om_model.specs.Model.{particle_of, is_field}
use Rattle.om_model.specs.WellFormed.{IsWellFormed}

-- the field that a name means: of the first particle that has it as name or antiname, in rows from `row` on
unfoldable pub field_from : ℕ → List Particle → List ℕ → Option ℕ
field_from row [] name = None
field_from row (p ∷ ps) name = cond (bytes_eq name p.name) (Some (2 * row)) (cond (bytes_eq name p.anti) (Some (2 * row + 1)) (field_from (row + 1) ps name))

abbrev pub field_named : List Particle → List ℕ → Option ℕ
field_named particles name = field_from 0 particles name

-- the name or the antiname of a particle; empty where there is none
abbrev pub name_in : Option Particle → Bool → List ℕ
name_in None is_name = []
name_in (Some p) is_name = if is_name then p.name else p.anti

-- the name of a field; empty where no particle has the field
abbrev pub field_name : List Particle → ℕ → List ℕ
field_name particles f = name_in (particle_of particles f) (f % 2 == 0)

-- a name means only a field that has it, and in a well-formed model the name of a field means the field
abbrev pub FieldNamesAreRead : Type 0
FieldNamesAreRead =
    ((particles : List Particle) (name : List ℕ) (f : ℕ) → field_named particles name ≡ Some f → (is_field particles f ≡ true) × (field_name particles f ≡ name))
    × ((m : Model) → IsWellFormed m → (f : ℕ) → is_field m.particles f ≡ true → field_named m.particles (field_name m.particles f) ≡ Some f)
