use Rattle.std.proofs.Common.{◌≡◌, ℕ, List, drop}
use Rattle.om_model.specs.FieldNames.{field_from, field_named}
use Rattle.om_asm.specs.Fields.{named_in, or_else}
use Rattle.om_asm.proofs.fields.first_fields.Given as goal

-- what isn't in the map is left
abbrev pub invariant-loop-row : goal.invariant-loop-row
invariant-loop-row l = (q : List ℕ) → or_else (named_in l.by_name q) (field_from l.row (drop l.row l.particles) q) ≡ field_named l.particles q
