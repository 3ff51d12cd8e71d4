-- What a map from names to fields holds.
use Rattle.std.specs.Prelude.{◌≡◌, ℕ, cond, List, Option, Some, None}
use Rattle.std.specs.Str.{bytes_eq}
use Rattle.std.specs.Ordering.{nat_cmp}
use Rattle.std.specs.Cmp.Lexicographic.{slice_cmp}
use Rattle.std.specs.BTreeMap.{BTreeMap, get_by}
use denote.Ref.{Bor}
use Rattle.om_model.specs.FieldNames.{field_named}
use Rattle.om_model.specs.declared.model.Particle.{Particle}

-- what a map holds at a name
abbrev pub named_in : BTreeMap (Bor (List ℕ)) ℕ → List ℕ → Option ℕ
named_in m name = get_by (λ k. slice_cmp nat_cmp name k.now) m

-- a map holds at each name the field that it means
abbrev pub HasFirstFields : List Particle → BTreeMap (Bor (List ℕ)) ℕ → Type 0
HasFirstFields particles m = (name : List ℕ) → named_in m name ≡ field_named particles name

-- the first of two
abbrev pub or_else : Option ℕ → Option ℕ → Option ℕ
or_else None later = later
or_else (Some field) later = Some field

-- a field at its own name alone
abbrev pub where_named : List ℕ → List ℕ → ℕ → Option ℕ
where_named asked name field = cond (bytes_eq asked name) (Some field) None
