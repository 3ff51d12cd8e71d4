-- What the words of the other lines say. The first word, which tells the kind of a line, stands apart.
use Rattle.std.specs.Prelude.{ℕ, ◌==◌, if◌then◌else◌, List, Option, Some, None, Result, Ok, Err}
use Rattle.std.specs.Str.{bytes_eq}
use Rattle.std.specs.List.{slice_split}
use Rattle.om_ring.specs.declared.numeral.Numeral.{Numeral}
use Rattle.om_ring.specs.declared.numeral.NumeralFault.{NumeralFault}
use Rattle.om_ring.specs.Numerals.{numeral_text}
use Rattle.om_ring.specs.NumeralOf.{numeral_of}
use Rattle.om_model.specs.declared.limits.TheConstants.{MOST_NUMERALS}
use Rattle.om_model.specs.Name.{is_name}
use Rattle.om_model.specs.Words.{spin_of_word, colour_of_word}
use Rattle.om_model.specs.FieldNames.{field_named}
use Rattle.om_model.specs.LegSetText.{leg_set_of_word}
use Rattle.om_model.specs.declared.model.Particle.{Particle}
use Rattle.om_code.specs.declared.code.Den.{Den}
use Rattle.om_asm.specs.declared.fault.AsmKind.{AsmKind}
use Rattle.om_asm.specs.declared.fault.AsmKind.TheVariants.{Grammar, Name}
use Rattle.om_io.specs.Lines.{Words}
use Rattle.om_asm.specs.Lines.{word_by, no_more, next_word}
use Rattle.om_asm.specs.Rows.{formed}
use Rattle.om_ring.specs.ResultSteps.{◌>>=◌}
use Rattle.om_asm.specs.Lists.{list_from}

-- a name of a model, a particle or an antiparticle
abbrev pub name_of : List ℕ → Option (List ℕ)
name_of word = if is_name word then Some word else None

-- a numeral in its canonical spelling
abbrev pub canonical : List ℕ → Result Numeral NumeralFault → Option Numeral
canonical word (Ok x) = if bytes_eq (numeral_text x) word then Some x else None
canonical word (Err e) = None

abbrev pub factor_of : List ℕ → Option Numeral
factor_of word = canonical word (numeral_of word)

-- 1 to 8 canonical numerals with stars between
abbrev pub product_of : List ℕ → Option (List Numeral)
product_of word = list_from factor_of MOST_NUMERALS 0 (slice_split (λ b. b == 42) word)

-- the field that a name means
abbrev pub known : Option ℕ → Result ℕ AsmKind
known (Some field) = Ok field
known None = Err Name

-- a field by its name
abbrev pub named : List Particle → List ℕ → Result ℕ AsmKind
named particles word = if is_name word then known (field_named particles word) else Err Grammar

unfoldable pub leg_row : List Particle → Words → Result ℕ AsmKind
leg_row particles words = do
  name ← formed (next_word words)
  _ ← formed (no_more name.1)
  named particles name.0

unfoldable pub den_row : List Particle → Words → Result Den AsmKind
den_row particles words = do
  set ← formed (word_by leg_set_of_word words)
  name ← formed (next_word set.1)
  _ ← formed (no_more name.1)
  field ← named particles name.0
  Ok (record { legs = set.0; field = field })

unfoldable pub particle_row : Words → Result Particle AsmKind
particle_row words = do
  name ← formed (word_by name_of words)
  anti ← formed (word_by name_of name.1)
  spin ← formed (word_by spin_of_word anti.1)
  mass ← formed (word_by product_of spin.1)
  width ← formed (word_by product_of mass.1)
  norm ← formed (word_by product_of width.1)
  colour ← formed (word_by colour_of_word norm.1)
  _ ← formed (no_more colour.1)
  Ok (record { name = name.0; anti = anti.0; spin = spin.0; mass = mass.0; width = width.0; norm = norm.0; colour = colour.0 })
