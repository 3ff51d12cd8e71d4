-- The words of the slots and the factors of a vertex.
use Rattle.std.specs.Prelude.{ℕ, ◌==◌, if◌then◌else◌, List, [], ◌∷◌, length, codes, Option, Some, None}
use Rattle.std.specs.Str.{bytes_eq}
use Rattle.om_ring.specs.declared.numeral.Numeral.{Numeral}
use Rattle.om_model.specs.Name.{is_name}
use Rattle.om_model.specs.FieldNames.{field_named}
use Rattle.om_model.specs.declared.model.Particle.{Particle}
use Rattle.om_io.specs.Lines.{Words}
use Rattle.om_asm.specs.Lines.{word_by}
use Rattle.om_ring.specs.OptionSteps.{◌>>=◌}
use Rattle.om_asm.specs.Spelt.{literal}
use Rattle.om_asm.specs.Lists.{list_from}
use Rattle.om_asm.specs.Reading.{product_of}

-- the field of a slot, none where no particle has the name
abbrev pub slot_of : List Particle → List ℕ → Option (Option ℕ)
slot_of particles word = if is_name word then Some (field_named particles word) else None

-- a colon, or a fourth slot and a colon
unfoldable pub fourth_slot : List Particle → Words → Option (Option (Option ℕ) × Words)
fourth_slot particles [] = None
fourth_slot particles (w ∷ ws) = if bytes_eq w (codes ":") then Some (None, ws) else (do
  slot ← slot_of particles w
  colon ← word_by (literal (codes ":")) ws
  Some (Some slot, colon.1))

-- one to three products, which end the line
unfoldable pub factors_of : Words → Option (List (List Numeral))
factors_of words = do
  factors ← list_from product_of 3 0 words
  if length factors == 0 then None else Some factors
