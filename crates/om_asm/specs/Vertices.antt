-- What the words of a vertex line say.
use Rattle.std.specs.Prelude.{ℕ, List, [], ◌∷◌, Option, Some, None, Result, Ok, Err}
use Rattle.om_model.specs.Words.{structure_of_word}
use Rattle.om_model.specs.declared.model.Particle.{Particle}
use Rattle.om_model.specs.declared.model.Vertex.{Vertex}
use Rattle.om_asm.specs.declared.fault.AsmKind.{AsmKind}
use Rattle.om_asm.specs.declared.fault.AsmKind.TheVariants.{Name}
use Rattle.om_io.specs.Lines.{Words}
use Rattle.om_asm.specs.Lines.{word_by}
use Rattle.om_ring.specs.Spelt.{decimal_below}
use Rattle.om_asm.specs.Rows.{formed}
use Rattle.om_ring.specs.ResultSteps.{◌>>=◌}
use Rattle.om_asm.specs.VertexSlots.{slot_of, fourth_slot, factors_of}

-- the fields of three slots and perhaps a fourth, where all are known
unfoldable pub known_fields : Option ℕ → Option ℕ → Option ℕ → Option (Option ℕ) → Result (List ℕ) AsmKind
known_fields (Some a) (Some b) (Some c) None = Ok (a ∷ b ∷ c ∷ [])
known_fields (Some a) (Some b) (Some c) (Some (Some d)) = Ok (a ∷ b ∷ c ∷ d ∷ [])
known_fields _ _ _ _ = Err Name

unfoldable pub vertex_row : List Particle → Words → Result Vertex AsmKind
vertex_row particles words = do
  structure ← formed (word_by structure_of_word words)
  order ← formed (word_by (decimal_below 256) structure.1)
  a ← formed (word_by (slot_of particles) order.1)
  b ← formed (word_by (slot_of particles) a.1)
  c ← formed (word_by (slot_of particles) b.1)
  d ← formed (fourth_slot particles c.1)
  factors ← formed (factors_of d.1)
  fields ← known_fields a.0 b.0 c.0 d.0
  Ok (record { structure = structure.0; fields = fields; factors = factors; order = order.0 })
