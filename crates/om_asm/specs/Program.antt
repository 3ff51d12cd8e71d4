-- What a program text says: its code, or the first bad line.
use Rattle.std.specs.Prelude.{ℕ, ◌+◌, ◌^◌, ◌<◌, ◌==◌, nat_lt, if◌then◌else◌, ◌&&◌, Bool, List, drop, length, codes, Option, Some, None, Result, Ok, Err}
use Rattle.std.specs.Str.{bytes_eq}
use Rattle.om_model.specs.declared.model.Particle.{Particle}
use Rattle.om_code.specs.declared.code.TheConstants.{MOST_PARTICLE_LINES}
use Rattle.om_code.specs.declared.code.Instr.{Instr}
use Rattle.om_code.specs.declared.code.Code.{Code}
use Rattle.om_code.specs.Plain.{registers_named, slots_for}
use Rattle.om_asm.specs.declared.fault.AsmKind.{AsmKind}
use Rattle.om_asm.specs.declared.fault.AsmKind.TheVariants.{Grammar}
use Rattle.om_io.specs.Lines.{Words}
use Rattle.om_asm.specs.Lines.{At, first_line, lines_of}
use Rattle.om_asm.specs.declared.reader.ProcessLines.{ProcessLines}
use Rattle.om_asm.specs.Heads.{version_of, model_name_of, slots_of, end_of}
use Rattle.om_asm.specs.Reading.{particle_row, leg_row, den_row}
use Rattle.om_asm.specs.Vertices.{vertex_row}
use Rattle.om_asm.specs.Flows.{flow_line}
use Rattle.om_asm.specs.Rows.{BadLine, bad, place, rows_from, formed, instrs_at}
use Rattle.om_ring.specs.ResultSteps.{◌>>=◌}

abbrev pub line_or_bad : {A : Type 0} → Option A → At → Result (A × At) BadLine
line_or_bad (Some x) a = Ok (x, place (a.number + 1) (drop 1 a.lines))
line_or_bad None a = Err (bad a.number Grammar)

-- a line that has to stand at its place
abbrev pub one_line : {A : Type 0} → (Words → Option A) → At → Result (A × At) BadLine
one_line read a = line_or_bad (read (first_line a.lines)) a

-- the rows of a kind that has one first word
abbrev pub rows_at : {A : Type 0} → List ℕ → (Words → Result A AsmKind) → At → Result (List A × At) BadLine
rows_at key row_of a = rows_from (λ _ w. bytes_eq w key) (λ _ words. row_of words) 0 a.number a.lines

-- a particle line, where so many stand before it: only so many are taken
abbrev pub begins_particle : ℕ → List ℕ → Bool
begins_particle count w = bytes_eq w (codes "particle") && nat_lt count MOST_PARTICLE_LINES

abbrev pub particles_at : At → Result (List Particle × At) BadLine
particles_at a = rows_from begins_particle (λ _ words. particle_row words) 0 a.number a.lines

-- version 1 has no such line
abbrev pub slots_at : ℕ → At → Result (ℕ × At) BadLine
slots_at version a = if version == 1 then Ok (0, a) else one_line slots_of a

-- the last line, behind which nothing follows
abbrev pub end_at : At → Result (Unit {0}) BadLine
end_at a = do
  e ← one_line end_of a
  if length e.1.lines == 0 then Ok tt else Err (bad e.1.number Grammar)

unfoldable pub process_at : List Particle → At → Result (ProcessLines × At) BadLine
process_at particles a = do
  legs ← rows_at (codes "leg") (leg_row particles) a
  flows ← rows_at (codes "flow") (λ words. formed (flow_line words)) legs.1
  dens ← rows_at (codes "den") (den_row particles) flows.1
  Ok (record { legs = legs.0; flows = flows.0; dens = dens.0 }, dens.1)

-- the slot that an instruction fills is below 2^32
abbrev pub FillsFew : Instr → Type 0
FillsFew i = slots_for i < 2 ^ 32

abbrev pub slots_number : ℕ → ℕ → List Instr → ℕ
slots_number version slots instrs = if version == 1 then registers_named instrs else slots

unfoldable pub program_at : At → Result Code BadLine
program_at a = do
  version ← one_line version_of a
  name ← one_line model_name_of version.1
  particles ← particles_at name.1
  vertices ← rows_at (codes "vertex") (vertex_row particles.0) particles.1
  process ← process_at particles.0 vertices.1
  slots ← slots_at version.0 process.1
  instrs ← instrs_at version.0 slots.1
  _ ← end_at instrs.1
  Ok (record {
    version = version.0;
    model = record { name = name.0; particles = particles.0; vertices = vertices.0 };
    legs = process.0.legs;
    flows = process.0.flows;
    dens = process.0.dens;
    slots = slots_number version.0 slots.0 instrs.0;
    instrs = instrs.0;
  })

-- the code of a text, or its first bad line
abbrev pub program_of : List ℕ → Result Code BadLine
program_of text = program_at (place 1 (lines_of text))
