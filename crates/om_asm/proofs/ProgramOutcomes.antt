-- How the reader of a whole program fares.
use Rattle.std.proofs.Common.{◌≡◌, ℕ, eqb, ltb, ◌&&◌, Bool, true, false, cond, List, length, codes, Result, Ok, Err, refl, inl, inr}
use Rattle.std.specs.Str.{bytes_eq}
use Rattle.om_colour.specs.declared.Flow.{Flow}
use Rattle.om_model.specs.declared.model.Particle.{Particle}
use Rattle.om_model.specs.declared.model.Vertex.{Vertex}
use Rattle.om_code.specs.declared.code.Code.{Code}
use Rattle.om_asm.specs.declared.fault.AsmKind.TheVariants.{Grammar}
use Rattle.om_asm.specs.declared.reader.ProcessLines.{ProcessLines}
use Rattle.om_io.specs.Lines.{Words}
use Rattle.om_program_text.specs.ProgramText.{version_words, model_words, end_words}
use Rattle.om_asm.specs.Lines.{At}
use Rattle.om_asm.specs.Heads.{version_word, version_of, model_name_of, end_of}
use Rattle.om_asm.specs.Reading.{name_of, particle_row, leg_row, den_row}
use Rattle.om_asm.specs.Vertices.{vertex_row}
use Rattle.om_asm.specs.Flows.{flow_line}
use Rattle.om_asm.specs.Rows.{BadLine, bad, formed, instrs_at}
use Rattle.om_ring.specs.ResultSteps.{◌>>=◌}
use Rattle.om_asm.specs.Program.{one_line, rows_at, particles_at, slots_at, end_at, process_at, program_at}
use Rattle.om_asm.proofs.OneLine.{keyed_none, end_none}
use Rattle.om_asm.proofs.HeadsAgain.{version_again, model_again, end_of_again, finished}
use Rattle.om_asm.proofs.ProgramLaws.{a_process, a_code}
use Rattle.om_asm.proofs.Outcomes.{Outcomes, made_of, one_by_one}
use Rattle.om_asm.proofs.GroupOutcomes.{Ends, rows_outcome, line_outcome, slots_outcome, instrs_outcome}
use Rattle.om_code.specs.declared.code.TheConstants.{MOST_PARTICLE_LINES}

-- ---- the rows of a model and a process

abbrev by_key : List ℕ → ℕ → List ℕ → Bool
by_key key _ w = bytes_eq w key

abbrev few : ℕ → List ℕ → Bool
few count w = bytes_eq w (codes "particle") && ltb count MOST_PARTICLE_LINES

particles_outcome : Outcomes particles_at Ends Ends
particles_outcome = rows_outcome few (λ _ words. particle_row words) (record { slots = λ _. refl; ends = λ _. refl }) 0

vertices_outcome : (ps : List Particle) → Outcomes (rows_at (codes "vertex") (vertex_row ps)) Ends Ends
vertices_outcome ps = rows_outcome (by_key (codes "vertex")) (λ _ words. vertex_row ps words) (record { slots = λ _. refl; ends = λ _. refl }) 0

legs_outcome : (ps : List Particle) → Outcomes (rows_at (codes "leg") (leg_row ps)) Ends Ends
legs_outcome ps = rows_outcome (by_key (codes "leg")) (λ _ words. leg_row ps words) (record { slots = λ _. refl; ends = λ _. refl }) 0

flows_outcome : Outcomes (rows_at (codes "flow") (λ words. formed (flow_line words))) Ends Ends
flows_outcome = rows_outcome (by_key (codes "flow")) (λ _ words. formed (flow_line words)) (record { slots = λ _. refl; ends = λ _. refl }) 0

dens_outcome : (ps : List Particle) → Outcomes (rows_at (codes "den") (den_row ps)) Ends Ends
dens_outcome ps = rows_outcome (by_key (codes "den")) (λ _ words. den_row ps words) (record { slots = λ _. refl; ends = λ _. refl }) 0

abbrev pub from_dens : List Particle → List ℕ → List Flow → At → Result (ProcessLines × At) BadLine
from_dens ps legs flows a = rows_at (codes "den") (den_row ps) a >>= λ dens. Ok (a_process legs flows dens.0, dens.1)

abbrev pub from_flows : List Particle → List ℕ → At → Result (ProcessLines × At) BadLine
from_flows ps legs a = rows_at (codes "flow") (λ words. formed (flow_line words)) a >>= λ flows. from_dens ps legs flows.0 flows.1

process_outcome : (ps : List Particle) → Outcomes (process_at ps) Ends Ends
unfolding process_at
process_outcome ps =
    one_by_one (rows_at (codes "leg") (leg_row ps)) (from_flows ps) Ends Ends Ends (legs_outcome ps)
    (λ legs. one_by_one (rows_at (codes "flow") (λ words. formed (flow_line words))) (from_dens ps legs) Ends Ends Ends flows_outcome
    (λ flows. made_of (rows_at (codes "den") (den_row ps)) (a_process legs flows) Ends Ends (dens_outcome ps)))

-- ---- the whole

abbrev pub Anything : List Words → Type 0
Anything ls = Unit {0}

abbrev pub with_end : Code → At → Result (Code × At) BadLine
with_end c a = one_line end_of a >>= λ e. Ok (c, e.1)

abbrev pub from_instrs : ℕ → List ℕ → List Particle → List Vertex → ProcessLines → ℕ → At → Result (Code × At) BadLine
from_instrs version name ps vs p slots a = instrs_at version a >>= λ is. with_end (a_code version name ps vs p slots is.0) is.1

abbrev pub from_slots : ℕ → List ℕ → List Particle → List Vertex → ProcessLines → At → Result (Code × At) BadLine
from_slots version name ps vs p a = slots_at version a >>= λ s. from_instrs version name ps vs p s.0 s.1

abbrev pub from_process : ℕ → List ℕ → List Particle → List Vertex → At → Result (Code × At) BadLine
from_process version name ps vs a = process_at ps a >>= λ p. from_slots version name ps vs p.0 p.1

abbrev pub from_vertices : ℕ → List ℕ → List Particle → At → Result (Code × At) BadLine
from_vertices version name ps a = rows_at (codes "vertex") (vertex_row ps) a >>= λ vs. from_process version name ps vs.0 vs.1

abbrev pub from_particles : ℕ → List ℕ → At → Result (Code × At) BadLine
from_particles version name a = particles_at a >>= λ ps. from_vertices version name ps.0 ps.1

abbrev pub from_name : ℕ → At → Result (Code × At) BadLine
from_name version a = one_line model_name_of a >>= λ n. from_particles version n.0 n.1

-- all lines up to the end, whether others follow or not
abbrev pub up_to_end : At → Result (Code × At) BadLine
up_to_end a = one_line version_of a >>= λ v. from_name v.0 v.1

end_outcome : (c : Code) → Outcomes (with_end c) Ends Anything
end_outcome c = made_of (one_line end_of) (λ _. c) Ends Anything (line_outcome end_of tt end_words Ends Anything end_none end_of_again (λ ls f. inr refl))

rest_outcome : (version : ℕ) (name : List ℕ) → Outcomes (from_particles version name) Ends Anything
rest_outcome version name =
    one_by_one particles_at (from_vertices version name) Ends Ends Anything particles_outcome
    (λ ps. one_by_one (rows_at (codes "vertex") (vertex_row ps)) (from_process version name ps) Ends Ends Anything (vertices_outcome ps)
    (λ vs. one_by_one (process_at ps) (from_slots version name ps vs) Ends Ends Anything (process_outcome ps)
    (λ p. one_by_one (slots_at version) (from_instrs version name ps vs p) Ends Ends Anything (slots_outcome version)
    (λ s. one_by_one (instrs_at version) (λ is. with_end (a_code version name ps vs p s is)) Ends Ends Anything (instrs_outcome version)
    (λ is. end_outcome (a_code version name ps vs p s is))))))

name_outcome : (version : ℕ) → Outcomes (from_name version) Anything Anything
name_outcome version =
    one_by_one (one_line model_name_of) (from_particles version) Anything Ends Anything
    (line_outcome model_name_of (codes "a") (model_words (codes "a")) Anything Ends (keyed_none (codes "model") name_of) (model_again (codes "a") refl) (λ ls f. tt))
    (rest_outcome version)

pub whole_outcome : Outcomes up_to_end Anything Anything
whole_outcome =
    one_by_one (one_line version_of) from_name Anything Anything Anything
    (line_outcome version_of 1 (version_words 1) Anything Anything (keyed_none (codes "omega") version_word) (version_again 1 (inl refl)) (λ ls f. tt))
    name_outcome

-- ---- nothing follows the end

abbrev pub ending : Code × At → Result Code BadLine
ending c = cond (eqb (length c.1.lines) 0) (Ok c.0) (Err (bad c.1.number Grammar))

abbrev pub finish : Result (Code × At) BadLine → Result Code BadLine
finish r = r >>= ending

push : {A : Type 0} (r : Result A BadLine) (f : A → Result (Code × At) BadLine) (g : A → Result Code BadLine) → ((x : A) → finish (f x) ≡ g x) → finish (r >>= f) ≡ (r >>= g)
push (Ok x) f g h = h x
push (Err e) f g h = refl

abbrev last_line : Unit {0} × At → Result (Unit {0}) BadLine
last_line e = cond (eqb (length e.1.lines) 0) finished (Err (bad e.1.number Grammar))

abbrev good : Code → Result Code BadLine
good c = Ok c

end_pushed : (c : Code) (r : Result (Unit {0} × At) BadLine) → finish (r >>= λ e. Ok (c, e.1)) ≡ (r >>= last_line >>= λ _. Ok c)
end_pushed c (Err e) = refl
end_pushed c (Ok y) = by (eqb (length y.1.lines) 0)
  where
    by : (b : Bool) → cond b (good c) (Err (bad y.1.number Grammar)) ≡ (cond b finished (Err (bad y.1.number Grammar)) >>= λ _. good c)
    by true = refl
    by false = refl

module _ (version : ℕ) (name : List ℕ) (ps : List Particle) (vs : List Vertex) (p : ProcessLines) where
  abbrev ends_instrs : ℕ → At → Result Code BadLine
  ends_instrs slots a = instrs_at version a >>= λ is. end_at is.1 >>= λ _. Ok (a_code version name ps vs p slots is.0)

  abbrev ends_slots : At → Result Code BadLine
  ends_slots a = slots_at version a >>= λ s. ends_instrs s.0 s.1

  tail_pushed : (a : At) → finish (from_slots version name ps vs p a) ≡ ends_slots a
  tail_pushed a =
      push (slots_at version a) (λ s. from_instrs version name ps vs p s.0 s.1) (λ s. ends_instrs s.0 s.1)
      (λ s. push (instrs_at version s.1) (λ is. with_end (a_code version name ps vs p s.0 is.0) is.1) (λ is. end_at is.1 >>= λ _. Ok (a_code version name ps vs p s.0 is.0))
      (λ is. end_pushed (a_code version name ps vs p s.0 is.0) (one_line end_of is.1)))

abbrev ends_process : ℕ → List ℕ → List Particle → List Vertex → At → Result Code BadLine
ends_process version name ps vs a = process_at ps a >>= λ p. ends_slots version name ps vs p.0 p.1

abbrev ends_vertices : ℕ → List ℕ → List Particle → At → Result Code BadLine
ends_vertices version name ps a = rows_at (codes "vertex") (vertex_row ps) a >>= λ vs. ends_process version name ps vs.0 vs.1

abbrev ends_particles : ℕ → List ℕ → At → Result Code BadLine
ends_particles version name a = particles_at a >>= λ ps. ends_vertices version name ps.0 ps.1

abbrev ends_name : ℕ → At → Result Code BadLine
ends_name version a = one_line model_name_of a >>= λ n. ends_particles version n.0 n.1

rest_pushed : (version : ℕ) (name : List ℕ) (a : At) → finish (from_particles version name a) ≡ ends_particles version name a
rest_pushed version name a =
    push (particles_at a) (λ ps. from_vertices version name ps.0 ps.1) (λ ps. ends_vertices version name ps.0 ps.1)
    (λ ps. push (rows_at (codes "vertex") (vertex_row ps.0) ps.1) (λ vs. from_process version name ps.0 vs.0 vs.1) (λ vs. ends_process version name ps.0 vs.0 vs.1)
    (λ vs. push (process_at ps.0 vs.1) (λ p. from_slots version name ps.0 vs.0 p.0 p.1) (λ p. ends_slots version name ps.0 vs.0 p.0 p.1)
    (λ p. tail_pushed version name ps.0 vs.0 p.0 p.1)))

-- a program is what stands up to its end, where nothing follows
pub program_is : (a : At) → finish (up_to_end a) ≡ program_at a
unfolding program_at
program_is a =
    push (one_line version_of a) (λ v. from_name v.0 v.1) (λ v. ends_name v.0 v.1)
    (λ v. push (one_line model_name_of v.1) (λ n. from_particles v.0 n.0 n.1) (λ n. ends_particles v.0 n.0 n.1)
    (λ n. rest_pushed v.0 n.0 n.1))
