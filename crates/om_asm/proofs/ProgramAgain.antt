-- The lines of a plain code are read as the code.
use Rattle.std.proofs.Common.{◌≡◌, ℕ, ◌+◌, ◌^◌, ◌<◌, ◌≤◌, eqb, ltb, ◌&&◌, Bool, true, false, cond, List, [], ◌∷◌, ◌++◌, length, map, codes, Result, Ok, refl, sym, ap, ◌∙◌, arith, append_assoc}
use Rattle.std.specs.List.{AllByRecursion}
use Rattle.std.specs.Str.{bytes_eq}
use Rattle.std.proofs.lemmas.Bool.{lt-ltb}
use Rattle.om_colour.specs.declared.Flow.{Flow}
use Rattle.om_legs.specs.Legs.{IsLegSet}
use Rattle.om_model.specs.declared.model.Particle.{Particle}
use Rattle.om_model.specs.declared.model.Vertex.{Vertex}
use Rattle.om_code.specs.declared.code.Den.{Den}
use Rattle.om_code.specs.declared.code.Instr.{Instr}
use Rattle.om_code.specs.declared.code.Code.{Code}
use Rattle.om_code.specs.Plain.{IsPlain, IsPlainVertex, IsNamed, IsPlainFlow, IsPlainDen, registers_named}
use Rattle.om_asm.specs.declared.reader.ProcessLines.{ProcessLines}
use Rattle.om_asm.specs.InRange.{ParticleInRange, VertexInRange, CodeInRange}
use Rattle.om_io.specs.Lines.{Words}
use Rattle.om_program_text.specs.ProgramText.{version_words, model_words, particle_words, vertex_words, leg_words, flow_words, den_words, slots_lines, instr_words, end_words, program_lines}
use Rattle.om_asm.specs.Lines.{At}
use Rattle.om_asm.specs.Heads.{version_of, model_name_of}
use Rattle.om_asm.specs.Reading.{particle_row, leg_row, den_row}
use Rattle.om_asm.specs.Vertices.{vertex_row}
use Rattle.om_asm.specs.Flows.{flow_line}
use Rattle.om_asm.specs.Rows.{BadLine, place, formed}
use Rattle.om_ring.specs.ResultSteps.{◌>>=◌}
use Rattle.om_asm.specs.Program.{rows_at, end_at, process_at, slots_number, program_at}
use Rattle.om_asm.proofs.RowLaws.{AllAgain, rows_again, Stops}
use Rattle.om_asm.proofs.LinesAgain.{particle_again, leg_again, den_again}
use Rattle.om_asm.proofs.WordsAgain.{flow_line_again}
use Rattle.om_asm.proofs.FlowsAgain.{flow_again}
use Rattle.om_asm.proofs.VertexAgain.{vertex_again}
use Rattle.om_asm.proofs.InstrsAgain.{instrs_again}
use Rattle.om_asm.proofs.HeadsAgain.{version_again, model_again, line_again, slots_again, end_again, at_place, slots_read, next_number}
use Rattle.om_asm.proofs.Stopping.{AvoidsLast, at_slots, at_dens, at_flows, at_legs, at_vertices}
use Rattle.om_code.specs.declared.code.TheConstants.{MOST_PARTICLE_LINES}
use Rattle.om_model.specs.Rules.{HasLengths}
use Rattle.om_asm.proofs.ProgramLaws.{a_code, from_instrs, from_slots, from_process, from_vertices, from_particles, from_name}

-- ---- each kind of rows

all_particles : (count : ℕ) (ps : List Particle) → count + length ps ≤ MOST_PARTICLE_LINES → AllByRecursion ParticleInRange ps → AllByRecursion HasLengths ps → AllAgain (λ k w. bytes_eq w (codes "particle") && ltb k MOST_PARTICLE_LINES) (λ _ words. particle_row words) particle_words count ps
all_particles count [] n h p = tt
all_particles count (x ∷ xs) n h p = (record { w = codes "particle"; ws = _; line = refl; start = lt-ltb count MOST_PARTICLE_LINES (omega (arith, n)); says = particle_again x h.0 p.0 }, all_particles (count + 1) xs (omega (arith, n)) h.1 p.1)

all_vertices : (ps : List Particle) (count : ℕ) (vs : List Vertex) → AllByRecursion ParticleInRange ps → AllByRecursion VertexInRange vs → AllByRecursion (IsPlainVertex ps) vs → AllAgain (λ _ w. bytes_eq w (codes "vertex")) (λ _ words. vertex_row ps words) (vertex_words ps) count vs
all_vertices ps count [] h r p = tt
all_vertices ps count (x ∷ xs) h r p = (record { w = codes "vertex"; ws = _; line = refl; start = refl; says = vertex_again ps x h r.0 p.0 }, all_vertices ps (count + 1) xs h r.1 p.1)

all_legs : (ps : List Particle) (count : ℕ) (ls : List ℕ) → AllByRecursion ParticleInRange ps → AllByRecursion (IsNamed ps) ls → AllAgain (λ _ w. bytes_eq w (codes "leg")) (λ _ words. leg_row ps words) (leg_words ps) count ls
all_legs ps count [] h p = tt
all_legs ps count (x ∷ xs) h p = (record { w = codes "leg"; ws = _; line = refl; start = refl; says = leg_again ps x h p.0 }, all_legs ps (count + 1) xs h p.1)

all_flows : (count : ℕ) (fs : List Flow) → AllByRecursion (λ w. length w.ends ≡ 12) fs → AllByRecursion IsPlainFlow fs → AllAgain (λ _ w. bytes_eq w (codes "flow")) (λ _ words. formed (flow_line words)) flow_words count fs
all_flows count [] h p = tt
all_flows count (x ∷ xs) h p = (record { w = codes "flow"; ws = _; line = refl; start = refl; says = ap formed (flow_line_again _ x (flow_again x h.0 p.0)) }, all_flows (count + 1) xs h.1 p.1)

pub all_dens : (ps : List Particle) (count : ℕ) (ds : List Den) → AllByRecursion ParticleInRange ps → AllByRecursion (λ d. IsLegSet d.legs) ds → AllByRecursion (IsPlainDen ps) ds → AllAgain (λ _ w. bytes_eq w (codes "den")) (λ _ words. den_row ps words) (den_words ps) count ds
all_dens ps count [] h r p = tt
all_dens ps count (x ∷ xs) h r p = (record { w = codes "den"; ws = _; line = refl; start = refl; says = den_again ps x h r.0 p.0 }, all_dens ps (count + 1) xs h r.1 p.1)

-- ---- the groups of lines

module _ (c : Code) where
  abbrev ps : List Particle
  ps = c.model.particles

  abbrev last_lines : List Words
  last_lines = end_words ∷ []

  abbrev instr_lines : List Words
  instr_lines = map (instr_words c.version) c.instrs ++ last_lines

  abbrev slot_lines : List Words
  slot_lines = slots_lines c.version c.slots ++ instr_lines

  abbrev den_lines : List Words
  den_lines = map (den_words ps) c.dens ++ slot_lines

  abbrev flow_lines : List Words
  flow_lines = map flow_words c.flows ++ den_lines

  abbrev leg_lines : List Words
  leg_lines = map (leg_words ps) c.legs ++ flow_lines

  abbrev vertex_lines : List Words
  vertex_lines = map (vertex_words ps) c.model.vertices ++ leg_lines

  abbrev particle_lines : List Words
  particle_lines = map particle_words ps ++ vertex_lines

  abbrev all_of_it : List Words
  all_of_it = version_words c.version ∷ model_words c.model.name ∷ particle_lines

  -- the lines of the code, grouped to the right
  grouped : program_lines c ≡ all_of_it
  grouped = regroup (version_words c.version ∷ model_words c.model.name ∷ map particle_words ps) (map (vertex_words ps) c.model.vertices) (map (leg_words ps) c.legs) (map flow_words c.flows) (map (den_words ps) c.dens) (slots_lines c.version c.slots) (map (instr_words c.version) c.instrs) last_lines
    where
      regroup : (a vs ls fs ds ss is e : List Words) → a ++ vs ++ ls ++ fs ++ ds ++ ss ++ is ++ e ≡ a ++ (vs ++ (ls ++ (fs ++ (ds ++ (ss ++ (is ++ e))))))
      regroup a vs ls fs ds ss is e = simp append_assoc

  avoids : (key : List ℕ) → bytes_eq (codes "load") key ≡ false → bytes_eq (codes "fuse") key ≡ false → bytes_eq (codes "prop") key ≡ false → bytes_eq (codes "key") key ≡ false → bytes_eq (codes "end") key ≡ false → bytes_eq (codes "slots") key ≡ false → AvoidsLast (λ _ w. bytes_eq w key)
  avoids key l f p k e s = record { loads = λ _. l; fuses = λ _. f; props = λ _. p; keys = λ _. k; ends = λ _. e; slots = λ _. s }

  abbrev by_key : List ℕ → ℕ → List ℕ → Bool
  by_key key _ w = bytes_eq w key

  dens_stop : Stops (by_key (codes "den")) slot_lines
  dens_stop = at_slots (by_key (codes "den")) (avoids (codes "den") refl refl refl refl refl refl) c.version c.slots c.instrs

  flows_stop : Stops (by_key (codes "flow")) den_lines
  flows_stop = at_dens (by_key (codes "flow")) (λ _. refl) ps c.dens slot_lines (at_slots (by_key (codes "flow")) (avoids (codes "flow") refl refl refl refl refl refl) c.version c.slots c.instrs)

  legs_stop : Stops (by_key (codes "leg")) flow_lines
  legs_stop = at_flows (by_key (codes "leg")) (λ _. refl) c.flows den_lines (at_dens (by_key (codes "leg")) (λ _. refl) ps c.dens slot_lines (at_slots (by_key (codes "leg")) (avoids (codes "leg") refl refl refl refl refl refl) c.version c.slots c.instrs))

  vertices_stop : Stops (by_key (codes "vertex")) leg_lines
  vertices_stop = at_legs (by_key (codes "vertex")) (λ _. refl) ps c.legs flow_lines (at_flows (by_key (codes "vertex")) (λ _. refl) c.flows den_lines (at_dens (by_key (codes "vertex")) (λ _. refl) ps c.dens slot_lines (at_slots (by_key (codes "vertex")) (avoids (codes "vertex") refl refl refl refl refl refl) c.version c.slots c.instrs)))

  abbrev few : ℕ → List ℕ → Bool
  few count w = bytes_eq w (codes "particle") && ltb count MOST_PARTICLE_LINES

  particles_stop : Stops few vertex_lines
  particles_stop = at_vertices few (λ _. refl) ps c.model.vertices leg_lines (at_legs few (λ _. refl) ps c.legs flow_lines (at_flows few (λ _. refl) c.flows den_lines (at_dens few (λ _. refl) ps c.dens slot_lines (at_slots few (record { loads = λ _. refl; fuses = λ _. refl; props = λ _. refl; keys = λ _. refl; ends = λ _. refl; slots = λ _. refl }) c.version c.slots c.instrs))))

  abbrev a_process : List ℕ → List Flow → List Den → ProcessLines
  a_process legs flows dens = record { legs = legs; flows = flows; dens = dens }

  abbrev the_process : ProcessLines
  the_process = a_process c.legs c.flows c.dens

  process_again : (number : ℕ) (plain : IsPlain c) (range : CodeInRange c) → process_at ps (place number leg_lines) ≡ at_place the_process (number + length c.legs + length c.flows + length c.dens) slot_lines
  unfolding process_at
  process_again number plain range =
      let l = rows_again (by_key (codes "leg")) (λ _ words. leg_row ps words) (leg_words ps) 0 number c.legs flow_lines (all_legs ps 0 c.legs range.particles plain.legs) legs_stop in
      let f = rows_again (by_key (codes "flow")) (λ _ words. formed (flow_line words)) flow_words 0 (number + length c.legs) c.flows den_lines (all_flows 0 c.flows range.flows plain.flows) flows_stop in
      let d = rows_again (by_key (codes "den")) (λ _ words. den_row ps words) (den_words ps) 0 (number + length c.legs + length c.flows) c.dens slot_lines (all_dens ps 0 c.dens range.particles range.dens plain.dens) dens_stop in
      ap (λ (r : Result (List ℕ × At) BadLine). r >>= λ legs. rows_at (codes "flow") (λ words. formed (flow_line words)) legs.1 >>= λ flows. rows_at (codes "den") (den_row ps) flows.1 >>= λ dens. at_place (a_process legs.0 flows.0 dens.0) dens.1.number dens.1.lines) l
      ∙ ap (λ (r : Result (List Flow × At) BadLine). r >>= λ flows. rows_at (codes "den") (den_row ps) flows.1 >>= λ dens. at_place (a_process c.legs flows.0 dens.0) dens.1.number dens.1.lines) f
      ∙ ap (λ (r : Result (List Den × At) BadLine). r >>= λ dens. at_place (a_process c.legs c.flows dens.0) dens.1.number dens.1.lines) d

  slots_same : (plain : IsPlain c) → slots_number c.version (slots_read c.version c.slots) c.instrs ≡ c.slots
  slots_same plain = by (eqb c.version 1) plain.slots
    where
      by : (b : Bool) → cond b (c.slots ≡ registers_named c.instrs) (c.slots < 2 ^ 32) → cond b (registers_named c.instrs) (cond b 0 c.slots) ≡ c.slots
      by true e = sym e
      by false e = refl

  slots_count : (plain : IsPlain c) → cond (eqb c.version 1) (Unit {0}) (c.slots < 2 ^ 32)
  slots_count plain = by (eqb c.version 1) plain.slots
    where
      by : (b : Bool) → cond b (c.slots ≡ registers_named c.instrs) (c.slots < 2 ^ 32) → cond b (Unit {0}) (c.slots < 2 ^ 32)
      by true e = tt
      by false e = e

  tail_again : (number : ℕ) (plain : IsPlain c) (range : CodeInRange c) → from_slots c.version c.model.name ps c.model.vertices the_process (place number slot_lines) ≡ Ok c
  tail_again number plain range =
      let next = next_number c.version number in
      let s = slots_again c.version c.slots number instr_lines (slots_count plain) in
      let i = instrs_again c.version next c.instrs last_lines plain.parts plain.instrs range.instrs (refl, (refl, refl)) in
      let e = end_again (next + length c.instrs) in
      ap (λ (r : Result (ℕ × At) BadLine). r >>= λ s. from_instrs c.version c.model.name ps c.model.vertices the_process s.0 s.1) s
      ∙ ap (λ (r : Result (List Instr × At) BadLine). r >>= λ is. end_at is.1 >>= λ _. Ok (a_code c.version c.model.name ps c.model.vertices the_process (slots_read c.version c.slots) is.0)) i
      ∙ ap (λ (r : Result (Unit {0}) BadLine). r >>= λ _. Ok (a_code c.version c.model.name ps c.model.vertices the_process (slots_read c.version c.slots) c.instrs)) e
      ∙ ap (λ k. let d : Code = record c { slots = k } in Ok d) (slots_same plain)

  program_right : (plain : IsPlain c) (range : CodeInRange c) → program_at (place 1 all_of_it) ≡ Ok c
  unfolding program_at
  program_right plain range =
      let v = line_again version_of (version_words c.version) c.version 1 (model_words c.model.name ∷ particle_lines) (version_again c.version plain.version) in
      let n = line_again model_name_of (model_words c.model.name) c.model.name 2 particle_lines (model_again c.model.name range.name) in
      let p = rows_again few (λ _ words. particle_row words) particle_words 0 3 ps vertex_lines (all_particles 0 ps (omega (arith, plain.few_particles)) range.particles plain.particles) particles_stop in
      let w = rows_again (by_key (codes "vertex")) (λ _ words. vertex_row ps words) (vertex_words ps) 0 (3 + length ps) c.model.vertices leg_lines (all_vertices ps 0 c.model.vertices range.particles range.vertices plain.vertices) vertices_stop in
      let number = 3 + length ps + length c.model.vertices in
      ap (λ (r : Result (ℕ × At) BadLine). r >>= λ v. from_name v.0 v.1) v
      ∙ ap (λ (r : Result (List ℕ × At) BadLine). r >>= λ n. from_particles c.version n.0 n.1) n
      ∙ ap (λ (r : Result (List Particle × At) BadLine). r >>= λ q. from_vertices c.version c.model.name q.0 q.1) p
      ∙ ap (λ (r : Result (List Vertex × At) BadLine). r >>= λ vs. from_process c.version c.model.name ps vs.0 vs.1) w
      ∙ ap (λ (r : Result (ProcessLines × At) BadLine). r >>= λ q. from_slots c.version c.model.name ps c.model.vertices q.0 q.1) (process_again number plain range)
      ∙ tail_again (number + length c.legs + length c.flows + length c.dens) plain range

  -- the lines of a plain code are read as the code
  pub program_again : (plain : IsPlain c) (range : CodeInRange c) → program_at (place 1 (program_lines c)) ≡ Ok c
  program_again plain range = ap (λ ls. program_at (place 1 ls)) grouped ∙ program_right plain range
