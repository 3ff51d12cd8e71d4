-- A program text that is read is the text of its code, and the code is plain.
use Rattle.std.proofs.Common.{◌≡◌, ℕ, ◌+◌, ◌^◌, ◌<◌, ◌≤◌, ◌⊎◌, eqb, ltb, ◌&&◌, Bool, true, false, cond, List, [], ◌∷◌, ◌++◌, length, map, codes, Result, Ok, Err, refl, sym, ap, ap₂, subst, ◌∙◌, arith, append_assoc}
use Rattle.std.specs.Prelude.{IfOk}
use Rattle.std.specs.List.{AllByRecursion}
use Rattle.std.specs.Str.{bytes_eq}
use Rattle.std.proofs.lemmas.Bool.{eqb-true}
use Rattle.om_colour.specs.declared.Flow.{Flow}
use Rattle.om_model.specs.declared.model.Particle.{Particle}
use Rattle.om_model.specs.declared.model.Vertex.{Vertex}
use Rattle.om_code.specs.declared.code.Den.{Den}
use Rattle.om_code.specs.declared.code.Instr.{Instr}
use Rattle.om_code.specs.declared.code.Code.{Code}
use Rattle.om_code.specs.Plain.{IsPlain, IsPlainVertex, IsNamed, IsPlainFlow, IsPlainDen, IsPlainInstr, InParts, AreSlots}
use Rattle.om_asm.specs.declared.fault.AsmKind.TheVariants.{Grammar}
use Rattle.om_asm.specs.declared.reader.ProcessLines.{ProcessLines}
use Rattle.om_io.specs.Lines.{Words}
use Rattle.om_program_text.specs.ProgramText.{version_words, model_words, particle_words, vertex_words, leg_words, flow_words, den_words, slots_lines, instr_words, end_words, program_lines}
use Rattle.om_asm.specs.Lines.{At}
use Rattle.om_asm.specs.Heads.{version_of, version_word, model_name_of, end_of}
use Rattle.om_asm.specs.Reading.{name_of, particle_row, leg_row, den_row}
use Rattle.om_asm.specs.Vertices.{vertex_row}
use Rattle.om_asm.specs.Flows.{flow_line}
use Rattle.om_asm.specs.Rows.{BadLine, bad, formed, instrs_at}
use Rattle.om_ring.specs.ResultSteps.{◌>>=◌}
use Rattle.om_asm.specs.Program.{one_line, rows_at, particles_at, slots_at, end_at, process_at, slots_number, program_at}
use Rattle.om_legs.specs.Legs.{IsLegSet}
use Rattle.om_model.specs.Name.{is_name}
use Rattle.om_asm.specs.InRange.{ParticleInRange, VertexInRange, InstrInRange, CodeInRange}
use Rattle.om_asm.proofs.ModelWords.{IsReadableFlow}
use Rattle.om_asm.proofs.SpeltLemmas.{same_bytes}
use Rattle.om_asm.proofs.OneLine.{keyed_none, end_none}
use Rattle.om_asm.proofs.RowLaws.{bind_ok, formed_ok, RowsFound, rows_found}
use Rattle.om_asm.proofs.FewRows.{few_rows}
use Rattle.om_asm.proofs.InstrRows.{instrs_found, AreInstrs}
use Rattle.om_asm.proofs.HeadLaws.{version_found, name_found, end_found, line_found, slots_found, IsSlotCount, a_place}
use Rattle.om_asm.proofs.ModelLaws.{particle_found, leg_found, den_found}
use Rattle.om_asm.proofs.FlowLaws.{flow_found}
use Rattle.om_asm.proofs.VertexLaws.{vertex_found}
use Rattle.om_code.specs.declared.code.TheConstants.{MOST_PARTICLE_LINES}
use Rattle.om_model.specs.Rules.{HasLengths}

-- ---- each kind of rows

under : (w key : List ℕ) (ws line : Words) → bytes_eq w key ≡ true → key ∷ ws ≡ line → w ∷ ws ≡ line
under w key ws line b e = ap (λ (v : List ℕ). v ∷ ws) (same_bytes w key b) ∙ e

both_true : (a b : Bool) → (a && b) ≡ true → a ≡ true
both_true true b e = refl
both_true false b e = cc

-- a row that has a text and is within its types
abbrev ReadableParticle : Particle → Type 0
ReadableParticle p = HasLengths p × ParticleInRange p

abbrev ReadableVertex : List Particle → Vertex → Type 0
ReadableVertex ps v = IsPlainVertex ps v × VertexInRange v

abbrev ReadableDen : List Particle → Den → Type 0
ReadableDen ps d = IsPlainDen ps d × IsLegSet d.legs

particles_law : RowsFound (λ count w. bytes_eq w (codes "particle") && ltb count MOST_PARTICLE_LINES) (λ _ words. particle_row words) particle_words ReadableParticle
particles_law count w ws x s e = let f = particle_found ws x e in (under w (codes "particle") ws (particle_words x) (both_true (bytes_eq w (codes "particle")) (ltb count MOST_PARTICLE_LINES) s) f.0, (f.1, f.2))

vertices_law : (ps : List Particle) → RowsFound (λ _ w. bytes_eq w (codes "vertex")) (λ _ words. vertex_row ps words) (vertex_words ps) (ReadableVertex ps)
vertices_law ps count w ws x s e = let f = vertex_found ps ws x e in (under w (codes "vertex") ws (vertex_words ps x) s f.0, (f.1, f.2))

legs_law : (ps : List Particle) → RowsFound (λ _ w. bytes_eq w (codes "leg")) (λ _ words. leg_row ps words) (leg_words ps) (IsNamed ps)
legs_law ps count w ws x s e = let f = leg_found ps ws x e in (under w (codes "leg") ws (leg_words ps x) s f.0, f.1)

flows_law : RowsFound (λ _ w. bytes_eq w (codes "flow")) (λ _ words. formed (flow_line words)) flow_words IsReadableFlow
flows_law count w ws x s e = let f = flow_found ws x (formed_ok (flow_line ws) x e) in (under w (codes "flow") ws (flow_words x) s f.0, f.1)

dens_law : (ps : List Particle) → RowsFound (λ _ w. bytes_eq w (codes "den")) (λ _ words. den_row ps words) (den_words ps) (ReadableDen ps)
dens_law ps count w ws x s e = let f = den_found ps ws x e in (under w (codes "den") ws (den_words ps x) s f.0, (f.1, f.2))

-- ---- the parts of a program

firsts : {A : Type 0} (P Q : A → Type 0) (xs : List A) → AllByRecursion (λ x. P x × Q x) xs → AllByRecursion P xs
firsts P Q [] h = tt
firsts P Q (x ∷ xs) h = (h.0.0, firsts P Q xs h.1)

seconds : {A : Type 0} (P Q : A → Type 0) (xs : List A) → AllByRecursion (λ x. P x × Q x) xs → AllByRecursion Q xs
seconds P Q [] h = tt
seconds P Q (x ∷ xs) h = (h.0.1, seconds P Q xs h.1)

-- lines, and others behind them
pub behind_both : (lines a b middle rest : List Words) → lines ≡ a ++ middle → middle ≡ b ++ rest → lines ≡ (a ++ b) ++ rest
behind_both lines a b middle rest e f = e ∙ ap (λ (ls : List Words). a ++ ls) f ∙ sym (append_assoc a b rest)

record ProcessRead (ps : List Particle) (lines : List Words) (p : ProcessLines) (rest : List Words) : Type 0 where
  texts : lines ≡ (map (leg_words ps) p.legs ++ map flow_words p.flows) ++ map (den_words ps) p.dens ++ rest
  legs : AllByRecursion (IsNamed ps) p.legs
  flows : AllByRecursion IsReadableFlow p.flows
  dens : AllByRecursion (ReadableDen ps) p.dens

abbrev pub a_process : List ℕ → List Flow → List Den → ProcessLines
a_process legs flows dens = record { legs = legs; flows = flows; dens = dens }

by_process : (ps : List Particle) (lines middle1 middle2 rest : List Words) (ls : List ℕ) (fs : List Flow) (ds : List Den) (y : ProcessLines × At) → (a_process ls fs ds, y.1) ≡ y → rest ≡ y.1.lines
    → lines ≡ map (leg_words ps) ls ++ middle1 → middle1 ≡ map flow_words fs ++ middle2 → middle2 ≡ map (den_words ps) ds ++ rest
    → AllByRecursion (IsNamed ps) ls → AllByRecursion IsReadableFlow fs → AllByRecursion (ReadableDen ps) ds → ProcessRead ps lines y.0 y.1.lines
by_process ps lines middle1 middle2 rest ls fs ds y same here e f g hl hf hd =
    let two = behind_both lines (map (leg_words ps) ls) (map flow_words fs) middle1 middle2 e f in
    let three = behind_both lines (map (leg_words ps) ls ++ map flow_words fs) (map (den_words ps) ds) middle2 rest two g in
    subst (λ (q : ProcessLines × At). ProcessRead ps lines q.0 y.1.lines) same (record { texts = three ∙ ap (λ (r : List Words). (map (leg_words ps) ls ++ map flow_words fs) ++ map (den_words ps) ds ++ r) here; legs = hl; flows = hf; dens = hd })

process_found : (ps : List Particle) (a : At) (y : ProcessLines × At) → process_at ps a ≡ Ok y → ProcessRead ps a.lines y.0 y.1.lines
unfolding process_at
process_found ps a y e =
    let l = bind_ok (rows_at (codes "leg") (leg_row ps) a) (λ legs. rows_at (codes "flow") (λ words. formed (flow_line words)) legs.1 >>= λ flows. rows_at (codes "den") (den_row ps) flows.1 >>= λ dens. Ok (a_place (a_process legs.0 flows.0 dens.0) dens.1)) y e in
    let f = bind_ok (rows_at (codes "flow") (λ words. formed (flow_line words)) l.0.1) (λ flows. rows_at (codes "den") (den_row ps) flows.1 >>= λ dens. Ok (a_place (a_process l.0.0 flows.0 dens.0) dens.1)) y l.2 in
    let d = bind_ok (rows_at (codes "den") (den_row ps) f.0.1) (λ dens. Ok (a_place (a_process l.0.0 f.0.0 dens.0) dens.1)) y f.2 in
    let ls = rows_found (λ _ w. bytes_eq w (codes "leg")) (λ _ words. leg_row ps words) (leg_words ps) (IsNamed ps) (legs_law ps) 0 a.number a.lines l.0.0 l.0.1 l.1 in
    let fs = rows_found (λ _ w. bytes_eq w (codes "flow")) (λ _ words. formed (flow_line words)) flow_words IsReadableFlow flows_law 0 l.0.1.number l.0.1.lines f.0.0 f.0.1 f.1 in
    let ds = rows_found (λ _ w. bytes_eq w (codes "den")) (λ _ words. den_row ps words) (den_words ps) (ReadableDen ps) (dens_law ps) 0 f.0.1.number f.0.1.lines d.0.0 d.0.1 d.1 in
    let same : a_place (a_process l.0.0 f.0.0 d.0.0) d.0.1 ≡ y = let h = d.2 in cc in
    let here : d.0.1.lines ≡ y.1.lines = ap (λ (q : ProcessLines × At). q.1.lines) same in
    by_process ps a.lines l.0.1.lines f.0.1.lines d.0.1.lines l.0.0 f.0.0 d.0.0 y (ap (λ (q : ProcessLines × At). (q.0, y.1)) same) here ls.parts fs.parts ds.parts ls.fit fs.fit ds.fit

-- ---- what follows the process

abbrev pub a_code : ℕ → List ℕ → List Particle → List Vertex → ProcessLines → ℕ → List Instr → Code
a_code version name ps vs p slots is = record {
  version = version;
  model = record { name = name; particles = ps; vertices = vs };
  legs = p.legs;
  flows = p.flows;
  dens = p.dens;
  slots = slots_number version slots is;
  instrs = is;
}

abbrev pub from_instrs : ℕ → List ℕ → List Particle → List Vertex → ProcessLines → ℕ → At → Result Code BadLine
from_instrs version name ps vs p slots a = instrs_at version a >>= λ is. end_at is.1 >>= λ _. Ok (a_code version name ps vs p slots is.0)

abbrev pub from_slots : ℕ → List ℕ → List Particle → List Vertex → ProcessLines → At → Result Code BadLine
from_slots version name ps vs p a = slots_at version a >>= λ s. from_instrs version name ps vs p s.0 s.1

abbrev ending : Bool → ℕ → Result (Unit {0}) BadLine
ending b n = cond b (Ok tt) (Err (bad n Grammar))

nothing_behind : (ls : List Words) (n : ℕ) (x : Unit {0}) → ending (eqb (length ls) 0) n ≡ Ok x → ls ≡ []
nothing_behind [] n x h = refl
nothing_behind (l ∷ ls) n x h = by (eqb (length (l ∷ ls)) 0) refl h
  where
    by : (b : Bool) → eqb (length (l ∷ ls)) 0 ≡ b → ending b n ≡ Ok x → l ∷ ls ≡ []
    by true t g = absurd (let z = eqb-true (length (l ∷ ls)) 0 t in omega arith)
    by false t g = absurd cc

end_lines : (a : At) (x : Unit {0}) → end_at a ≡ Ok x → a.lines ≡ end_words ∷ []
end_lines a x e =
    let b = bind_ok (one_line end_of a) (λ y. ending (eqb (length y.1.lines) 0) y.1.number) x e in
    let l = line_found end_of b.0.0 a b.0.1 end_none b.1 in
    l.1 ∙ ap₂ (λ (v : Words) (vs : List Words). v ∷ vs) (end_found l.0 b.0.0 l.2) (nothing_behind b.0.1.lines b.0.1.number x b.2)

record TailRead (version : ℕ) (name : List ℕ) (ps : List Particle) (vs : List Vertex) (p : ProcessLines) (lines : List Words) (c : Code) : Type 0 where
  slots : ℕ
  code : c ≡ a_code version name ps vs p slots c.instrs
  texts : lines ≡ (slots_lines version slots ++ map (instr_words version) c.instrs) ++ end_words ∷ []
  count : IsSlotCount version slots
  plain : AllByRecursion (IsPlainInstr version) c.instrs
  range : AllByRecursion InstrInRange c.instrs
  order : InParts 0 c.instrs

by_tail : (version : ℕ) (name : List ℕ) (ps : List Particle) (vs : List Vertex) (p : ProcessLines) (lines middle1 middle2 : List Words) (slots : ℕ) (is : List Instr) (c : Code) → a_code version name ps vs p slots is ≡ c
    → lines ≡ slots_lines version slots ++ middle1 → IsSlotCount version slots → AreInstrs version middle1 is middle2 → middle2 ≡ end_words ∷ [] → TailRead version name ps vs p lines c
by_tail version name ps vs p lines middle1 middle2 slots is c same e count f g =
    let two = behind_both lines (slots_lines version slots) (map (instr_words version) is) middle1 middle2 e f.parts in
    subst (λ (q : Code). TailRead version name ps vs p lines q) same
    (record { slots = slots; code = refl; texts = two ∙ ap (λ (r : List Words). (slots_lines version slots ++ map (instr_words version) is) ++ r) g; count = count; plain = f.plain; range = f.range; order = f.order })

abbrev good : Code → Result Code BadLine
good c = Ok c

code_same : (x y : Code) → good x ≡ good y → x ≡ y
code_same x y e = cc

tail_found : (version : ℕ) (name : List ℕ) (ps : List Particle) (vs : List Vertex) (p : ProcessLines) (a : At) (c : Code) → from_slots version name ps vs p a ≡ Ok c → TailRead version name ps vs p a.lines c
tail_found version name ps vs p a c e =
    let s = bind_ok (slots_at version a) (λ s. from_instrs version name ps vs p s.0 s.1) c e in
    let i = bind_ok (instrs_at version s.0.1) (λ is. end_at is.1 >>= λ _. Ok (a_code version name ps vs p s.0.0 is.0)) c s.2 in
    let z = bind_ok (end_at i.0.1) (λ _. Ok (a_code version name ps vs p s.0.0 i.0.0)) c i.2 in
    let sl = slots_found version s.0.0 a s.0.1 s.1 in
    by_tail version name ps vs p a.lines s.0.1.lines i.0.1.lines s.0.0 i.0.0 c (code_same (a_code version name ps vs p s.0.0 i.0.0) c z.2) sl.0 sl.1 (instrs_found version s.0.1 i.0 i.1) (end_lines i.0.1 z.0 z.1)

-- ---- the whole program

pub record ProgramRead (lines : List Words) (c : Code) : Type 0 where
  pub texts : lines ≡ program_lines c
  pub plain : IsPlain c
  pub range : CodeInRange c

few_said : {A : Type 0} (xs : List A) (now : At) (r : Result (List A × At) BadLine) → IfOk r (λ x. 0 + length x.0 ≤ MOST_PARTICLE_LINES) → r ≡ Ok (a_place xs now) → length xs ≤ MOST_PARTICLE_LINES
few_said {A} xs now (Ok y) f e = let same : y ≡ a_place xs now = cc in omega (arith, ap (λ (p : List A × At). length p.0) same, f)
few_said xs now (Err d) f e = absurd cc

slot_lines_same : (version slots : ℕ) (is : List Instr) → slots_lines version slots ≡ slots_lines version (slots_number version slots is)
slot_lines_same version slots is = by (eqb version 1) refl
  where
    by : (b : Bool) → eqb version 1 ≡ b → slots_lines version slots ≡ slots_lines version (slots_number version slots is)
    by true t = rw t refl
    by false t = rw t refl

slots_are : (version slots : ℕ) (is : List Instr) → IsSlotCount version slots → AreSlots version (slots_number version slots is) is
slots_are version slots is h = by (eqb version 1) refl h
  where
    by : (b : Bool) → eqb version 1 ≡ b → cond b (Unit {0}) (slots < 2 ^ 32) → AreSlots version (slots_number version slots is) is
    by true t g = rw t refl
    by false t g = rw t g

-- all lines, one after the other
all_lines : (lines r0 r1 r2 r3 r4 : List Words) (v m : Words) (ps vs lf ds si e : List Words) → lines ≡ v ∷ r0 → r0 ≡ m ∷ r1 → r1 ≡ ps ++ r2 → r2 ≡ vs ++ r3 → r3 ≡ lf ++ ds ++ r4 → r4 ≡ si ++ e → lines ≡ (v ∷ m ∷ ps) ++ vs ++ (lf ++ ds) ++ (si ++ e)
all_lines lines r0 r1 r2 r3 r4 v m ps vs lf ds si e a b c d f g =
    a ∙ ap (λ (r : List Words). v ∷ r) (b ∙ ap (λ (r : List Words). m ∷ r) (c ∙ ap (λ (r : List Words). ps ++ r) (d ∙ ap (λ (r : List Words). vs ++ r) (f ∙ ap (λ (r : List Words). lf ++ ds ++ r) g))))
    ∙ sym (append_assoc (v ∷ m ∷ ps) vs ((lf ++ ds) ++ (si ++ e)))
    ∙ sym (append_assoc ((v ∷ m ∷ ps) ++ vs) (lf ++ ds) (si ++ e))

regroup : (a vs ls fs ds ss is e : List Words) → a ++ vs ++ ((ls ++ fs) ++ ds) ++ ((ss ++ is) ++ e) ≡ a ++ vs ++ ls ++ fs ++ ds ++ ss ++ is ++ e
regroup a vs ls fs ds ss is e = simp append_assoc

abbrev pub from_process : ℕ → List ℕ → List Particle → List Vertex → At → Result Code BadLine
from_process version name ps vs a = process_at ps a >>= λ p. from_slots version name ps vs p.0 p.1

abbrev pub from_vertices : ℕ → List ℕ → List Particle → At → Result Code BadLine
from_vertices version name ps a = rows_at (codes "vertex") (vertex_row ps) a >>= λ vs. from_process version name ps vs.0 vs.1

abbrev pub from_particles : ℕ → List ℕ → At → Result Code BadLine
from_particles version name a = particles_at a >>= λ ps. from_vertices version name ps.0 ps.1

abbrev pub from_name : ℕ → At → Result Code BadLine
from_name version a = one_line model_name_of a >>= λ n. from_particles version n.0 n.1

abbrev two_versions : ℕ → Type 0
two_versions v = (v ≡ 1) ⊎ (v ≡ 2)

by_code : (version : ℕ) (name : List ℕ) (ps : List Particle) (vs : List Vertex) (p : ProcessLines) (slots : ℕ) (is : List Instr) (lines r0 r1 r2 r3 r4 : List Words) → two_versions version
    → lines ≡ version_words version ∷ r0 → r0 ≡ model_words name ∷ r1 → r1 ≡ map particle_words ps ++ r2 → r2 ≡ map (vertex_words ps) vs ++ r3 → ProcessRead ps r3 p r4
    → r4 ≡ (slots_lines version slots ++ map (instr_words version) is) ++ end_words ∷ []
    → is_name name ≡ true → AllByRecursion ReadableParticle ps → length ps ≤ MOST_PARTICLE_LINES → AllByRecursion (ReadableVertex ps) vs → IsSlotCount version slots → AllByRecursion (IsPlainInstr version) is → AllByRecursion InstrInRange is → InParts 0 is
    → ProgramRead lines (a_code version name ps vs p slots is)
by_code version name ps vs p slots is lines r0 r1 r2 r3 r4 two a b c d f g hn hp few hv hs hi hr order =
    let slot_lines = ap (λ (ls : List Words). (ls ++ map (instr_words version) is) ++ end_words ∷ []) (slot_lines_same version slots is) in
    let whole = all_lines lines r0 r1 r2 r3 r4 (version_words version) (model_words name) (map particle_words ps) (map (vertex_words ps) vs) (map (leg_words ps) p.legs ++ map flow_words p.flows) (map (den_words ps) p.dens)
    (slots_lines version (slots_number version slots is) ++ map (instr_words version) is) (end_words ∷ []) a b c d f.texts (g ∙ slot_lines) in
    record {
      texts = whole ∙ regroup (version_words version ∷ model_words name ∷ map particle_words ps) (map (vertex_words ps) vs) (map (leg_words ps) p.legs) (map flow_words p.flows) (map (den_words ps) p.dens) (slots_lines version (slots_number version slots is)) (map (instr_words version) is) (end_words ∷ []);
      plain = record {
        version = two;
        few_particles = few;
        particles = firsts HasLengths ParticleInRange ps hp;
        vertices = firsts (IsPlainVertex ps) VertexInRange vs hv;
        legs = f.legs;
        flows = firsts IsPlainFlow (λ w. length w.ends ≡ 12) p.flows f.flows;
        dens = firsts (IsPlainDen ps) (λ d. IsLegSet d.legs) p.dens f.dens;
        slots = slots_are version slots is hs;
        instrs = hi;
        parts = order;
      };
      range = record {
        name = hn;
        particles = seconds HasLengths ParticleInRange ps hp;
        vertices = seconds (IsPlainVertex ps) VertexInRange vs hv;
        flows = seconds IsPlainFlow (λ w. length w.ends ≡ 12) p.flows f.flows;
        dens = seconds (IsPlainDen ps) (λ d. IsLegSet d.legs) p.dens f.dens;
        instrs = hr;
      };
    }

by_model : (version : ℕ) (name : List ℕ) (ps : List Particle) (vs : List Vertex) (p : ProcessLines) (lines r0 r1 r2 r3 r4 : List Words) (c : Code) → two_versions version
    → lines ≡ version_words version ∷ r0 → r0 ≡ model_words name ∷ r1 → r1 ≡ map particle_words ps ++ r2 → r2 ≡ map (vertex_words ps) vs ++ r3 → ProcessRead ps r3 p r4 → TailRead version name ps vs p r4 c
    → is_name name ≡ true → AllByRecursion ReadableParticle ps → length ps ≤ MOST_PARTICLE_LINES → AllByRecursion (ReadableVertex ps) vs → ProgramRead lines c
by_model version name ps vs p lines r0 r1 r2 r3 r4 c two a b d f g t hn hp few hv =
    subst (λ (q : Code). ProgramRead lines q) (sym t.code) (by_code version name ps vs p t.slots c.instrs lines r0 r1 r2 r3 r4 two a b d f g t.texts hn hp few hv t.count t.plain t.range t.order)

-- what is read is the code that the lines spell, and it is plain
pub program_found : (a : At) (c : Code) → program_at a ≡ Ok c → ProgramRead a.lines c
unfolding program_at
program_found a c e =
    let v = bind_ok (one_line version_of a) (λ v. from_name v.0 v.1) c e in
    let n = bind_ok (one_line model_name_of v.0.1) (λ n. from_particles v.0.0 n.0 n.1) c v.2 in
    let p = bind_ok (particles_at n.0.1) (λ ps. from_vertices v.0.0 n.0.0 ps.0 ps.1) c n.2 in
    let w = bind_ok (rows_at (codes "vertex") (vertex_row p.0.0) p.0.1) (λ vs. from_process v.0.0 n.0.0 p.0.0 vs.0 vs.1) c p.2 in
    let q = bind_ok (process_at p.0.0 w.0.1) (λ q. from_slots v.0.0 n.0.0 p.0.0 w.0.0 q.0 q.1) c w.2 in
    let lv = line_found version_of v.0.0 a v.0.1 (keyed_none (codes "omega") version_word) v.1 in
    let ln = line_found model_name_of n.0.0 v.0.1 n.0.1 (keyed_none (codes "model") name_of) n.1 in
    let fv = version_found lv.0 v.0.0 lv.2 in
    let fn = name_found ln.0 n.0.0 ln.2 in
    let ps = rows_found (λ count u. bytes_eq u (codes "particle") && ltb count MOST_PARTICLE_LINES) (λ _ words. particle_row words) particle_words ReadableParticle particles_law 0 n.0.1.number n.0.1.lines p.0.0 p.0.1 p.1 in
    let few = few_said p.0.0 p.0.1 (particles_at n.0.1) (few_rows (λ u. bytes_eq u (codes "particle")) (λ _ words. particle_row words) 0 n.0.1.number n.0.1.lines (omega arith)) p.1 in
    let vs = rows_found (λ _ u. bytes_eq u (codes "vertex")) (λ _ words. vertex_row p.0.0 words) (vertex_words p.0.0) (ReadableVertex p.0.0) (vertices_law p.0.0) 0 p.0.1.number p.0.1.lines w.0.0 w.0.1 w.1 in
    by_model v.0.0 n.0.0 p.0.0 w.0.0 q.0.0 a.lines v.0.1.lines n.0.1.lines p.0.1.lines w.0.1.lines q.0.1.lines c fv.1
    (lv.1 ∙ ap (λ (l : Words). l ∷ v.0.1.lines) fv.0) (ln.1 ∙ ap (λ (l : Words). l ∷ n.0.1.lines) fn.0) ps.parts vs.parts (process_found p.0.0 w.0.1 q.0 q.1)
    (tail_found v.0.0 n.0.0 p.0.0 w.0.0 q.0.0 q.0.1 c q.2) fn.1 ps.fit few vs.fit
