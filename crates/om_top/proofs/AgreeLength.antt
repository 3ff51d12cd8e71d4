-- The text of the code of a graph is short enough for a program file.
use Rattle.std.proofs.Common.{◌≡◌, ℕ, ◌+◌, ◌*◌, ◌<◌, ◌≤◌, ◌^◌, List, [], ◌∷◌, ◌++◌, length, map, refl, ap, sym, subst, arith}
use Rattle.std.specs.Prelude.{codes, decimal}
use Rattle.std.specs.List.{AllByRecursion}
use Rattle.std.proofs.lemmas.Fmt.{length-decimal-le}
use Rattle.om_ring.specs.Ops.{Ops}
use Rattle.om_colour.specs.declared.Flow.{Flow}
use Rattle.om_model.specs.Model.{anti_field}
use Rattle.om_model.specs.ProcessOf.{IsProcessOf}
use Rattle.om_model.specs.Rules.{HasLengths, IsAccepted}
use Rattle.om_model.specs.WellFormed.{IsWellFormed}
use Rattle.om_model.specs.declared.model.Model.{Model}
use Rattle.om_model.specs.declared.process.Process.{Process}
use Rattle.om_graph.specs.declared.Graph.{Graph}
use Rattle.om_graph.specs.declared.Key.{Key}
use Rattle.om_keystone.proofs.BuiltGraph.{canonical_is_built}
use Rattle.om_code.specs.declared.code.Code.{Code}
use Rattle.om_code.specs.Contents.{NamesSlots}
use Rattle.om_code.specs.Ops.{op_of}
use Rattle.om_code.specs.Plain.{IsPlainDen, IsPlainFlow, IsPlainInstr, IsPlainVertex}
use Rattle.om_code.specs.SlotPlans.{first_fit}
use Rattle.om_code.specs.Verified.{IsVerified}
use Rattle.om_emit.specs.GraphCode.{IsCodeOf, den_place, key_op, nodes_ops, register_lines, register_ops}
use Rattle.om_emit.proofs.DenMembers.{few_dens}
use Rattle.om_emit.proofs.EmittedSums.{code_names_slots}
use Rattle.om_emit.proofs.GraphRules.{slots_small}
use Rattle.om_emit.proofs.GraphWalk.{walk-is}
use Rattle.om_emit.proofs.RowsPlain.{all_rows}
use Rattle.om_asm.specs.InRange.{CodeInRange, InstrInRange, ParticleInRange, VertexInRange}
use Rattle.om_io.specs.Lines.{Words, line_text, lines_text}
use Rattle.om_program_text.specs.ProgramText.{den_words, end_words, flow_words, instr_words, leg_words, model_words, particle_words, program_text, slots_lines, version_words, vertex_words}
use Rattle.om_top.specs.Loads.{IsGraphOf, IsProgramFile}
use Rattle.om_top.specs.declared.load.program.TheConstants.{MOST_PROGRAM_BYTES}
use Rattle.om_top.proofs.AgreeAccepted.{keeps_rules, text_is_accepted}
use Rattle.om_top.proofs.Files.{formed}
use Rattle.om_top.proofs.GraphSizes.{few_flows, few_inner, few_legs, few_nodes, few_terms}
use Rattle.om_top.proofs.InstrLengths.{HasSmallNumbers, bytes_append, bytes_of, bytes_placed, instrs_len, keys_bytes, walk_bytes}
use Rattle.om_top.proofs.TextLength.{Both, IsShortParticle, all_at, all_both, any, den_line, flow_line, leg_line, name_short, particle_line, small_numbers, vertex_line}
use Rattle.om_top.proofs.TextLengths.{line_len, lines_append, lines_more, lines_within}

abbrev total_len : (a b c d e f g h : List Words) → ℕ
total_len a b c d e f g h =
    length (lines_text a) + length (lines_text b) + length (lines_text c) + length (lines_text d) + length (lines_text e) + length (lines_text f) + length (lines_text g) + length (lines_text h)

grouped : (a b c d e f g h : List Words) → length (lines_text (a ++ b ++ c ++ d ++ e ++ f ++ g ++ h)) ≡ total_len a b c d e f g h
grouped a b c d e f g h =
    omega (
      arith,
      lines_append a b,
      lines_append (a ++ b) c,
      lines_append (a ++ b ++ c) d,
      lines_append (a ++ b ++ c ++ d) e,
      lines_append (a ++ b ++ c ++ d ++ e) f,
      lines_append (a ++ b ++ c ++ d ++ e ++ f) g,
      lines_append (a ++ b ++ c ++ d ++ e ++ f ++ g) h,
    )

version_line : length (line_text (version_words 2)) ≤ 30
version_line = let e = line_len (codes "omega") (decimal 2 ∷ []) in let d = length-decimal-le 1 2 (omega arith) (omega arith) (omega arith) in omega (arith, e, d)

slots_line : (slots : ℕ) → slots < 10 ^ 7 → length (lines_text (slots_lines 2 slots)) ≤ 30
slots_line slots l =
    let a = lines_more (codes "slots" ∷ decimal slots ∷ []) [] in
    let e = line_len (codes "slots") (decimal slots ∷ []) in
    let d = length-decimal-le 7 slots (omega arith) l (omega (arith, l)) in
    omega (arith, a, e, d)

end_line : length (lines_text (end_words ∷ [])) ≤ 4
end_line = let a = lines_more end_words [] in let e = line_len (codes "end") [] in omega (arith, a, e)

module _ {E : Type 0} (o : Ops E) (m : Model) (p : Process) (accepted : IsAccepted o m) (is : IsProcessOf m p) (g : Graph) (its : IsGraphOf m p g) (c : Code) (code : IsCodeOf m p g c) (range : CodeInRange c) where
  well : IsWellFormed m
  well = formed o m accepted

  kept : IsVerified c
  kept = keeps_rules o m p accepted is g its c code range

  abbrev terms : ℕ
  terms = length g.terms

  abbrev keys : ℕ
  keys = length g.keys

  few : terms + keys ≤ 4194304
  few = let a = few_terms m p well is g its.canonical its.possible its.is_possible in let b = its.few in omega (arith, a, b)

  flows_few : length c.flows ≤ keys
  flows_few = subst (λ ws. length ws ≤ keys) (sym code.flows) (few_flows m p well is g its.canonical)

  nodes_few : length g.nodes ≤ terms + 12
  nodes_few = let a = few_nodes m p well is g its.canonical c code in let b = is.most in omega (arith, a, b)

  dens_few : length c.dens ≤ terms + 12
  dens_few = let a = few_dens (anti_field m.particles) (length p.legs) g.nodes in let b = nodes_few in let e = ap length code.dens in omega (arith, a, b, e)

  slots_few : c.slots ≤ terms + 12
  slots_few = let a = slots_small m p well is g its.canonical c code in let b = nodes_few in omega (arith, a, b)

  small : AllByRecursion HasSmallNumbers c.instrs
  small =
      let f = few in let s = slots_few in let w = flows_few in let d = dens_few in
      let plain = subst (λ v. AllByRecursion (IsPlainInstr v) c.instrs) code.version kept.plain.instrs in
      all_rows HasSmallNumbers c.instrs (λ k i e.
      small_numbers c (omega (arith, f, s)) (omega (arith, f, w)) (omega (arith, f, d)) kept.model.vertices kept.few_legs i (kept.instrs k i e).names
      (all_at (NamesSlots c.slots) c.instrs (code_names_slots m p g c code) k i e) (all_at InstrInRange c.instrs range.instrs k i e) (all_at (IsPlainInstr 2) c.instrs plain k i e))

  abbrev den : Key → ℕ
  den = den_place m (length p.legs) g

  ops_bytes : bytes_of (map op_of c.instrs) ≤ 68 * terms + 54 * keys + 240
  unfolding register_ops
  ops_bytes =
      let plan = first_fit (register_lines m (length p.legs) g) in
      let a = ap bytes_of code.instrs in
      let b = bytes_placed plan (register_ops m (length p.legs) g) in
      let d = bytes_append (nodes_ops den g.terms 0 g.nodes) (map key_op g.keys) in
      let e = keys_bytes g.keys in
      let built = canonical_is_built m p well is g its.canonical in
      let walk = ap bytes_of (walk-is den g.terms 0 g.nodes g.terms built.order built.legs (λ j l. refl)) in
      let w = walk_bytes den 0 g.nodes g.terms in
      let inner = few_inner m p well is g its.canonical in
      let legs = few_legs m p well is g its.canonical c code in
      let most = is.most in
      omega (arith, a, b, d, e, walk, w, inner, legs, most)

  instrs_bytes : length (lines_text (map (instr_words c.version) c.instrs)) ≤ 68 * terms + 54 * keys + 240
  instrs_bytes =
      let a = instrs_len c.instrs small in
      let b = ops_bytes in
      subst (λ v. length (lines_text (map (instr_words v) c.instrs)) ≤ 68 * terms + 54 * keys + 240) (sym code.version) (omega (arith, a, b))

  head_bytes : length (lines_text (version_words c.version ∷ model_words c.model.name ∷ map particle_words c.model.particles)) ≤ 80000
  head_bytes =
      let a = lines_more (version_words c.version) (model_words c.model.name ∷ map particle_words c.model.particles) in
      let b = lines_more (model_words c.model.name) (map particle_words c.model.particles) in
      let v = subst (λ v. length (line_text (version_words v)) ≤ 30) (sym code.version) version_line in
      let n = line_len (codes "model") (c.model.name ∷ []) in
      let s = name_short c.model.name range.name in
      let ps = lines_within 1110 particle_words IsShortParticle particle_line c.model.particles (all_both HasLengths ParticleInRange c.model.particles kept.plain.particles range.particles) in
      let few = kept.model.particles in
      omega (arith, a, b, v, n, s, ps, few)

  vertex_bytes : length (lines_text (map (vertex_words c.model.particles) c.model.vertices)) ≤ 600000
  vertex_bytes =
      let ps = c.model.particles in
      let a = lines_within 1150 (vertex_words ps) (Both (IsPlainVertex ps) VertexInRange) (vertex_line ps range.particles) c.model.vertices (all_both (IsPlainVertex ps) VertexInRange c.model.vertices kept.plain.vertices range.vertices) in
      let few = kept.model.vertices in
      omega (arith, a, few)

  leg_bytes : length (lines_text (map (leg_words c.model.particles) c.legs)) ≤ 240
  leg_bytes =
      let ps = c.model.particles in
      let a = lines_within 20 (leg_words ps) (λ f. Unit {0}) (λ f t. leg_line ps range.particles f) c.legs (any ps range.particles c.legs) in
      let few = kept.few_legs in
      omega (arith, a, few)

  flow_bytes : length (lines_text (map flow_words c.flows)) ≤ 70 * keys
  flow_bytes =
      let Twelve : Flow → Type 0 = λ w. length w.ends ≡ 12 in
      let a = lines_within 70 flow_words (Both Twelve IsPlainFlow) flow_line c.flows (all_both Twelve IsPlainFlow c.flows range.flows kept.plain.flows) in
      let few = flows_few in
      omega (arith, a, few)

  den_bytes : length (lines_text (map (den_words c.model.particles) c.dens)) ≤ 57 * terms + 700
  den_bytes =
      let ps = c.model.particles in
      let a = lines_within 57 (den_words ps) (IsPlainDen ps) (λ d t. den_line ps range.particles d) c.dens kept.plain.dens in
      let few = dens_few in
      omega (arith, a, few)

  slots_bytes : length (lines_text (slots_lines c.version c.slots)) ≤ 30
  slots_bytes =
      let f = few in let s = slots_few in
      subst (λ v. length (lines_text (slots_lines v c.slots)) ≤ 30) (sym code.version) (slots_line c.slots (omega (arith, f, s)))

  text_short : length (program_text c) ≤ MOST_PROGRAM_BYTES
  text_short =
      let ps = c.model.particles in
      let whole : length (program_text c)
      ≡ total_len (version_words c.version ∷ model_words c.model.name ∷ map particle_words ps) (map (vertex_words ps) c.model.vertices) (map (leg_words ps) c.legs) (map flow_words c.flows)
      (map (den_words ps) c.dens) (slots_lines c.version c.slots) (map (instr_words c.version) c.instrs) (end_words ∷ []) =
      grouped (version_words c.version ∷ model_words c.model.name ∷ map particle_words ps) (map (vertex_words ps) c.model.vertices) (map (leg_words ps) c.legs) (map flow_words c.flows)
      (map (den_words ps) c.dens) (slots_lines c.version c.slots) (map (instr_words c.version) c.instrs) (end_words ∷ []) in
      let f = few in
      omega (arith, whole, head_bytes, vertex_bytes, leg_bytes, flow_bytes, den_bytes, slots_bytes, instrs_bytes, end_line, f)

  pub text_is_a_program : IsProgramFile o (program_text c) c
  text_is_a_program = record { within = text_short; says = text_is_accepted o m p accepted is g its c code range }
