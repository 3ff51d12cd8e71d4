-- What holds of the lines of each group of a program holds of all its lines.
use Rattle.std.proofs.Common.{List, [], ◌∷◌, ◌++◌, map}
use Rattle.std.specs.List.{AllByRecursion}
use Rattle.om_code.specs.declared.code.Code.{Code}
use Rattle.om_io.specs.Lines.{Words}
use Rattle.om_program_text.specs.ProgramText.{version_words, model_words, particle_words, vertex_words, leg_words, flow_words, den_words, slots_lines, instr_words, end_words, program_lines}

pub all_append : {A : Type 0} (P : A → Type 0) (xs ys : List A) → AllByRecursion P xs → AllByRecursion P ys → AllByRecursion P (xs ++ ys)
all_append P [] ys p q = q
all_append P (x ∷ xs) ys p q = (p.0, all_append P xs ys p.1 q)

-- the lines of each group
pub record AllGroups (P : Words → Type 0) (c : Code) : Type 0 where
  pub head : AllByRecursion P (version_words c.version ∷ model_words c.model.name ∷ map particle_words c.model.particles)
  pub vertices : AllByRecursion P (map (vertex_words c.model.particles) c.model.vertices)
  pub legs : AllByRecursion P (map (leg_words c.model.particles) c.legs)
  pub flows : AllByRecursion P (map flow_words c.flows)
  pub dens : AllByRecursion P (map (den_words c.model.particles) c.dens)
  pub slots : AllByRecursion P (slots_lines c.version c.slots)
  pub instrs : AllByRecursion P (map (instr_words c.version) c.instrs)
  pub last : P end_words

pub all_lines : (P : Words → Type 0) (c : Code) → AllGroups P c → AllByRecursion P (program_lines c)
all_lines P c g =
    let ps = c.model.particles in
    let a = version_words c.version ∷ model_words c.model.name ∷ map particle_words ps in
    let vs = map (vertex_words ps) c.model.vertices in
    let ls = map (leg_words ps) c.legs in
    let fs = map flow_words c.flows in
    let ds = map (den_words ps) c.dens in
    let ss = slots_lines c.version c.slots in
    let is = map (instr_words c.version) c.instrs in
    let v = all_append P a vs g.head g.vertices in
    let l = all_append P (a ++ vs) ls v g.legs in
    let f = all_append P (a ++ vs ++ ls) fs l g.flows in
    let d = all_append P (a ++ vs ++ ls ++ fs) ds f g.dens in
    let s = all_append P (a ++ vs ++ ls ++ fs ++ ds) ss d g.slots in
    let i = all_append P (a ++ vs ++ ls ++ fs ++ ds ++ ss) is s g.instrs in
    all_append P (a ++ vs ++ ls ++ fs ++ ds ++ ss ++ is) (end_words ∷ []) i (g.last, tt)
