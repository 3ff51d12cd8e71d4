-- A program has no more lines than its text has bytes.
use Rattle.std.proofs.Common.{◌≡◌, ℕ, ◌+◌, ◌≤◌, nat_eq, Bool, true, false, cond, List, [], ◌∷◌, ◌++◌, length, map, decimal, codes, Ok, refl, ap, ◌∙◌, arith}
use Rattle.std.proofs.lemmas.List.{length-append, length-map}
use Rattle.std.specs.List.{join_with_byte}
use Rattle.om_code.specs.declared.code.Code.{Code}
use Rattle.om_code.specs.Lines.{line_count}
use Rattle.om_asm.specs.Lines.{lines_of}
use Rattle.om_asm.specs.Program.{program_of}
use Rattle.om_asm.specs.Rows.{place}
use Rattle.om_asm.proofs.Found.{code_found}
use Rattle.om_io.specs.Lines.{Words, line_text, lines_text}
use Rattle.om_program_text.specs.ProgramText.{end_words, particle_words, vertex_words, leg_words, flow_words, den_words, slots_lines, instr_words, program_lines, program_text}

lines_long : (ls : List Words) → length ls ≤ length (lines_text ls)
lines_long [] = omega arith
lines_long (w ∷ ws) = omega (arith, lines_long ws, length-append (line_text w) (lines_text ws), length-append (join_with_byte 32 w) (10 ∷ []))

slots_long : (b : Bool) (l : Words) → length (cond {A = List Words} b [] (l ∷ [])) ≡ cond b 0 1
slots_long true l = refl
slots_long false l = refl

-- a group of lines behind others
group : {A : Type 0} (words : A → Words) (ls : List Words) (xs : List A) → length (ls ++ map words xs) ≡ length ls + length xs
group words ls xs = length-append ls (map words xs) ∙ ap (λ n. length ls + n) (length-map xs words)

line_count_is : (c : Code) → length (program_lines c) ≡ line_count c
line_count_is c =
    let ps = c.model.particles in
    let particles = map particle_words ps in
    let vertices = particles ++ map (vertex_words ps) c.model.vertices in
    let legs = vertices ++ map (leg_words ps) c.legs in
    let flows = legs ++ map flow_words c.flows in
    let dens = flows ++ map (den_words ps) c.dens in
    let slots = dens ++ slots_lines c.version c.slots in
    let instrs = slots ++ map (instr_words c.version) c.instrs in
    omega (
      arith,
      length-map ps particle_words,
      group (vertex_words ps) particles c.model.vertices,
      group (leg_words ps) vertices c.legs,
      group flow_words legs c.flows,
      group (den_words ps) flows c.dens,
      length-append dens (slots_lines c.version c.slots),
      slots_long (nat_eq c.version 1) (codes "slots" ∷ decimal c.slots ∷ []),
      group (instr_words c.version) slots c.instrs,
      length-append instrs (end_words ∷ []),
    )

pub few_lines : (c : Code) (text : List ℕ) → text ≡ program_text c → line_count c ≤ length text
few_lines c text e = omega (arith, line_count_is c, lines_long (program_lines c), ap length e)

-- and no more flows
pub few_flows : (c : Code) (text : List ℕ) → program_of text ≡ Ok c → length c.flows ≤ length text
few_flows c text e = omega (arith, few_lines c text (code_found text (place 1 (lines_of text)) (Ok c) refl e).1)
