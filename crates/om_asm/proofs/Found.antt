-- A text that is read is the text of its code.
use Rattle.std.proofs.Common.{◌≡◌, ℕ, ◌<◌, eqb, Bool, true, false, cond, List, [], ◌∷◌, length, map, codes, decimal, Result, Ok, Err, sym, ap, subst, ◌∙◌, arith}
use Rattle.std.specs.Prelude.{IfOk}
use Rattle.om_code.specs.declared.code.Code.{Code}
use Rattle.om_code.specs.declared.code.Instr.{Instr}
use Rattle.om_code.specs.declared.code.Instr.TheVariants.{Load, Fuse, Prop, Key}
use Rattle.om_code.specs.Plain.{IsPlain}
use Rattle.om_asm.specs.declared.fault.AsmFault.{AsmFault}
use Rattle.om_io.specs.Lines.{Words, lines_text}
use Rattle.om_program_text.specs.ProgramText.{particle_words, vertex_words, leg_words, flow_words, den_words, slots_lines, instr_words, program_lines, program_text}
use Rattle.om_asm.specs.Lines.{At, lines_of}
use Rattle.om_asm.specs.Rows.{GivesNothing, place}
use Rattle.om_asm.specs.Program.{program_at, program_of}
use Rattle.om_asm.proofs.LineSplits.{AreWhole, text_again}
use Rattle.om_asm.proofs.ProgramLaws.{program_found}
use Rattle.om_asm.proofs.AllLines.{all_lines}

whole_map : {A : Type 0} (words : A → Words) (xs : List A) → ((x : A) → 0 < length (words x)) → AreWhole (map words xs)
whole_map words [] h = tt
whole_map words (x ∷ xs) h = (h x, whole_map words xs h)

instr_whole : (version : ℕ) (i : Instr) → 0 < length (instr_words version i)
instr_whole version (Load slot leg) = omega arith
instr_whole version (Fuse slot minus vertex choice branches) = omega arith
instr_whole version (Prop slot den) = omega arith
instr_whole version (Key flow minus vertex choice branches) = omega arith

slots_whole : (version slots : ℕ) → AreWhole (slots_lines version slots)
slots_whole version slots = by (eqb version 1)
  where
    by : (b : Bool) → AreWhole (cond b [] ((codes "slots" ∷ decimal slots ∷ []) ∷ []))
    by true = tt
    by false = (omega arith, tt)

program_whole : (c : Code) → AreWhole (program_lines c)
program_whole c =
    let ps = c.model.particles in
    all_lines (λ (l : Words). 0 < length l) c (record {
      head = (omega arith, (omega arith, whole_map particle_words ps (λ x. omega arith)));
      vertices = whole_map (vertex_words ps) c.model.vertices (λ x. omega arith);
      legs = whole_map (leg_words ps) c.legs (λ x. omega arith);
      flows = whole_map flow_words c.flows (λ x. omega arith);
      dens = whole_map (den_words ps) c.dens (λ x. omega arith);
      slots = slots_whole c.version c.slots;
      instrs = whole_map (instr_words c.version) c.instrs (instr_whole c.version);
      last = omega arith;
    })

text_is : (text : List ℕ) (c : Code) → program_of text ≡ Ok c → IsPlain c × (text ≡ program_text c)
text_is text c e =
    let f = program_found (place 1 (lines_of text)) c e in
    let whole : AreWhole (lines_of text) = subst AreWhole (sym f.texts) (program_whole c) in
    (f.plain, text_again text whole ∙ ap lines_text f.texts)

pub code_found : (text : List ℕ) (a : At) (result : Result Code AsmFault) → a ≡ place 1 (lines_of text) → GivesNothing (program_at a) result → IfOk result (λ c. IsPlain c × (text ≡ program_text c))
code_found text a (Ok c) same g = text_is text c (ap program_at (sym same) ∙ g)
code_found text a (Err d) same g = tt
