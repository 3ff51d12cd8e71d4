-- The first bad line of a text that is no program.
use Rattle.std.proofs.Common.{◌≡◌, ℕ, ◌+◌, ◌-◌, ◌≤◌, eqb, Bool, true, false, cond, List, [], ◌∷◌, ◌++◌, length, take, drop, Result, Ok, Err, refl, sym, ap, ◌∙◌, arith, append-nil}
use Rattle.std.proofs.lemmas.Bool.{eqb-true}
use Rattle.std.proofs.lemmas.List.{length-take, take-append-drop}
use Rattle.om_code.specs.declared.code.Code.{Code}
use Rattle.om_asm.specs.declared.fault.AsmKind.{AsmKind}
use Rattle.om_asm.specs.declared.fault.AsmKind.TheVariants.{Grammar}
use Rattle.om_io.specs.Lines.{Words}
use Rattle.om_asm.specs.Lines.{At}
use Rattle.om_asm.specs.Rows.{BadLine, bad, place}
use Rattle.om_asm.specs.Program.{program_at}
use Rattle.om_asm.specs.FirstBad.{BeginsProgram}
use Rattle.om_asm.proofs.ProgramLaws.{program_found}
use Rattle.om_asm.proofs.ProgramAgain.{program_again}
use Rattle.om_asm.proofs.Outcomes.{Beyond, AtEnd, Outcome, fails, stops, goes}
use Rattle.om_asm.proofs.ProgramOutcomes.{Anything, up_to_end, whole_outcome, ending, finish, program_is}

abbrev line_of : Result Code BadLine → ℕ
line_of (Ok c) = 0
line_of (Err e) = e.line

-- what stops before all lines are read is bad there
ends_early : (x : Code) (m : ℕ) (back ls : List Words) → 1 ≤ length back → ending (x, place m (back ++ ls)) ≡ Err (bad m Grammar)
ends_early x m [] ls h = absurd (omega arith)
ends_early x m (b ∷ bs) ls h = by (eqb (length ((b ∷ bs) ++ ls)) 0) refl
  where
    by : (t : Bool) → eqb (length ((b ∷ bs) ++ ls)) 0 ≡ t → cond t (Ok x) (Err (bad m Grammar)) ≡ Err (bad m Grammar)
    by true e = absurd (let z = eqb-true (length ((b ∷ bs) ++ ls)) 0 e in omega arith)
    by false e = refl

module _ (lines : List Words) (line : ℕ) (kind : AsmKind) (said : program_at (place 1 lines) ≡ Err (bad line kind)) where
  finished : finish (up_to_end (place 1 lines)) ≡ Err (bad line kind)
  finished = program_is (place 1 lines) ∙ said

  beyond_is : (m : ℕ) (r : Result (Code × At) BadLine) → Beyond m r → finish r ≡ Err (bad line kind) → m ≤ line
  beyond_is m (Err e) h f = omega (arith, ap line_of f)
  beyond_is m (Ok y) h f = by (eqb (length y.1.lines) 0) f
    where
      by : (t : Bool) → cond t (Ok y.0) (Err (bad y.1.number Grammar)) ≡ Err (bad line kind) → m ≤ line
      by true g = absurd cc
      by false g = omega (arith, ap line_of g)

  end_is : (m : ℕ) (r : Result (Code × At) BadLine) → AtEnd m r → finish r ≡ Err (bad line kind) → line ≡ m
  end_is m (Err e) h f = omega (arith, ap line_of f)
  end_is m (Ok y) h f = absurd (let g : finish (Ok (y.0, place m [])) ≡ Err (bad line kind) = ap (λ (a : At). ending (y.0, a)) (sym h) ∙ f in cc)

  -- the same text, where its lines are in two parts
  parted : (front rest : List Words) → front ++ rest ≡ lines → finish (up_to_end (place 1 (front ++ rest))) ≡ Err (bad line kind)
  parted front rest e = ap (λ (ls : List Words). finish (up_to_end (place 1 ls))) e ∙ finished

  stopped_at : (front rest : List Words) (x : Code) (m : ℕ) (back : List Words) → front ++ rest ≡ lines → 1 ≤ length back → up_to_end (place 1 (front ++ rest)) ≡ Ok (x, place m (back ++ rest)) → m ≡ line
  stopped_at front rest x m back e b h = ap line_of (sym (ends_early x m back rest b) ∙ sym (ap finish h) ∙ parted front rest e)

  failed_at : (front rest : List Words) (e : BadLine) → front ++ rest ≡ lines → up_to_end (place 1 (front ++ rest)) ≡ Err e → e.line ≡ line
  failed_at front rest e s h = ap line_of (sym (ap finish h) ∙ parted front rest s)

  pub counted : 1 ≤ line
  counted = by (whole_outcome 1 [])
    where
      by : Outcome up_to_end Anything Anything 1 [] → 1 ≤ line
      by (fails e l u h) = omega (arith, failed_at [] lines e refl (h lines))
      by (stops x m back b l u h) = omega (arith, stopped_at [] lines x m back refl b (h lines))
      by (goes x more ends h beyond last) = let le = beyond_is (1 + 0) (up_to_end (place 1 lines)) (beyond lines) finished in omega arith

  pub within : line ≤ length lines + 1
  within = by (whole_outcome 1 lines)
    where
      all : lines ++ [] ≡ lines
      all = append-nil lines

      by : Outcome up_to_end Anything Anything 1 lines → line ≤ length lines + 1
      by (fails e l u h) = omega (arith, failed_at lines [] e all (h []))
      by (stops x m back b l u h) = omega (arith, stopped_at lines [] x m back all b (h []))
      by (goes x more ends h beyond last) = omega (arith, end_is (1 + length lines) (up_to_end (place 1 (lines ++ []))) last (parted lines [] all))

  -- lines before the bad one begin a program
  front_begins : (front rest : List Words) → front ++ rest ≡ lines → length front + 1 ≡ line → BeginsProgram front
  front_begins front rest s n = by (whole_outcome 1 front)
    where
      by : Outcome up_to_end Anything Anything 1 front → BeginsProgram front
      by (fails e l u h) = absurd (omega (arith, failed_at front rest e s (h rest)))
      by (stops x m back b l u h) = absurd (omega (arith, stopped_at front rest x m back s b (h rest)))
      by (goes x more ends h beyond last) =
          let found = program_found (place 1 (front ++ (more ++ []))) x (sym (program_is (place 1 (front ++ (more ++ [])))) ∙ ap finish (h [] tt)) in
          record { code = x; plain = found.plain; range = found.range; later = more ++ []; begins = sym found.texts }

  -- with the bad line they begin none
  front_breaks : (front rest : List Words) → front ++ rest ≡ lines → length front ≡ line → BeginsProgram front → ⊥
  front_breaks front rest s n b = by (whole_outcome 1 front)
    where
      ok : finish (up_to_end (place 1 (front ++ b.later))) ≡ Ok b.code
      ok = program_is (place 1 (front ++ b.later)) ∙ ap (λ (ls : List Words). program_at (place 1 ls)) (sym b.begins) ∙ program_again b.code b.plain b.range

      by : Outcome up_to_end Anything Anything 1 front → ⊥
      by (fails e l u h) = let g = sym (ap finish (h b.later)) ∙ ok in cc
      by (stops x m back c l u h) = let g = sym (ends_early x m back b.later c) ∙ sym (ap finish (h b.later)) ∙ ok in cc
      by (goes x more ends h beyond last) = omega (arith, beyond_is (1 + length front) (up_to_end (place 1 (front ++ rest))) (beyond rest) (parted front rest s))

  parts : (k : ℕ) → take k lines ++ drop k lines ≡ lines
  parts k = take-append-drop k lines

  pub begins : BeginsProgram (take (line - 1) lines)
  begins =
      let n : length (take (line - 1) lines) + 1 ≡ line = omega (arith, length-take (line - 1) lines, counted, within) in
      front_begins (take (line - 1) lines) (drop (line - 1) lines) (parts (line - 1)) n

  pub breaks : line ≤ length lines → BeginsProgram (take line lines) → ⊥
  breaks le b =
      let n : length (take line lines) ≡ line = omega (arith, length-take line lines) in
      front_breaks (take line lines) (drop line lines) (parts line) n b
