-- How lines are cut out of a text.
use Rattle.std.proofs.Common.{◌≡◌, ℕ, ◌<◌, eqb, List, [], ◌∷◌, length, refl, ap, ◌∙◌, arith}
use Rattle.std.specs.List.{slice_split}
use Rattle.std.proofs.lemmas.List.Splits.{length-slice_split}
use Rattle.om_asm.specs.Lines.{words_of, lines_of, lines_of_parts, cut_line}

parts_more : (part : List ℕ) (parts : List (List ℕ)) → 0 < length parts → lines_of_parts (part ∷ parts) ≡ words_of part ∷ lines_of_parts parts
unfolding lines_of_parts
parts_more part [] h = absurd (omega arith)
parts_more part (next ∷ parts) h = refl

-- a whole line, and the lines behind it
pub line_more : (text line rest : List ℕ) → slice_split (λ b. eqb b 10) text ≡ line ∷ slice_split (λ b. eqb b 10) rest → lines_of text ≡ words_of line ∷ lines_of rest
unfolding lines_of
line_more text line rest h = ap lines_of_parts h ∙ parts_more line (slice_split (λ b. eqb b 10) rest) (omega (arith, length-slice_split (λ b. eqb b 10) rest))

-- no whole line
pub line_none : (text : List ℕ) → slice_split (λ b. eqb b 10) text ≡ text ∷ [] → lines_of text ≡ cut_line text
unfolding lines_of lines_of_parts
line_none text h = ap lines_of_parts h
