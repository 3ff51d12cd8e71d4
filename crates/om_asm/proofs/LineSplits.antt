-- The lines of a text that was made of lines, and the text of its lines.
use Rattle.std.proofs.Common.{◌≡◌, ℕ, ◌<◌, eqb, false, List, [], ◌∷◌, ◌++◌, length, refl, sym, ap, ◌∙◌, arith, append_assoc}
use Rattle.std.specs.List.{slice_split, join_with_byte, AllByRecursion}
use Rattle.std.proofs.lemmas.List.Elements.{All-from_recursion}
use Rattle.std.proofs.lemmas.List.Splits.{slice_split_at, join_with_byte-slice_split, length-slice_split}
use Rattle.om_io.specs.Lines.{Words, line_text, lines_text}
use Rattle.om_asm.specs.Lines.{words_of, lines_of, lines_of_parts}
use Rattle.om_asm.proofs.Visible.{IsVisible, Without, split_join, visible_without}

-- a line has a word, and its words are visible
abbrev pub IsLine : Words → Type 0
IsLine [] = ⊥
IsLine (w ∷ ws) = IsVisible w × AllByRecursion IsVisible ws

all_without : (c : ℕ) (ws : Words) → c < 33 → AllByRecursion IsVisible ws → AllByRecursion (Without c) ws
all_without c [] small h = tt
all_without c (w ∷ ws) small h = (visible_without c w small h.0, all_without c ws small h.1)

without_append : (c : ℕ) (a b : List ℕ) → Without c a → Without c b → Without c (a ++ b)
without_append c [] b p q = q
without_append c (x ∷ xs) b p q = (p.0, without_append c xs b p.1 q)

-- joined words have no line feed
joined_without : (w : List ℕ) (ws : Words) → IsVisible w → AllByRecursion IsVisible ws → Without 10 (join_with_byte 32 (w ∷ ws))
joined_without w [] h hs = visible_without 10 w (omega arith) h
joined_without w (v ∷ vs) h hs = without_append 10 w (32 ∷ join_with_byte 32 (v ∷ vs)) (visible_without 10 w (omega arith) h) (refl, joined_without v vs hs.0 hs.1)

pub words_again : (l : Words) → IsLine l → words_of (join_with_byte 32 l) ≡ l
words_again [] h = absurd h
words_again (w ∷ ws) h = split_join 32 w ws (visible_without 32 w (omega arith) h.0) (all_without 32 ws (omega arith) h.1)

parts_more : (part : List ℕ) (parts : List (List ℕ)) → 0 < length parts → lines_of_parts (part ∷ parts) ≡ words_of part ∷ lines_of_parts parts
unfolding lines_of_parts
parts_more part [] h = absurd (omega arith)
parts_more part (next ∷ parts) h = refl

-- the lines of a line and a text behind it
pub lines_more : (l : Words) (rest : List ℕ) → IsLine l → lines_of (line_text l ++ rest) ≡ l ∷ lines_of rest
unfolding lines_of
lines_more [] rest h = absurd h
lines_more (w ∷ ws) rest h =
    let line = join_with_byte 32 (w ∷ ws) in
    let no_feed = All-from_recursion (λ b. eqb b 10 ≡ false) line (joined_without w ws h.0 h.1) in
    let split = slice_split_at (λ b. eqb b 10) line 10 rest no_feed refl in
    ap lines_of_parts (ap (slice_split (λ b. eqb b 10)) (append_assoc line (10 ∷ []) rest) ∙ split)
    ∙ parts_more line (slice_split (λ b. eqb b 10) rest) (omega (arith, length-slice_split (λ b. eqb b 10) rest))
    ∙ ap (λ (x : Words). x ∷ lines_of_parts (slice_split (λ b. eqb b 10) rest)) (words_again (w ∷ ws) h)

-- a text that was made of lines has these lines
pub lines_again : (ls : List Words) → AllByRecursion IsLine ls → lines_of (lines_text ls) ≡ ls
unfolding lines_of lines_of_parts
lines_again [] h = refl
lines_again (l ∷ ls) h = lines_more l (lines_text ls) h.0 ∙ ap (λ (x : List Words). l ∷ x) (lines_again ls h.1)

-- each line is whole
abbrev pub AreWhole : List Words → Type 0
AreWhole ls = AllByRecursion (λ (l : Words). 0 < length l) ls

text_of_parts : (part : List ℕ) (parts : List (List ℕ)) → AreWhole (lines_of_parts (part ∷ parts)) → join_with_byte 10 (part ∷ parts) ≡ lines_text (lines_of_parts (part ∷ parts))
unfolding lines_of_parts
text_of_parts [] [] h = refl
text_of_parts (b ∷ bs) [] h = absurd (let l = h.0 in omega arith)
text_of_parts part (next ∷ parts) h =
    ap (λ t. t ++ 10 ∷ join_with_byte 10 (next ∷ parts)) (sym (join_with_byte-slice_split 32 part))
    ∙ ap (λ t. join_with_byte 32 (words_of part) ++ 10 ∷ t) (text_of_parts next parts h.1)
    ∙ sym (append_assoc (join_with_byte 32 (words_of part)) (10 ∷ []) (lines_text (lines_of_parts (next ∷ parts))))

of_some : (parts : List (List ℕ)) → 0 < length parts → AreWhole (lines_of_parts parts) → join_with_byte 10 parts ≡ lines_text (lines_of_parts parts)
of_some [] some h = absurd (omega arith)
of_some (part ∷ parts) some h = text_of_parts part parts h

-- a text whose lines are whole is the text of its lines
pub text_again : (text : List ℕ) → AreWhole (lines_of text) → text ≡ lines_text (lines_of text)
unfolding lines_of
text_again text h =
    sym (join_with_byte-slice_split 10 text)
    ∙ of_some (slice_split (λ b. eqb b 10) text) (omega (arith, length-slice_split (λ b. eqb b 10) text)) h
