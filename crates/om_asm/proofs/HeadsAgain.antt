-- The lines that stand once are read again.
use Rattle.std.proofs.Common.{◌≡◌, ℕ, ◌+◌, ◌^◌, ◌<◌, ◌⊎◌, eqb, Bool, true, false, cond, List, [], ◌∷◌, ◌++◌, codes, decimal, Option, Some, None, Result, Ok, refl, sym, ap, ◌∙◌, arith, inl, inr}
use Rattle.std.proofs.lemmas.Fmt.{decimal_digit}
use Rattle.om_model.specs.Name.{is_name}
use Rattle.om_io.specs.Lines.{Words}
use Rattle.om_program_text.specs.ProgramText.{version_words, model_words, slots_lines, end_words}
use Rattle.om_asm.specs.Lines.{At, word_by, no_more}
use Rattle.om_ring.specs.OptionSteps.{◌>>=◌}
use Rattle.om_asm.specs.Spelt.{literal}
use Rattle.om_ring.specs.Spelt.{decimal_below}
use Rattle.om_asm.specs.Heads.{version_word, keyed, version_of, model_name_of, slots_of, end_of}
use Rattle.om_asm.specs.Reading.{name_of}
use Rattle.om_asm.specs.Rows.{BadLine, place}
use Rattle.om_asm.specs.Program.{one_line, line_or_bad, slots_at, end_at}
use Rattle.om_asm.proofs.SpeltLemmas.{bytes_same}
use Rattle.om_asm.proofs.WordLaws.{number_law}
use Rattle.om_asm.proofs.ModelWordsAgain.{name_again}
use Rattle.om_asm.proofs.WordsAgain.{word_again}

abbrev ready : Option (Unit {0})
ready = Some tt

literal_again : (key : List ℕ) → literal key key ≡ ready
literal_again key = ap (λ b. cond b ready None) (bytes_same key key refl)

pub keyed_again : {A : Type 0} (key : List ℕ) (read : List ℕ → Option A) (w : List ℕ) (x : A) → read w ≡ Some x → keyed key read (key ∷ w ∷ []) ≡ Some x
unfolding keyed
keyed_again key read w x e =
    ap (λ o. o >>= λ k. word_by read k.1 >>= λ y. no_more y.1 >>= λ _. Some y.0) (word_again (literal key) key tt (w ∷ []) (literal_again key))
    ∙ ap (λ o. o >>= λ y. no_more y.1 >>= λ _. Some y.0) (word_again read w x [] e)

pub version_again : (v : ℕ) → (v ≡ 1) ⊎ (v ≡ 2) → version_of (version_words v) ≡ Some v
version_again v (inl e) = keyed_again (codes "omega") version_word (decimal v) v (ap version_word (ap decimal e ∙ decimal_digit 1 (omega arith)) ∙ ap (λ n. Some n) (sym e))
version_again v (inr e) = keyed_again (codes "omega") version_word (decimal v) v (ap version_word (ap decimal e ∙ decimal_digit 2 (omega arith)) ∙ ap (λ n. Some n) (sym e))

pub model_again : (n : List ℕ) → is_name n ≡ true → model_name_of (model_words n) ≡ Some n
model_again n h = keyed_again (codes "model") name_of n n (name_again n h)

abbrev pub at_place : {A : Type 0} → A → ℕ → List Words → Result (A × At) BadLine
at_place x number lines = Ok (x, place number lines)

pub line_again : {A : Type 0} (read : Words → Option A) (l : Words) (x : A) (number : ℕ) (ls : List Words) → read l ≡ Some x → one_line read (place number (l ∷ ls)) ≡ at_place x (number + 1) ls
line_again read l x number ls e = ap (λ o. line_or_bad o (place number (l ∷ ls))) e

-- what is read of the line of the slots
abbrev pub slots_read : ℕ → ℕ → ℕ
slots_read version slots = cond (eqb version 1) 0 slots

abbrev pub next_number : ℕ → ℕ → ℕ
next_number version number = cond (eqb version 1) number (number + 1)

pub slots_again : (version slots number : ℕ) (ls : List Words) → cond (eqb version 1) (Unit {0}) (slots < 2 ^ 32) → slots_at version (place number (slots_lines version slots ++ ls)) ≡ at_place (slots_read version slots) (next_number version number) ls
slots_again version slots number ls h = by (eqb version 1) h
  where
    by : (b : Bool) → cond b (Unit {0}) (slots < 2 ^ 32) → cond b (at_place 0 number (cond b [] ((codes "slots" ∷ decimal slots ∷ []) ∷ []) ++ ls)) (one_line slots_of (place number (cond b [] ((codes "slots" ∷ decimal slots ∷ []) ∷ []) ++ ls))) ≡ at_place (cond b 0 slots) (cond b number (number + 1)) ls
    by true k = refl
    by false k = line_again slots_of (codes "slots" ∷ decimal slots ∷ []) slots number ls (keyed_again (codes "slots") (decimal_below (2 ^ 32)) (decimal slots) slots ((number_law (2 ^ 32) (omega arith)).again slots k))

abbrev pub finished : Result (Unit {0}) BadLine
finished = Ok tt

pub end_of_again : end_of end_words ≡ ready
unfolding end_of
end_of_again = refl

pub end_again : (number : ℕ) → end_at (place number (end_words ∷ [])) ≡ finished
unfolding end_of
end_again number = refl
