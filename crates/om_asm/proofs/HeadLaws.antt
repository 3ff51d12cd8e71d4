-- The lines that stand once: what is read is what stands there.
use Rattle.std.proofs.Common.{◌≡◌, ℕ, ◌+◌, ◌^◌, ◌<◌, ◌⊎◌, eqb, Bool, true, false, cond, List, [], ◌∷◌, ◌++◌, drop, codes, decimal, Option, Some, None, Ok, refl, sym, ap, ap₂, ◌∙◌, arith, inl, inr}
use Rattle.std.specs.Str.{bytes_eq}
use Rattle.std.proofs.lemmas.Fmt.{decimal_digit}
use Rattle.om_io.specs.Lines.{Words}
use Rattle.om_program_text.specs.ProgramText.{version_words, model_words, slots_lines, end_words}
use Rattle.om_asm.specs.Lines.{At, first_line, word_by, no_more}
use Rattle.om_ring.specs.OptionSteps.{◌>>=◌}
use Rattle.om_asm.specs.Spelt.{literal}
use Rattle.om_ring.specs.Spelt.{decimal_below}
use Rattle.om_asm.specs.Heads.{version_word, keyed, version_of, model_name_of, slots_of, end_of}
use Rattle.om_asm.specs.Reading.{name_of}
use Rattle.om_asm.specs.Rows.{place}
use Rattle.om_asm.specs.Program.{one_line, line_or_bad, slots_at}
use Rattle.om_asm.specs.FirstBad.{IsName}
use Rattle.om_asm.proofs.SpeltLemmas.{same_bytes}
use Rattle.om_ring.proofs.SpeltLemmas.{spelt_found}
use Rattle.om_asm.proofs.WordLaws.{bind_some, ended}
use Rattle.om_asm.proofs.OneLine.{keyed_none}
use Rattle.om_asm.proofs.ModelWords.{pick, name_spells}
use Rattle.om_asm.proofs.ModelLaws.{by_word}
use Rattle.om_asm.proofs.SlotLaws.{literal_found}

-- a line of a key and one word
pub keyed_found : {A : Type 0} (key : List ℕ) (read : List ℕ → Option A) (words : Words) (x : A) → keyed key read words ≡ Some x → (w : List ℕ) × (words ≡ key ∷ w ∷ []) × (read w ≡ Some x)
unfolding keyed
keyed_found key read words x e =
    let k = bind_some (word_by (literal key) words) (λ k. word_by read k.1 >>= λ y. no_more y.1 >>= λ _. Some y.0) x e in
    let a = by_word (literal key) words k.0 k.1 in
    let y = bind_some (word_by read k.0.1) (λ y. no_more y.1 >>= λ _. Some y.0) x k.2 in
    let b = by_word read k.0.1 y.0 y.1 in
    let n = ended y.0.1 (λ _. Some y.0.0) x y.2 in
    let same : y.0.0 ≡ x = let h = n.1 in cc in
    (b.0, a.1 ∙ ap₂ (λ (v : List ℕ) (vs : Words). v ∷ vs) (literal_found key a.0 k.0.0 a.2) (b.1 ∙ ap (λ (vs : Words). b.0 ∷ vs) n.0), b.2 ∙ ap Some same)

version_is : (w : List ℕ) (v : ℕ) → version_word w ≡ Some v → (w ≡ decimal v) × ((v ≡ 1) ⊎ (v ≡ 2))
version_is w v e = elim (pick (bytes_eq w (codes "1")) 1 _ v e) [
  | inl p ↦ (same_bytes w (codes "1") p.0 ∙ sym (decimal_digit 1 (omega arith)) ∙ ap decimal p.1, inl (sym p.1))
  | inr p ↦ elim (pick (bytes_eq w (codes "2")) 2 None v p.1) [
    | inl q ↦ (same_bytes w (codes "2") q.0 ∙ sym (decimal_digit 2 (omega arith)) ∙ ap decimal q.1, inr (sym q.1))
    | inr q ↦ absurd (let n = q.1 in cc)
  ]
]

pub version_found : (words : Words) (v : ℕ) → version_of words ≡ Some v → (words ≡ version_words v) × ((v ≡ 1) ⊎ (v ≡ 2))
version_found words v e =
    let k = keyed_found (codes "omega") version_word words v e in
    let w = version_is k.0 v k.2 in
    (k.1 ∙ ap (λ (u : List ℕ). codes "omega" ∷ u ∷ []) w.0, w.1)

pub name_found : (words : Words) (n : List ℕ) → model_name_of words ≡ Some n → (words ≡ model_words n) × IsName n
name_found words n e =
    let k = keyed_found (codes "model") name_of words n e in
    let w = name_spells k.0 n k.2 in
    (k.1 ∙ ap (λ (u : List ℕ). codes "model" ∷ u ∷ []) (sym w.0), w.1)

pub slots_line_found : (words : Words) (s : ℕ) → slots_of words ≡ Some s → (words ≡ codes "slots" ∷ decimal s ∷ []) × (s < 2 ^ 32)
slots_line_found words s e =
    let k = keyed_found (codes "slots") (decimal_below (2 ^ 32)) words s e in
    let w = spelt_found decimal (2 ^ 32) k.0 s k.2 in
    (k.1 ∙ ap (λ (u : List ℕ). codes "slots" ∷ u ∷ []) (sym w.1), w.0)

pub end_found : (words : Words) (x : Unit {0}) → end_of words ≡ Some x → words ≡ end_words
unfolding end_of
end_found words x e =
    let k = bind_some (word_by (literal (codes "end")) words) (λ k. no_more k.1) x e in
    let a = by_word (literal (codes "end")) words k.0 k.1 in
    a.1 ∙ ap₂ (λ (v : List ℕ) (vs : Words). v ∷ vs) (literal_found (codes "end") a.0 k.0.0 a.2) (none k.0.1 k.2)
  where
    none : (ws : Words) → no_more ws ≡ Some x → ws ≡ []
    none [] h = refl
    none (v ∷ vs) h = absurd cc

abbrev pub a_place : {A : Type 0} → A → At → A × At
a_place x a = (x, a)

by_option : {A : Type 0} (o : Option A) (x : A) (a b : At) → line_or_bad o a ≡ Ok (a_place x b) → (o ≡ Some x) × (b ≡ place (a.number + 1) (drop 1 a.lines))
by_option {A} (Some y) x a b e =
    let next = place (a.number + 1) (drop 1 a.lines) in
    let same : a_place y next ≡ a_place x b = cc in
    (ap (λ (p : A × At). Some p.0) same, sym (ap (λ (p : A × At). p.1) same))
by_option None x a b e = absurd cc

whole_line : {A : Type 0} (read : Words → Option A) (x : A) (lines : List Words) → read [] ≡ None → read (first_line lines) ≡ Some x → (l : Words) × (lines ≡ l ∷ drop 1 lines) × (read l ≡ Some x)
whole_line read x [] n e = absurd cc
whole_line read x (l ∷ ls) n e = (l, refl, e)

-- a line that stands at its place
pub line_found : {A : Type 0} (read : Words → Option A) (x : A) (a b : At) → read [] ≡ None → one_line read a ≡ Ok (a_place x b) → (l : Words) × (a.lines ≡ l ∷ b.lines) × (read l ≡ Some x)
line_found read x a b n e =
    let o = by_option (read (first_line a.lines)) x a b e in
    let w = whole_line read x a.lines n o.0 in
    (w.0, w.1 ∙ ap (λ (ls : List Words). w.0 ∷ ls) (sym (ap (λ (p : At). p.lines) o.1)), w.2)

-- the number of slots is that of the line, where there is one
abbrev pub IsSlotCount : ℕ → ℕ → Type 0
IsSlotCount version s = cond (eqb version 1) (Unit {0}) (s < 2 ^ 32)

by_version : (version : ℕ) (t : Bool) (s : ℕ) (a b : At) → eqb version 1 ≡ t → cond t (Ok (a_place 0 a)) (one_line slots_of a) ≡ Ok (a_place s b) → (a.lines ≡ slots_lines version s ++ b.lines) × IsSlotCount version s
by_version version true s a b t e =
    let same : a_place 0 a ≡ a_place s b = cc in
    let none : slots_lines version s ≡ [] = ap (λ q. cond q [] ((codes "slots" ∷ decimal s ∷ []) ∷ [])) t in
    (ap (λ (p : ℕ × At). p.1.lines) same ∙ ap (λ (ls : List Words). ls ++ b.lines) (sym none), rw t tt)
by_version version false s a b t e =
    let l = line_found slots_of s a b (keyed_none (codes "slots") (decimal_below (2 ^ 32))) e in
    let w = slots_line_found l.0 s l.2 in
    let one : slots_lines version s ≡ (codes "slots" ∷ decimal s ∷ []) ∷ [] = ap (λ q. cond q [] ((codes "slots" ∷ decimal s ∷ []) ∷ [])) t in
    (l.1 ∙ ap (λ (v : Words). v ∷ b.lines) w.0 ∙ ap (λ (ls : List Words). ls ++ b.lines) (sym one), rw t w.1)

pub slots_found : (version s : ℕ) (a b : At) → slots_at version a ≡ Ok (a_place s b) → (a.lines ≡ slots_lines version s ++ b.lines) × IsSlotCount version s
slots_found version s a b e = by_version version (eqb version 1) s a b refl e
