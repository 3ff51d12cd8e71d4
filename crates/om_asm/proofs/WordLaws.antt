-- Words that say what they spell.
use Rattle.std.proofs.Common.{◌≡◌, ℕ, ◌-◌, ◌^◌, ◌<◌, ◌≤◌, eqb, Bool, true, false, cond, List, [], ◌∷◌, decimal, codes, Option, Some, None, refl, sym, ap, ◌∙◌, arith}
use Rattle.std.specs.Str.{bytes_eq}
use Rattle.std.proofs.lemmas.Bool.Decides.{nat_tests}
use Rattle.om_code.specs.Plain.{IsPlace}
use Rattle.om_io.specs.Lines.{Words}
use Rattle.om_model.specs.TermText.{place_word, sign_word}
use Rattle.om_asm.specs.Lines.{word_by, no_more}
use Rattle.om_ring.specs.OptionSteps.{◌>>=◌}
use Rattle.om_asm.specs.Spelt.{place_of, leg_of}
use Rattle.om_ring.specs.Spelt.{decimal_below}
use Rattle.om_asm.specs.Instrs.{sign_of}
use Rattle.om_asm.proofs.SpeltLemmas.{one_place, same_bytes}
use Rattle.om_ring.proofs.SpeltLemmas.{spelt_found, spelt_some, decimal_read}

-- a reader of a word finds what the word spells, and nothing that is spelled is refused
pub record IsWord {A : Type 0} (read : List ℕ → Option A) (text : A → List ℕ) (fits : A → Type 0) : Type 0 where
  pub found : (w : List ℕ) (x : A) → read w ≡ Some x → (text x ≡ w) × fits x
  pub again : (x : A) → fits x → read (text x) ≡ Some x

pub bind_some : {A B : Type 0} (o : Option A) (f : A → Option B) (y : B) → (o >>= f) ≡ Some y → (x : A) × (o ≡ Some x) × (f x ≡ Some y)
bind_some (Some x) f y e = (x, refl, e)
bind_some None f y e = absurd cc

module _ {A B : Type 0} (read : List ℕ → Option A) (text : A → List ℕ) (fits : A → Type 0) (law : IsWord read text fits) where
  -- the first word was read
  pub took : (words : Words) (f : A × Words → Option B) (y : B) → (word_by read words >>= f) ≡ Some y → (x : A) × (rest : Words) × (words ≡ text x ∷ rest) × fits x × (f (x, rest) ≡ Some y)
  took [] f y e = absurd cc
  took (w ∷ ws) f y e =
      let b = bind_some (read w >>= λ x. Some (x, ws)) f y e in
      let d = bind_some (read w) (λ x. Some (x, ws)) b.0 b.1 in
      let l = law.found w d.0 d.1 in
      let same : b.0 ≡ (d.0, ws) = cc in
      (d.0, ws, ap (λ (v : List ℕ). v ∷ ws) (sym l.0), l.1, ap f (sym same) ∙ b.2)

  -- a word that is spelled is read
  pub put : (x : A) (rest : Words) (f : A × Words → Option B) → fits x → (word_by read (text x ∷ rest) >>= f) ≡ f (x, rest)
  put x rest f h = ap (λ (o : Option A). (o >>= λ y. Some (y, rest)) >>= f) (law.again x h)

pub ended : {B : Type 0} (words : Words) (f : Unit {0} → Option B) (y : B) → (no_more words >>= f) ≡ Some y → (words ≡ []) × (f tt ≡ Some y)
ended [] f y e = (refl, e)
ended (w ∷ ws) f y e = absurd cc

pub place_law : IsWord place_of place_word IsPlace
place_law = record {
  found = λ w x e. let f = spelt_found place_word (2 ^ 32 - 1) w x e in (f.1, f.0);
  again = λ x h. spelt_some place_word (2 ^ 32 - 1) (place_word x) x h refl one_place;
}

pub number_law : (limit : ℕ) → limit ≤ 2 ^ 64 → IsWord (decimal_below limit) decimal (λ n. n < limit)
number_law limit h = record {
  found = λ w x e. let f = spelt_found decimal limit w x e in (f.1, f.0);
  again = λ x l. decimal_read x limit (decimal x) l h refl;
}

abbrev pub IsLegNumber : ℕ → Type 0
IsLegNumber n = (1 ≤ n) × (n < 256)

not_zero : (n x : ℕ) (b : Bool) → eqb n 0 ≡ b → cond b None (Some n) ≡ Some x → (n ≡ x) × (1 ≤ n)
not_zero n x true e h = absurd cc
not_zero n x false e h = (cc, grind (arith, nat_tests))

leg_found : (w : List ℕ) (x : ℕ) → leg_of w ≡ Some x → (decimal x ≡ w) × IsLegNumber x
leg_found w x e =
    let b = bind_some (decimal_below 256 w) (λ n. cond (eqb n 0) None (Some n)) x e in
    let f = spelt_found decimal 256 w b.0 b.1 in
    let z = not_zero b.0 x (eqb b.0 0) refl b.2 in
    (ap decimal (sym z.0) ∙ f.1, (omega (arith, z.0, z.1), omega (arith, z.0, f.0)))

leg_again : (x : ℕ) → IsLegNumber x → leg_of (decimal x) ≡ Some x
leg_again x h =
    let n = decimal_read x 256 (decimal x) h.1 (omega arith) refl in
    let t : eqb x 0 ≡ false = grind (arith, nat_tests) in
    ap (λ (o : Option ℕ). o >>= λ n. cond (eqb n 0) None (Some n)) n ∙ ap (λ b. cond b None (Some x)) t

pub leg_law : IsWord leg_of decimal IsLegNumber
leg_law = record { found = leg_found; again = leg_again }

sign_found : (w : List ℕ) (x a b : Bool) → bytes_eq w (codes "-") ≡ a → bytes_eq w (codes "+") ≡ b → cond a (Some true) (cond b (Some false) None) ≡ Some x → sign_word x ≡ w
sign_found w x true b p q e = let s : true ≡ x = cc in ap sign_word (sym s) ∙ sym (same_bytes w (codes "-") p)
sign_found w x false true p q e = let s : false ≡ x = cc in ap sign_word (sym s) ∙ sym (same_bytes w (codes "+") q)
sign_found w x false false p q e = absurd cc

sign_again : (x : Bool) → Unit {0} → sign_of (sign_word x) ≡ Some x
sign_again true h = refl
sign_again false h = refl

pub sign_law : IsWord sign_of sign_word (λ _. Unit {0})
sign_law = record { found = λ w x e. (sign_found w x (bytes_eq w (codes "-")) (bytes_eq w (codes "+")) refl refl e, tt); again = sign_again }
