-- The words of slots and factors are read again.
use Rattle.std.proofs.Common.{◌≡◌, ℕ, ◌≤◌, eqb, Bool, true, false, cond, List, ◌∷◌, length, map, codes, Option, Some, None, refl, sym, ap, ◌∙◌, arith}
use Rattle.std.specs.List.{AllByRecursion}
use Rattle.std.specs.Str.{bytes_eq}
use Rattle.std.proofs.lemmas.Bool.Decides.{nat_tests}
use Rattle.om_ring.specs.declared.numeral.Numeral.{Numeral}
use Rattle.om_model.specs.Name.{is_name}
use Rattle.om_model.specs.FieldNames.{field_named}
use Rattle.om_model.specs.declared.model.Particle.{Particle}
use Rattle.om_io.specs.Lines.{Words}
use Rattle.om_program_text.specs.Words.{product_word}
use Rattle.om_ring.specs.OptionSteps.{◌>>=◌}
use Rattle.om_asm.specs.Reading.{product_of}
use Rattle.om_asm.specs.VertexSlots.{slot_of, fourth_slot, factors_of}
use Rattle.om_asm.proofs.SpeltLemmas.{same_bytes}
use Rattle.om_asm.specs.FirstBad.{IsReadableProduct}
use Rattle.om_asm.proofs.ModelWordsAgain.{product_again, list_again}

no_colon : (w : List ℕ) → is_name w ≡ true → bytes_eq w (codes ":") ≡ false
no_colon w h = by (bytes_eq w (codes ":")) refl
  where
    by : (b : Bool) → bytes_eq w (codes ":") ≡ b → b ≡ false
    by true e = let n : is_name (codes ":") ≡ true = ap is_name (sym (same_bytes w (codes ":") e)) ∙ h in cc
    by false e = refl

abbrev fourth : Option (Option ℕ) → Words → Option (Option (Option ℕ) × Words)
fourth slot rest = Some (slot, rest)

pub no_fourth_again : (ps : List Particle) (rest : Words) → fourth_slot ps (codes ":" ∷ rest) ≡ fourth None rest
unfolding fourth_slot
no_fourth_again ps rest = refl

pub fourth_said : (ps : List Particle) (w : List ℕ) (rest : Words) → is_name w ≡ true → fourth_slot ps (w ∷ codes ":" ∷ rest) ≡ fourth (Some (field_named ps w)) rest
unfolding fourth_slot
fourth_said ps w rest n =
    ap (λ b. cond b (fourth None (codes ":" ∷ rest)) (slot_of ps w >>= λ slot. fourth (Some slot) rest)) (no_colon w n)
    ∙ ap (λ b. cond b (Some (field_named ps w)) None >>= λ slot. fourth (Some slot) rest) n

pub factors_again : (fs : List (List Numeral)) → AllByRecursion IsReadableProduct fs → 1 ≤ length fs → length fs ≤ 3 → factors_of (map product_word fs) ≡ Some fs
unfolding factors_of
factors_again fs h some few =
    let t : eqb (length fs) 0 ≡ false = grind (arith, nat_tests) in
    ap (λ o. o >>= λ ys. cond (eqb (length ys) 0) None (Some ys)) (list_again product_of product_word IsReadableProduct (λ p q. product_again p q.0 q.1) 3 0 fs h (omega arith))
    ∙ ap (λ b. cond b None (Some fs)) t
