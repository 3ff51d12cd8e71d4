-- The instructions that keep the rules, one after the other.
use Rattle.std.proofs.Common.{◌≡◌, ℕ, suc, ◌+◌, ◌≤◌, inl, inr, List, [], ◌∷◌, length, Some, refl, sym, ◌∙◌, ap, subst, arith}
use Rattle.std.specs.Prelude.{slice_get}
use Rattle.std.specs.List.{list_any}
use Rattle.std.proofs.lemmas.Bool.{cases_order}
use Rattle.std.proofs.lemmas.Option.{slice_get_within}
use Rattle.om_code.specs.declared.code.Code.{Code}
use Rattle.om_code.specs.declared.code.Instr.{Instr}
use Rattle.om_code.specs.declared.slots.Held.{Held}
use Rattle.om_code.specs.Laws.{RulesByWalk}
use Rattle.om_code.specs.Rules.{IsSettled, KeepsAll, KeepsRules}
use Rattle.om_code.specs.Slots.{after, at_start, held_before, is_gathering}
use Rattle.om_code.proofs.Instrs.{held-more, same-instr}

-- the instructions from place k on, where the slots hold this before them
record StandsFrom (c : Code) (k : ℕ) (st : List Held) (is : List Instr) : Type 0 where
  held : st ≡ held_before c k
  at : (j : ℕ) → slice_get is j ≡ slice_get c.instrs (k + j)
  length_is : k + length is ≡ length c.instrs

module _ (c : Code) where
  here : (k : ℕ) (st : List Held) (i : Instr) (is : List Instr) → StandsFrom c k st (i ∷ is) → slice_get c.instrs k ≡ Some i
  here k st i is s = (let same : k ≡ k + 0 = omega arith in ap (slice_get c.instrs) same) ∙ sym (s.at 0)

  next : (k : ℕ) (st : List Held) (i : Instr) (is : List Instr) → StandsFrom c k st (i ∷ is) → StandsFrom c (k + 1) (after c st i) is
  next k st i is s = record {
    held = ap (λ h. after c h i) s.held ∙ held-more c k i (here k st i is s);
    at = λ j. s.at (suc j) ∙ (let same : k + suc j ≡ k + 1 + j = omega arith in ap (slice_get c.instrs) same);
    length_is = let e : k + suc (length is) ≡ length c.instrs = s.length_is in omega arith;
  }

  first : StandsFrom c 0 (at_start c) c.instrs
  first = record {
    held = refl;
    at = λ j. let same : j ≡ 0 + j = omega arith in ap (slice_get c.instrs) same;
    length_is = omega arith;
  }

  abbrev KeepFrom : ℕ → Type 0
  KeepFrom k = (j : ℕ) (i : Instr) → k ≤ j → slice_get c.instrs j ≡ Some i → KeepsRules c (held_before c j) i

  at-end : (k : ℕ) (st : List Held) → StandsFrom c k st [] → st ≡ held_before c (length c.instrs)
  at-end k st s = s.held ∙ (let e : k + 0 ≡ length c.instrs = s.length_is in let same : k ≡ length c.instrs = omega arith in ap (held_before c) same)

  each-keeps : (k : ℕ) (st : List Held) (is : List Instr) → StandsFrom c k st is → KeepsAll c st is → KeepFrom k × IsSettled c
  each-keeps k st [] s h = (
    (λ j i le there. absurd (let lt = slice_get_within c.instrs j i there in let e : k + 0 ≡ length c.instrs = s.length_is in omega (arith, lt))),
    ap (list_any is_gathering) (sym (at-end k st s)) ∙ h,
  )
  each-keeps k st (i ∷ is) s h =
      let rest = each-keeps (k + 1) (after c st i) is (next k st i is s) h.1 in
      let now : KeepsRules c (held_before c k) i = subst (λ m. KeepsRules c m i) s.held h.0 in (
        (λ j l le there. elim (cases_order j k) [
          | inl same ↦ (
              let same_i : l ≡ i = same-instr c k j i l (sym same) (here k st i is s) there in
              subst (KeepsRules c (held_before c j)) (sym same_i) (subst (λ m. KeepsRules c (held_before c m) i) (sym same) now)
              )
          | inr (inl less) ↦ absurd (omega arith)
          | inr (inr more) ↦ rest.0 j l (omega arith) there
        ]),
        rest.1,
      )

  all-keep : (k : ℕ) (st : List Held) (is : List Instr) → StandsFrom c k st is → KeepFrom 0 → IsSettled c → KeepsAll c st is
  all-keep k st [] s keep settled = ap (list_any is_gathering) (at-end k st s) ∙ settled
  all-keep k st (i ∷ is) s keep settled = (
    subst (λ m. KeepsRules c m i) (sym s.held) (keep k i (omega arith) (here k st i is s)),
    all-keep (k + 1) (after c st i) is (next k st i is s) keep settled,
  )

pub rules-by-walk : RulesByWalk
rules-by-walk c = (
  (λ h. let r = each-keeps c 0 (at_start c) c.instrs (first c) h in ((λ k i there. r.0 k i (omega arith) there), r.1)),
  (λ h. all-keep c 0 (at_start c) c.instrs (first c) (λ k i le there. h.0 k i there) h.1),
)
