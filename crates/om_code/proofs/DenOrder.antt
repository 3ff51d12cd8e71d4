-- The order of denominators as an order of lists of numbers.
use Rattle.std.proofs.Common.{◌≡◌, ◌↔◌, ℕ, inl, inr, [], ◌∷◌, Bool, true, false, cond, ltb, refl, sym, ◌∙◌, ap, arith, true≢false}
use Rattle.std.specs.Cmp.{nat_cmp_is}
use Rattle.std.specs.Ordering.{nat_cmp, ordering_then}
use Rattle.std.specs.declared.cmp.Ordering.{Ordering}
use Rattle.std.specs.declared.cmp.Ordering.TheVariants.{Less, Equal, Greater}
use Rattle.std.proofs.lemmas.Bool.{cases_order}
use Rattle.std.proofs.lemmas.Bool.Decides.{nat_tests}
use Rattle.om_model.specs.Order.{numbers_lt}
use Rattle.om_code.specs.Laws.{DensByNumbers}

greater-less : Greater ≡ Less → ⊥
greater-less e = cc

-- one number, and then others
then-others : (x y : ℕ) (o : Ordering) (r : Bool) → (o ≡ Less) ↔ (r ≡ true) → (ordering_then (nat_cmp x y) o ≡ Less) ↔ (cond (ltb x y) true (cond (ltb y x) false r) ≡ true)
then-others x y o r h = elim (cases_order x y) [
  | inl e ↦ (
      let c : Equal ≡ nat_cmp x y = nat_cmp_is x y Equal e in
      let a : ltb x y ≡ false = grind (arith, nat_tests) in
      let b : ltb y x ≡ false = grind (arith, nat_tests) in
      let left : ordering_then (nat_cmp x y) o ≡ o = ap (λ p. ordering_then p o) (sym c) in
      let right : cond (ltb x y) true (cond (ltb y x) false r) ≡ r = ap (λ p. cond p true (cond (ltb y x) false r)) a ∙ ap (λ p. cond p false r) b in
      (λ q. right ∙ h.0 (sym left ∙ q), λ q. left ∙ h.1 (sym right ∙ q))
      )
  | inr (inl lt) ↦ (
      let c : Less ≡ nat_cmp x y = nat_cmp_is x y Less lt in
      let a : ltb x y ≡ true = grind (arith, nat_tests) in
      (λ q. ap (λ p. cond p true (cond (ltb y x) false r)) a, λ q. ap (λ p. ordering_then p o) (sym c))
      )
  | inr (inr gt) ↦ (
      let c : Greater ≡ nat_cmp x y = nat_cmp_is x y Greater gt in
      let a : ltb x y ≡ false = grind (arith, nat_tests) in
      let b : ltb y x ≡ true = grind (arith, nat_tests) in
      let left : ordering_then (nat_cmp x y) o ≡ Greater = ap (λ p. ordering_then p o) (sym c) in
      let right : cond (ltb x y) true (cond (ltb y x) false r) ≡ false = ap (λ p. cond p true (cond (ltb y x) false r)) a ∙ ap (λ p. cond p false r) b in
      (λ q. absurd (greater-less (sym left ∙ q)), λ q. absurd (true≢false (sym q ∙ right)))
      )
]

then-none : (o : Ordering) → ordering_then o Equal ≡ o
then-none Less = refl
then-none Equal = refl
then-none Greater = refl

never : (Equal ≡ Less) ↔ (false ≡ true)
never = (λ e. absurd (equal-less e), λ e. absurd (true≢false (sym e)))
  where
    equal-less : Equal ≡ Less → ⊥
    equal-less e = cc

pub dens-by-numbers : DensByNumbers
unfolding numbers_lt
dens-by-numbers a b =
    let fields = then-others a.field b.field Equal false never in
    let alone = then-none (nat_cmp a.field b.field) in
    then-others a.legs b.legs (nat_cmp a.field b.field) (numbers_lt (a.field ∷ []) (b.field ∷ [])) (λ q. fields.0 (alone ∙ q), λ q. sym alone ∙ fields.1 q)
