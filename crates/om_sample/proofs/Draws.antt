-- The states of the generator, one behind the other.
use Rattle.std.proofs.Common.{◌≡◌, ℕ, zero, suc, ◌+◌, ◌*◌, ◌/◌, ◌%◌, ◌^◌, refl, ap, sym, ◌∙◌, arith}
use Rattle.std.proofs.Math.Nat.{mod-add-mod}
use Rattle.om_ring.specs.Ops.{Ops, number_of}
use Rattle.om_machine.proofs.WaveForms.{four-eq}
use Rattle.om_sample.specs.Generator.{draw, next_state, state_after}
use Rattle.om_sample.specs.Events.{drawn, drawn_momentum}
use Rattle.om_sample.specs.declared.limits.TheConstants.{DRAW_UNIT, INCREMENT, MULTIPLIER}

-- by sums and products that wrap
pub wrapped : (x : ℕ) → (x * MULTIPLIER % 2 ^ 64 + INCREMENT) % 2 ^ 64 ≡ next_state x
wrapped x = mod-add-mod (x * MULTIPLIER) (2 ^ 64) INCREMENT ∙ (let e : x * MULTIPLIER ≡ MULTIPLIER * x = omega arith in ap (λ n. (n + INCREMENT) % 2 ^ 64) e)

pub first_draw : (x : ℕ) → draw x 0 ≡ next_state x / DRAW_UNIT
unfolding state_after
first_draw x = refl

pub none_drawn : (x : ℕ) → state_after x 0 ≡ x
unfolding state_after
none_drawn x = refl

pub one_drawn : (x : ℕ) → state_after x 1 ≡ next_state x
unfolding state_after
one_drawn x = refl

pub and_then : (x m n : ℕ) → state_after (state_after x m) n ≡ state_after x (m + n)
unfolding state_after
and_then x m zero = (let e : m ≡ m + 0 = omega arith in ap (state_after x) e)
and_then x m (suc n) = ap next_state (and_then x m n) ∙ (let e : suc (m + n) ≡ m + suc n = omega arith in ap (state_after x) e)

-- the next state
pub one_more : (x m : ℕ) → next_state (state_after x m) ≡ state_after x (m + 1)
one_more x m = sym (one_drawn (state_after x m)) ∙ and_then x m 1

-- a draw from a later state
pub later_draw : (x m n k : ℕ) → k ≡ m + n → draw (state_after x m) n ≡ draw x k
later_draw x m n k e = (let s : m + suc n ≡ suc k = omega (arith, e) in ap (λ y. y / DRAW_UNIT) (and_then x m (suc n) ∙ ap (state_after x) s))

pub four_states : (x a b c d : ℕ) → a ≡ next_state x → b ≡ next_state a → c ≡ next_state b → d ≡ next_state c → d ≡ state_after x 4
four_states x a b c d ea eb ec ed =
    let at_a : a ≡ state_after x 1 = ea ∙ sym (one_drawn x) in
    let at_b : b ≡ state_after x 2 = eb ∙ ap next_state at_a ∙ one_more x 1 in
    let at_c : c ≡ state_after x 3 = ec ∙ ap next_state at_b ∙ one_more x 2 in
    ed ∙ ap next_state at_c ∙ one_more x 3

module _ {E : Type 0} (o : Ops E) where
  pub later_drawn : (x m n k : ℕ) → k ≡ m + n → drawn o (state_after x m) n ≡ drawn o x k
  later_drawn x m n k e = ap (number_of o) (later_draw x m n k e)

  -- four draws
  pub four_drawn : (x a b c : ℕ) → a ≡ next_state x → b ≡ next_state a → c ≡ next_state b
      → (t i j k : E) → t ≡ drawn o x 0 → i ≡ drawn o a 0 → j ≡ drawn o b 0 → k ≡ drawn o c 0 → record { t = t; x = i; y = j; z = k } ≡ drawn_momentum o x 1
  four_drawn x a b c ea eb ec t i j k et ei ej ek =
      let at_a : a ≡ state_after x 1 = ea ∙ sym (one_drawn x) in
      let at_b : b ≡ state_after x 2 = eb ∙ ap next_state at_a ∙ one_more x 1 in
      let at_c : c ≡ state_after x 3 = ec ∙ ap next_state at_b ∙ one_more x 2 in
      let ti : i ≡ drawn o x 1 = ei ∙ ap (λ s. drawn o s 0) at_a ∙ later_drawn x 1 0 1 refl in
      let tj : j ≡ drawn o x 2 = ej ∙ ap (λ s. drawn o s 0) at_b ∙ later_drawn x 2 0 2 refl in
      let tk : k ≡ drawn o x 3 = ek ∙ ap (λ s. drawn o s 0) at_c ∙ later_drawn x 3 0 3 refl in
      four-eq t i j k _ _ _ _ et ti tj tk
