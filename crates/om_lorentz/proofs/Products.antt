-- Products with 0, 1, -1 and -i, and differences turned round.
use Rattle.std.proofs.Common.{◌≡◌, ◌≢◌, ℕ, zero, suc, refl, ◌∙◌, ap}
use Rattle.om_ring.specs.Ops.{Ops, Laws}
use Rattle.om_ring.proofs.RingLemmas.{one_times, times_zero, minus_times, times_minus, minus_plus, minus_minus}
use Rattle.om_lorentz.specs.Matrices.{lower_at}

module _ {E : Type 0} (o : Ops E) (l : Laws o) where
  -- 0 x = 0
  pub zero_times : (x : E) → o.times o.zero x ≡ o.zero
  zero_times x = l.times_comm o.zero x ∙ times_zero o l x

  -- -1 x = -x
  pub minus_one_times : (x : E) → o.times (o.minus o.one) x ≡ o.minus x
  minus_one_times x = minus_times o l o.one x ∙ ap o.minus (one_times o l x)

  -- x (-1) = -x
  pub times_minus_one : (x : E) → o.times x (o.minus o.one) ≡ o.minus x
  times_minus_one x = times_minus o l x o.one ∙ ap o.minus (l.times_one x)

  -- -(x - y) = y - x
  pub minus_difference : (x y : E) → o.minus (o.plus x (o.minus y)) ≡ o.plus y (o.minus x)
  minus_difference x y = minus_plus o l x (o.minus y) ∙ ap (o.plus (o.minus x)) (minus_minus o l y) ∙ l.plus_comm (o.minus x) y

  -- lowering a space index turns a difference round
  pub lower_at-difference : (mu : ℕ) (x y : E) → mu ≢ 0 → lower_at o mu (o.plus x (o.minus y)) ≡ o.plus y (o.minus x)
  lower_at-difference zero x y h = absurd (h refl)
  lower_at-difference (suc k) x y h = minus_difference x y
