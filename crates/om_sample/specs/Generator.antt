-- The states of the generator, and the numbers that it draws.
use Rattle.std.specs.Prelude.{ℕ, zero, suc, ◌+◌, ◌*◌, ◌/◌, ◌%◌, ◌^◌}
use Rattle.om_sample.specs.declared.limits.TheConstants.{DRAW_UNIT, INCREMENT, MULTIPLIER}

abbrev pub next_state : ℕ → ℕ
next_state x = (MULTIPLIER * x + INCREMENT) % 2 ^ 64

-- the state after n draws
unfoldable pub state_after : ℕ → ℕ → ℕ
state_after x zero = x
state_after x (suc n) = next_state (state_after x n)

-- draw number n from a state on, counted from 0: the upper 16 bits of the state after it
abbrev pub draw : ℕ → ℕ → ℕ
draw x n = state_after x (suc n) / DRAW_UNIT
