-- Pairs of legs in falling order.
use Rattle.std.specs.Prelude.{ℕ, zero, suc, ◌+◌, ◌%◌, List, Bool, nat_lt, ◌==◌}
use Rattle.std.specs.Int.{bit_at}
use Rattle.std.specs.List.{sum_by, count_by}

-- how many pairs have an x of the first list and a lesser y of the second
abbrev pub crossings : List ℕ → List ℕ → ℕ
crossings xs ys = sum_by (λ x. count_by (λ y. nat_lt y x) ys) xs

-- whether a number is odd
abbrev pub is_odd : ℕ → Bool
is_odd n = n % 2 == 1

-- the sum of the lowest n bits
unfoldable pub bit_sum : ℕ → ℕ → ℕ
bit_sum x zero = 0
bit_sum x (suc n) = bit_sum x n + bit_at x n
