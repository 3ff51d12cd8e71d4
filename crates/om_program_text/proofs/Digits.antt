-- The decimals of short numbers, digit by digit.
use Rattle.std.proofs.Common.{◌≡◌, ℕ, ◌+◌, ◌<◌, ◌≤◌, ◌/◌, ◌%◌, [], ◌∷◌, ◌++◌, decimal, sym, ap, ◌∙◌, arith}
use Rattle.std.proofs.lemmas.Fmt.{decimal_digit, decimal_step}

pub one_digit : (n : ℕ) → n < 10 → (48 + n) ∷ [] ≡ decimal n
one_digit n lt = sym (decimal_digit n lt)

pub two_digits : (n : ℕ) → 10 ≤ n → n < 100 → (48 + n / 10) ∷ (48 + n % 10) ∷ [] ≡ decimal n
two_digits n le lt = sym (decimal_step n le (omega (arith, lt)) ∙ ap (λ t. t ++ (48 + n % 10) ∷ []) (decimal_digit (n / 10) (omega (arith, lt))))

pub three_digits : (n : ℕ) → 100 ≤ n → n < 1000 → (48 + n / 10 / 10) ∷ (48 + n / 10 % 10) ∷ (48 + n % 10) ∷ [] ≡ decimal n
three_digits n le lt = sym (decimal_step n (omega (arith, le)) (omega (arith, lt)) ∙ ap (λ t. t ++ (48 + n % 10) ∷ []) (sym (two_digits (n / 10) (omega (arith, le)) (omega (arith, lt)))))

pub four_digits : (n : ℕ) → 1000 ≤ n → n < 10000 → (48 + n / 10 / 10 / 10) ∷ (48 + n / 10 / 10 % 10) ∷ (48 + n / 10 % 10) ∷ (48 + n % 10) ∷ [] ≡ decimal n
four_digits n le lt = sym (decimal_step n (omega (arith, le)) (omega (arith, lt)) ∙ ap (λ t. t ++ (48 + n % 10) ∷ []) (sym (three_digits (n / 10) (omega (arith, le)) (omega (arith, lt)))))
