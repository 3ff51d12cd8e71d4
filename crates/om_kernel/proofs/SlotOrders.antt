-- Orders of four slots, and the holes of a vertex by number.
use Rattle.std.proofs.Common.{◌≡◌, ◌≢◌, ◌<◌, ◌≤◌, ℕ, zero, suc, ◌⊎◌, inl, inr, sym, subst, arith}
use Rattle.om_lorentz.specs.Structures.{IsSlot}

-- what holds at the slots 1, 2 and 3 holds at each of three slots
pub three_slots : (P : ℕ → Type 0) → P 1 → P 2 → P 3 → (n : ℕ) → 1 ≤ n → n ≤ 3 → P n
three_slots P a b c zero low high = absurd (omega arith)
three_slots P a b c (suc zero) low high = a
three_slots P a b c (suc (suc zero)) low high = b
three_slots P a b c (suc (suc (suc zero))) low high = c
three_slots P a b c (suc (suc (suc (suc n)))) low high = absurd (omega arith)

-- the same of four slots
pub four_slots : (P : ℕ → Type 0) → P 1 → P 2 → P 3 → P 4 → (n : ℕ) → IsSlot n → P n
four_slots P a b c d zero h = absurd (omega arith)
four_slots P a b c d (suc zero) h = a
four_slots P a b c d (suc (suc zero)) h = b
four_slots P a b c d (suc (suc (suc zero))) h = c
four_slots P a b c d (suc (suc (suc (suc zero)))) h = d
four_slots P a b c d (suc (suc (suc (suc (suc n))))) h = absurd (omega arith)

-- one of two different numbers is the smaller one
differ : (x y : ℕ) → x ≢ y → (x < y) ⊎ (y < x)
differ x y h = grind arith

-- what holds of 1, 2, 3, 4 and of an order with two neighbours exchanged holds of each order
module _ (P : ℕ → ℕ → ℕ → ℕ → Type 0) (written : P 1 2 3 4)
    (front : (a b c d : ℕ) → P a b c d → P b a c d) (middle : (a b c d : ℕ) → P a b c d → P a c b d) (back : (a b c d : ℕ) → P a b c d → P a b d c) where
  rising : (a b c d : ℕ) → 1 ≤ a → a < b → b < c → c < d → d ≤ 4 → P a b c d
  rising a b c d h1 h2 h3 h4 h5 =
      let ea : 1 ≡ a = omega arith in
      let eb : 2 ≡ b = omega arith in
      let ec : 3 ≡ c = omega arith in
      let ed : 4 ≡ d = omega arith in
      subst (λ u. P a b c u) ed (subst (λ u. P a b u 4) ec (subst (λ u. P a u 3 4) eb (subst (λ u. P u 2 3 4) ea written)))

  -- the last of the four is put in its place
  three_rise : (a b c d : ℕ) → 1 ≤ a → a < b → b < c → c ≤ 4 → IsSlot d → d ≢ a → d ≢ b → d ≢ c → P a b c d
  three_rise a b c d h1 h2 h3 h4 h5 na nb nc = elim (differ d c nc) [
    | inr x ↦ rising a b c d h1 h2 h3 x h5.1
    | inl x ↦ back a b d c (elim (differ d b nb) [
      | inr y ↦ rising a b d c h1 h2 y x h4
      | inl y ↦ middle a d b c (elim (differ d a na) [
        | inr z ↦ rising a d b c h1 z y h3 h4
        | inl z ↦ front d a b c (rising d a b c h5.0 z h2 h3 h4)
      ])
    ])
  ]

  -- so are the last two
  two_rise : (a b c d : ℕ) → 1 ≤ a → a < b → b ≤ 4 → IsSlot c → IsSlot d → c ≢ a → c ≢ b → d ≢ a → d ≢ b → d ≢ c → P a b c d
  two_rise a b c d h1 h2 h3 hc hd ca cb da db dc = elim (differ c b cb) [
    | inr x ↦ three_rise a b c d h1 h2 x hc.1 hd da db dc
    | inl x ↦ middle a c b d (elim (differ c a ca) [
      | inr y ↦ three_rise a c b d h1 y x h3 hd da dc db
      | inl y ↦ front c a b d (three_rise c a b d hc.0 y h2 h3 hd dc da db)
    ])
  ]

  pub any_order : (a b c d : ℕ) → IsSlot a → IsSlot b → IsSlot c → IsSlot d → a ≢ b → a ≢ c → a ≢ d → b ≢ c → b ≢ d → c ≢ d → P a b c d
  any_order a b c d ha hb hc hd ab ac ad bc bd cd = elim (differ a b ab) [
    | inl x ↦ two_rise a b c d ha.0 x hb.1 hc hd (λ e. ac (sym e)) (λ e. bc (sym e)) (λ e. ad (sym e)) (λ e. bd (sym e)) (λ e. cd (sym e))
    | inr x ↦ front b a c d (two_rise b a c d hb.0 x ha.1 hc hd (λ e. bc (sym e)) (λ e. ac (sym e)) (λ e. bd (sym e)) (λ e. ad (sym e)) (λ e. cd (sym e)))
  ]
