-- Reading orders: their slots, and the slots before a hole.
use Rattle.std.proofs.Common.{◌≡◌, ◌≢◌, ◌≤◌, ◌==◌, ℕ, Bool, true, false, if◌then◌else◌, inl, inr, refl, sym, subst, arith}
use Rattle.std.proofs.lemmas.Bool.Decides.{nat_tests, eqb_tells}
use Rattle.om_ring.specs.Ops.{Ops, Laws}
use Rattle.om_lorentz.specs.declared.structures.Reading.{Reading}
use Rattle.om_lorentz.specs.declared.structures.Structure.TheVariants.{Vvv, Gluon4}
use Rattle.om_lorentz.specs.Structures.{IsSlot, IsReading, read}
use Rattle.om_kernel.specs.Forms.{two_before, three_before}
use Rattle.om_kernel.proofs.SlotSums.{Ordered, exchange12, exchange23, exchange34}
use Rattle.om_kernel.proofs.SlotOrders.{any_order}

-- four different slots
pub record FourSlots (a b c d : ℕ) : Type 0 where
  pub a_in : IsSlot a
  pub b_in : IsSlot b
  pub c_in : IsSlot c
  pub d_in : IsSlot d
  pub ab : a ≢ b
  pub ac : a ≢ c
  pub ad : a ≢ d
  pub bc : b ≢ c
  pub bd : b ≢ d
  pub cd : c ≢ d

-- what holds of the written order and of neighbours exchanged holds of four different slots
slots_any : (P : ℕ → ℕ → ℕ → ℕ → Type 0) → P 1 2 3 4 → ((a b c d : ℕ) → P a b c d → P b a c d) → ((a b c d : ℕ) → P a b c d → P a c b d) → ((a b c d : ℕ) → P a b c d → P a b d c) →
    (a b c d : ℕ) → FourSlots a b c d → P a b c d
slots_any P w x y z a b c d h = any_order P w x y z a b c d h.a_in h.b_in h.c_in h.d_in h.ab h.ac h.ad h.bc h.bd h.cd

-- no slot is beside all of them
abbrev Covers : ℕ → ℕ → ℕ → ℕ → Type 0
Covers a b c d = (h : ℕ) → IsSlot h → h ≢ a → h ≢ b → h ≢ c → h ≢ d → ⊥

covers : (a b c d : ℕ) → FourSlots a b c d → Covers a b c d
covers = slots_any Covers
    (λ h s w x y z. omega arith)
    (λ a b c d p h s w x y z. p h s x w y z)
    (λ a b c d p h s w x y z. p h s w y x z)
    (λ a b c d p h s w x y z. p h s w x z y)

-- a slot that isn't three of them is the other one
the_other : (a b c d h : ℕ) → FourSlots a b c d → IsSlot h → h ≢ a → h ≢ b → h ≢ d → h ≡ c
the_other a b c d h f s na nb nd = elim (eqb_tells h c) [ inl e ↦ e.1 | inr e ↦ absurd (covers a b c d f h s na nb e.1 nd) ]

-- the four slots of a reading of four
pub reads_four : (r : Reading) → IsReading Gluon4 r → FourSlots (read r 1) (read r 2) (read r 3) (read r 4)
reads_four r h = record {
  a_in = h.in_range 1 (omega arith) (omega arith);
  b_in = h.in_range 2 (omega arith) (omega arith);
  c_in = h.in_range 3 (omega arith) (omega arith);
  d_in = h.in_range 4 (omega arith) (omega arith);
  ab = h.distinct 1 2 (omega arith) (omega arith) (omega arith);
  ac = h.distinct 1 3 (omega arith) (omega arith) (omega arith);
  ad = h.distinct 1 4 (omega arith) (omega arith) (omega arith);
  bc = h.distinct 2 3 (omega arith) (omega arith) (omega arith);
  bd = h.distinct 2 4 (omega arith) (omega arith) (omega arith);
  cd = h.distinct 3 4 (omega arith) (omega arith) (omega arith);
}

-- the three slots of a reading of three, and the slot past the vertex
pub reads_three : (r : Reading) → IsReading Vvv r → FourSlots (read r 1) (read r 2) (read r 3) 4
reads_three r h =
    let a = h.in_range 1 (omega arith) (omega arith) in
    let b = h.in_range 2 (omega arith) (omega arith) in
    let c = h.in_range 3 (omega arith) (omega arith) in
    record {
      a_in = (a.0, omega arith);
      b_in = (b.0, omega arith);
      c_in = (c.0, omega arith);
      d_in = (omega arith, omega arith);
      ab = h.distinct 1 2 (omega arith) (omega arith) (omega arith);
      ac = h.distinct 1 3 (omega arith) (omega arith) (omega arith);
      ad = λ e. omega arith;
      bc = h.distinct 2 3 (omega arith) (omega arith) (omega arith);
      bd = λ e. omega arith;
      cd = λ e. omega arith;
    }

-- four slots turned round, and the first three of them
pub turned_four : (a b c d : ℕ) → FourSlots a b c d → FourSlots b c d a
turned_four a b c d h = record {
  a_in = h.b_in;
  b_in = h.c_in;
  c_in = h.d_in;
  d_in = h.a_in;
  ab = h.bc;
  ac = h.bd;
  ad = λ e. h.ab (sym e);
  bc = h.cd;
  bd = λ e. h.ac (sym e);
  cd = λ e. h.ad (sym e);
}

pub turned_three : (a b c d : ℕ) → FourSlots a b c d → FourSlots b c a d
turned_three a b c d h = record {
  a_in = h.b_in;
  b_in = h.c_in;
  c_in = h.a_in;
  d_in = h.d_in;
  ab = h.bc;
  ac = λ e. h.ab (sym e);
  ad = h.bd;
  bc = λ e. h.ac (sym e);
  bd = h.cd;
  cd = h.ad;
}

-- a choice by a test of numbers
by_test : {A : Type 0} (P : A → Type 0) (x y : A) (hole slot : ℕ) (b : Bool) → (hole == slot) ≡ b → (hole ≡ slot → P x) → (hole ≢ slot → P y) → P (if b then x else y)
by_test P x y hole slot true e f g = f (grind (arith, nat_tests))
by_test P x y hole slot false e f g = g (grind (arith, nat_tests))

-- what holds of a reading order and stays when it is turned round holds of the slots before a hole with the hole
pub before_four : (X : ℕ → ℕ → ℕ → ℕ → Type 0) → ((a b c d : ℕ) → X a b c d → X b c d a) → (r : Reading) (hole : ℕ) → IsReading Gluon4 r → IsSlot hole →
    X (read r 1) (read r 2) (read r 3) (read r 4) → X (three_before r hole).0 (three_before r hole).1 (three_before r hole).2 hole
before_four X turn r hole reading in_range x =
    let a = read r 1 in
    let b = read r 2 in
    let c = read r 3 in
    let d = read r 4 in
    let P : ℕ × ℕ × ℕ → Type 0 = λ t. X t.0 t.1 t.2 hole in
    let at : (p q s h : ℕ) → hole ≡ h → X p q s h → X p q s hole = λ p q s h e k. subst (λ u. X p q s u) (sym e) k in
    by_test P (a, b, c) _ hole d (hole == d) refl (λ e. at a b c d e x) (λ nd.
    by_test P (b, c, d) _ hole a (hole == a) refl (λ e. at b c d a e (turn a b c d x)) (λ na.
    by_test P (c, d, a) (d, a, b) hole b (hole == b) refl (λ e. at c d a b e (turn b c d a (turn a b c d x))) (λ nb.
    at d a b c (the_other a b c d hole (reads_four r reading) in_range na nb nd) (turn c d a b (turn b c d a (turn a b c d x))))))

-- the same of three slots
pub before_three : (X : ℕ → ℕ → ℕ → Type 0) → ((a b c : ℕ) → X a b c → X b c a) → (r : Reading) (hole : ℕ) → IsReading Vvv r → 1 ≤ hole → hole ≤ 3 →
    X (read r 1) (read r 2) (read r 3) → X (two_before r hole).0 (two_before r hole).1 hole
before_three X turn r hole reading low high x =
    let a = read r 1 in
    let b = read r 2 in
    let c = read r 3 in
    let P : ℕ × ℕ → Type 0 = λ t. X t.0 t.1 hole in
    let at : (p q h : ℕ) → hole ≡ h → X p q h → X p q hole = λ p q h e k. subst (λ u. X p q u) (sym e) k in
    by_test P (a, b) _ hole c (hole == c) refl (λ e. at a b c e x) (λ nc.
    by_test P (b, c) (c, a) hole a (hole == a) refl (λ e. at b c a e (turn a b c x)) (λ na.
    at c a b (the_other a c b 4 hole (swapped r reading) (low, omega arith) na nc (λ e. omega arith)) (turn b c a (turn a b c x))))
  where
    swapped : (r : Reading) → IsReading Vvv r → FourSlots (read r 1) (read r 3) (read r 2) 4
    swapped r h =
        let f = reads_three r h in
        record { a_in = f.a_in; b_in = f.c_in; c_in = f.b_in; d_in = f.d_in; ab = f.ac; ac = f.ab; ad = f.ad; bc = λ e. f.bc (sym e); bd = f.cd; cd = f.bd }

-- a sum over the slots is the sum in any order of them
pub sum-ordered : {E : Type 0} (o : Ops E) → Laws o → (a b c d : ℕ) → FourSlots a b c d → Ordered o a b c d
sum-ordered o l = slots_any (Ordered o) (λ at G. refl) (exchange12 o l) (exchange23 o l) (exchange34 o l)
