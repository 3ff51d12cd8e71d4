-- The form of three vectors beside its index sum.
use Rattle.std.proofs.Common.{◌≡◌, ◌≢◌, ◌<◌, ◌≤◌, ℕ, [], ◌∷◌, ◌++◌, refl, sym, ◌∙◌, ap, slice_index_or, Some, arith}
use Rattle.om_ring.specs.Ops.{Ops, Laws}
use Rattle.om_ring.proofs.GaussSolver.{Expr, mul, img, expr_ops, poly, value, solve}
use Rattle.om_lorentz.specs.declared.structures.Factors.{Factors}
use Rattle.om_lorentz.specs.declared.structures.Reading.{Reading}
use Rattle.om_lorentz.specs.declared.structures.Structure.TheVariants.{Vvv}
use Rattle.om_lorentz.specs.declared.vectors.Four.{Four}
use Rattle.om_lorentz.specs.declared.vectors.Momenta.{Momenta}
use Rattle.om_lorentz.specs.Matrices.{upper}
use Rattle.om_lorentz.specs.Entries.{entry}
use Rattle.om_lorentz.specs.Laws.{order}
use Rattle.om_lorentz.specs.Structures.{IsSlot, IsReading, read}
use Rattle.om_lorentz.proofs.Metric.{below_four}
use Rattle.om_lorentz.proofs.Rotations.{rotates_three}
use Rattle.om_kernel.specs.declared.gluons.Entering.{Entering}
use Rattle.om_kernel.specs.Slots.{Slots}
use Rattle.om_kernel.specs.Waves.{a_vector}
use Rattle.om_kernel.specs.IndexSums.{Summand, fixed, slot_kind, sum_slots, entry_sum}
use Rattle.om_kernel.specs.Components.{three_gluons}
use Rattle.om_kernel.specs.Forms.{coupling, four_at, entering, momentum_at, two_before}
use Rattle.om_kernel.proofs.SlotSums.{sum_slots-same, rotated3}
use Rattle.om_kernel.proofs.SlotOrders.{three_slots}
use Rattle.om_kernel.proofs.Readings.{FourSlots, reads_three, turned_three, before_three, sum-ordered}
use Rattle.om_kernel.proofs.KnownSlots.{four_summand, slot_brings, brings-at_hole, brings-beside}
use Rattle.om_kernel.proofs.WrittenForms.{four_vars, parts, factor_vars, IsSum}

-- three momenta of a vertex
abbrev three_momenta : {E : Type 0} → Four E → Four E → Four E → Momenta E
three_momenta p q h = record { first = p; second = q; third = h; fourth = h }

-- the entry where the slots are read as they are written and these momenta enter through them
abbrev cyclic : {E : Type 0} → Ops E → Factors E → Four E → Four E → Four E → ℕ → ℕ → ℕ → ℕ → E
cyclic o f p q h i j k m = entry o Vvv (order 1 2 3 0) f (three_momenta p q h) (i ∷ j ∷ k ∷ m ∷ [])

-- both sides at variables: the factors from 0, the vectors from 3, the momenta from 11
abbrev left : ℕ → Expr
left n = upper (three_gluons expr_ops (coupling expr_ops factor_vars) (record { wave = four_vars 3; momentum = four_vars 11 }) (record { wave = four_vars 7; momentum = four_vars 15 }) (four_vars 19)) n

abbrev right : ℕ → Expr
right n = mul img (sum_slots expr_ops (cyclic expr_ops factor_vars (four_vars 11) (four_vars 15) (four_vars 19)) (four_summand expr_ops (four_vars 3)) (four_summand expr_ops (four_vars 7)) (fixed expr_ops n) (fixed expr_ops 0))

module _ {E : Type 0} (o : Ops E) (l : Laws o) (f : Factors E) where
  -- what two vectors give at the last slot is i times the sum over them
  abbrev Joined : Entering E → Entering E → Four E → ℕ → Type 0
  Joined p q h n =
      upper (three_gluons o (coupling o f) p q h) n
      ≡ o.times o.imag (sum_slots o (cyclic o f p.momentum q.momentum h) (four_summand o p.wave) (four_summand o q.wave) (fixed o n) (fixed o 0))

  joined : (p q : Entering E) (h : Four E) (n : ℕ) → n < 4 → Joined p q h n
  joined p q h =
      let env : ℕ → E = λ k. slice_index_or (f.a ∷ f.b ∷ f.c ∷ (parts p.wave ++ (parts q.wave ++ (parts p.momentum ++ (parts q.momentum ++ parts h))))) k o.zero in
      let by : (n : ℕ) → poly (left n) ≡ poly (right n) → value o l env (left n) ≡ value o l env (right n) = λ n e. solve o l env (left n) (right n) e in
      below_four (Joined p q h) (by 0 refl) (by 1 refl) (by 2 refl) (by 3 refl)

  -- read one slot on, the momenta go with the slots
  turned : (p q h : Four E) (i j k m : ℕ) → cyclic o f p q h k i j m ≡ cyclic o f q h p i j k m
  turned p q h i j k m = rotates_three o l f (three_momenta p q h) (k ∷ i ∷ j ∷ m ∷ []) 1 2 3

module _ {E : Type 0} (o : Ops E) (l : Laws o) (r : Reading) (f : Factors E) (w : Slots E) where
  -- the form of `vvv` at each hole of each reading order
  pub vvv-sum : (hole n : ℕ) → IsReading Vvv r → 1 ≤ hole → hole ≤ 3 → n < 4 → IsSum o l r f w Vvv hole n
  vvv-sum hole n reading first high low =
      let at : ℕ → Summand E = slot_brings o Vvv w hole n in
      let p : ℕ → Four E = momentum_at w in
      let G : ℕ → ℕ → ℕ → ℕ → ℕ → ℕ → ℕ → E = λ a b c. cyclic o f (p a) (p b) (p c) in
      let b = two_before r hole in
      let whole : E = entry_sum o Vvv r f w at in
      let X : ℕ → ℕ → ℕ → Type 0 = λ a b h. whole ≡ sum_slots o (G a b h) (at a) (at b) (at h) (at 4) in
      let F : ℕ → ℕ → ℕ → Type 0 = λ a b h. FourSlots a b h 4 × (a ≤ 3) × (b ≤ 3) × (h ≤ 3) in
      let facts : F b.0 b.1 hole = before_three F
      (λ a b h x. (turned_three a b h 4 x.0, x.2, x.3, x.1)) r hole reading first high
      (reads_three r reading, (reading.in_range 1 (omega arith) (omega arith)).1, (reading.in_range 2 (omega arith) (omega arith)).1, (reading.in_range 3 (omega arith) (omega arith)).1) in
      let summed : X b.0 b.1 hole = before_three X
      (λ a b h x. x ∙ rotated3 o l (at a) (at b) (at h) (at 4) (G a b h) (G b h a) (turned o l f (p a) (p b) (p h)))
      r hole reading first high (sum-ordered o l (read r 1) (read r 2) (read r 3) 4 (reads_three r reading) at (G (read r 1) (read r 2) (read r 3))) in
      let vector : (k : ℕ) → IsSlot k → k ≤ 3 → k ≢ hole → at k ≡ four_summand o (four_at o w k) = λ k s low ne.
      brings-beside o Vvv w hole n k (Some a_vector) ne (three_slots (λ j. slot_kind Vvv j ≡ Some a_vector) refl refl refl k s.0 low) in
      joined o l f (entering o w b.0) (entering o w b.1) (p hole) n low ∙ ap (o.times o.imag) (sym (
      summed ∙ sum_slots-same o (G b.0 b.1 hole) (at b.0) (at b.1) (at hole) (at 4) _ _ _ _
      (vector b.0 facts.0.a_in facts.1 facts.0.ac) (vector b.1 facts.0.b_in facts.2 facts.0.bc) (brings-at_hole o Vvv w hole n)
      (brings-beside o Vvv w hole n 4 _ (λ e. facts.0.cd (sym e)) refl)))
