-- The forms of four vectors beside their index sums.
use Rattle.std.proofs.Common.{◌≡◌, ◌≢◌, ◌<◌, ℕ, [], ◌∷◌, ◌++◌, refl, sym, ◌∙◌, ap, slice_index_or, Some}
use Rattle.om_ring.specs.Ops.{Ops, Laws}
use Rattle.om_ring.proofs.GaussSolver.{Expr, var, nil, add, mul, img, expr_ops, poly, value, solve}
use Rattle.om_lorentz.specs.declared.structures.Factors.{Factors}
use Rattle.om_lorentz.specs.declared.structures.Reading.{Reading}
use Rattle.om_lorentz.specs.declared.structures.Structure.{Structure}
use Rattle.om_lorentz.specs.declared.structures.Structure.TheVariants.{Vvvv, Gluon4}
use Rattle.om_lorentz.specs.declared.vectors.Four.{Four}
use Rattle.om_lorentz.specs.declared.vectors.Momenta.{Momenta}
use Rattle.om_lorentz.specs.Matrices.{upper, metric}
use Rattle.om_lorentz.specs.Entries.{entry}
use Rattle.om_lorentz.specs.Laws.{order}
use Rattle.om_lorentz.specs.Structures.{IsSlot, IsReading, read}
use Rattle.om_lorentz.proofs.Metric.{below_four, metric-sym}
use Rattle.om_lorentz.proofs.Rotations.{rotates_four}
use Rattle.om_kernel.specs.declared.gluons.Pairs.{Pairs}
use Rattle.om_kernel.specs.Slots.{Slots}
use Rattle.om_kernel.specs.Waves.{a_vector}
use Rattle.om_kernel.specs.IndexSums.{Summand, fixed, slot_kind, momenta_of, sum_slots, entry_sum}
use Rattle.om_kernel.specs.Components.{join_pairs}
use Rattle.om_kernel.specs.Forms.{four_at, three_before, vvvv_pairs, gluon4_pairs}
use Rattle.om_kernel.proofs.SlotSums.{sum_slots-same, rotated4}
use Rattle.om_kernel.proofs.SlotOrders.{four_slots}
use Rattle.om_kernel.proofs.Readings.{FourSlots, reads_four, turned_four, before_four, sum-ordered}
use Rattle.om_kernel.proofs.KnownSlots.{four_summand, slot_brings, brings-at_hole, brings-beside}
use Rattle.om_kernel.proofs.WrittenForms.{four_vars, parts, factor_vars, IsSum}

abbrev no_four : Four Expr
no_four = record { t = nil; x = nil; y = nil; z = nil }

abbrev no_momenta : Momenta Expr
no_momenta = record { first = no_four; second = no_four; third = no_four; fourth = no_four }

-- the entry in the written order of the slots
abbrev paired : {E : Type 0} → Ops E → Structure → Factors E → Momenta E → ℕ → ℕ → ℕ → ℕ → E
paired o s f m i j k n = entry o s (order 1 2 3 4) f m (i ∷ j ∷ k ∷ n ∷ [])

-- both sides at variables: the factors from 0, the vectors from 3
abbrev left : Pairs Expr → ℕ → Expr
left c n = upper (join_pairs expr_ops c (four_vars 3) (four_vars 7) (four_vars 11)) n

abbrev right : Structure → ℕ → Expr
right s n = mul img (sum_slots expr_ops (paired expr_ops s factor_vars no_momenta) (four_summand expr_ops (four_vars 3)) (four_summand expr_ops (four_vars 7)) (four_summand expr_ops (four_vars 11)) (fixed expr_ops n))

module _ {E : Type 0} (o : Ops E) (l : Laws o) (m : Momenta E) where
  abbrev env : Factors E → Four E → Four E → Four E → ℕ → E
  env f p q r k = slice_index_or (f.a ∷ f.b ∷ f.c ∷ (parts p ++ (parts q ++ parts r))) k o.zero

  -- what pairs give at the last slot is i times the sum over the other three
  abbrev Joined : Structure → Pairs E → Factors E → Four E → Four E → Four E → ℕ → Type 0
  Joined s c f p q r n = upper (join_pairs o c p q r) n ≡ o.times o.imag (sum_slots o (paired o s f m) (four_summand o p) (four_summand o q) (four_summand o r) (fixed o n))

  gluons-joined : (f : Factors E) (p q r : Four E) (n : ℕ) → n < 4 → Joined Gluon4 (gluon4_pairs o f) f p q r n
  gluons-joined f p q r =
      let by : (n : ℕ) → poly (left (gluon4_pairs expr_ops factor_vars) n) ≡ poly (right Gluon4 n) → value o l (env f p q r) (left (gluon4_pairs expr_ops factor_vars) n) ≡ value o l (env f p q r) (right Gluon4 n) =
      λ n e. solve o l (env f p q r) (left (gluon4_pairs expr_ops factor_vars) n) (right Gluon4 n) e in
      below_four (Joined Gluon4 (gluon4_pairs o f) f p q r) (by 0 refl) (by 1 refl) (by 2 refl) (by 3 refl)

  vectors-joined : (f : Factors E) (p q r : Four E) (n : ℕ) → n < 4 → Joined Vvvv (vvvv_pairs o f 4) f p q r n
  vectors-joined f p q r =
      let by : (n : ℕ) → poly (left (vvvv_pairs expr_ops factor_vars 4) n) ≡ poly (right Vvvv n) → value o l (env f p q r) (left (vvvv_pairs expr_ops factor_vars 4) n) ≡ value o l (env f p q r) (right Vvvv n) =
      λ n e. solve o l (env f p q r) (left (vvvv_pairs expr_ops factor_vars 4) n) (right Vvvv n) e in
      below_four (Joined Vvvv (vvvv_pairs o f 4) f p q r) (by 0 refl) (by 1 refl) (by 2 refl) (by 3 refl)

-- the factors where the first and the last pair have changed places
abbrev swapped : {E : Type 0} → Factors E → Factors E
swapped f = record { a = f.c; b = f.b; c = f.a }

-- the sum of three pairs at variables: the factors from 0, the metric from 3
abbrev pair_sum : ℕ → ℕ → ℕ → ℕ → ℕ → ℕ → Factors Expr → Expr
pair_sum ij km ik jm im jk f = add (add (mul (mul f.a (var ij)) (var km)) (mul (mul f.b (var ik)) (var jm))) (mul (mul f.c (var im)) (var jk))

module _ {E : Type 0} (o : Ops E) (l : Laws o) (m : Momenta E) where
  -- read one slot on, the first and the last pair change places
  vectors-turned : (f : Factors E) (i j k n : ℕ) → paired o Vvvv f m n i j k ≡ paired o Vvvv (swapped f) m i j k n
  vectors-turned f i j k n =
      let G : ℕ → ℕ → E = metric o in
      let e : (x y : ℕ) → G x y ≡ G y x = metric-sym o in
      let env : ℕ → E = λ x. slice_index_or (f.a ∷ f.b ∷ f.c ∷ G i j ∷ G k n ∷ G i k ∷ G j n ∷ G i n ∷ G j k ∷ []) x o.zero in
      let F : E → E → E → E = λ x y z. o.plus (o.plus (o.times (o.times f.a x) (G j k)) (o.times (o.times f.b y) (G i k))) (o.times (o.times f.c z) (G i j)) in
      ap (λ x. F x (G n j) (G n k)) (e n i) ∙ ap (λ y. F (G i n) y (G n k)) (e n j) ∙ ap (F (G i n) (G j n)) (e n k) ∙
      solve o l env (pair_sum 7 8 6 5 4 3 factor_vars) (pair_sum 3 4 5 6 7 8 (record { a = var 2; b = var 1; c = var 0 })) refl

  gluons-turned : (f : Factors E) (i j k n : ℕ) → paired o Gluon4 f m n i j k ≡ paired o Gluon4 f m i j k n
  gluons-turned f i j k n = rotates_four o l f m (n ∷ i ∷ j ∷ k ∷ []) 1 2 3 4

  -- the sum with the first slot last
  vectors-rotated : (f : Factors E) (p q r s : Summand E) → sum_slots o (paired o Vvvv f m) p q r s ≡ sum_slots o (paired o Vvvv (swapped f) m) q r s p
  vectors-rotated f p q r s = rotated4 o l p q r s (paired o Vvvv f m) (paired o Vvvv (swapped f) m) (vectors-turned f)

module _ {E : Type 0} (o : Ops E) (l : Laws o) (r : Reading) (f : Factors E) (w : Slots E) where
  abbrev m : Momenta E
  m = momenta_of w

  -- the form of `vvvv` at each hole
  pub vvvv-sum : (hole n : ℕ) → IsSlot hole → n < 4 → IsSum o l r f w Vvvv hole n
  vvvv-sum hole n in_range low =
      let v : ℕ → Four E = four_at o w in
      let at : ℕ → ℕ → Summand E = λ h. slot_brings o Vvvv w h n in
      let i : E → E = o.times o.imag in
      four_slots (λ h. IsSum o l r f w Vvvv h n)
      (vectors-joined o l m (swapped f) (v 2) (v 3) (v 4) n low ∙ ap i (sym (vectors-rotated o l m f (at 1 1) (at 1 2) (at 1 3) (at 1 4))))
      (vectors-joined o l m f (v 3) (v 4) (v 1) n low ∙ ap i (sym (
      vectors-rotated o l m f (at 2 1) (at 2 2) (at 2 3) (at 2 4) ∙ vectors-rotated o l m (swapped f) (at 2 2) (at 2 3) (at 2 4) (at 2 1))))
      (vectors-joined o l m (swapped f) (v 4) (v 1) (v 2) n low ∙ ap i (sym (
      vectors-rotated o l m f (at 3 1) (at 3 2) (at 3 3) (at 3 4) ∙ vectors-rotated o l m (swapped f) (at 3 2) (at 3 3) (at 3 4) (at 3 1) ∙
      vectors-rotated o l m f (at 3 3) (at 3 4) (at 3 1) (at 3 2))))
      (vectors-joined o l m f (v 1) (v 2) (v 3) n low)
      hole in_range

  -- the form of `gluon4` at each hole of each reading order
  pub gluon4-sum : (hole n : ℕ) → IsReading Gluon4 r → IsSlot hole → n < 4 → IsSum o l r f w Gluon4 hole n
  gluon4-sum hole n reading in_range low =
      let at : ℕ → Summand E = slot_brings o Gluon4 w hole n in
      let G : ℕ → ℕ → ℕ → ℕ → E = paired o Gluon4 f m in
      let b = three_before r hole in
      let whole : E = entry_sum o Gluon4 r f w at in
      let X : ℕ → ℕ → ℕ → ℕ → Type 0 = λ p q s h. whole ≡ sum_slots o G (at p) (at q) (at s) (at h) in
      let facts : FourSlots b.0 b.1 b.2 hole = before_four FourSlots turned_four r hole reading in_range (reads_four r reading) in
      let summed : X b.0 b.1 b.2 hole = before_four X
      (λ p q s h x. x ∙ rotated4 o l (at p) (at q) (at s) (at h) G G (gluons-turned o l m f))
      r hole reading in_range (sum-ordered o l (read r 1) (read r 2) (read r 3) (read r 4) (reads_four r reading) at G) in
      let vector : (p : ℕ) → IsSlot p → p ≢ hole → at p ≡ four_summand o (four_at o w p) = λ p s ne.
      brings-beside o Gluon4 w hole n p (Some a_vector) ne (four_slots (λ k. slot_kind Gluon4 k ≡ Some a_vector) refl refl refl refl p s) in
      gluons-joined o l m f (four_at o w b.0) (four_at o w b.1) (four_at o w b.2) n low ∙ ap (o.times o.imag) (sym (
      summed ∙ sum_slots-same o G (at b.0) (at b.1) (at b.2) (at hole) _ _ _ _
      (vector b.0 facts.a_in facts.ad) (vector b.1 facts.b_in facts.bd) (vector b.2 facts.c_in facts.cd) (brings-at_hole o Gluon4 w hole n)))
