-- The rotations of the reading orders.
use Rattle.std.proofs.Common.{◌≡◌, ℕ, [], ◌∷◌, refl, ◌∙◌, ap, slice_index_or}
use Rattle.om_ring.specs.Ops.{Ops, Laws}
use Rattle.om_ring.proofs.GaussSolver.{Expr, var, add, mul, neg, solve}
use Rattle.om_lorentz.specs.Entries.{momentum, g, difference, double}
use Rattle.om_lorentz.specs.Laws.{RotatesThree, RotatesFour}
use Rattle.om_lorentz.specs.Structures.{index}
use Rattle.om_lorentz.proofs.Metric.{metric-sym}

-- the three summands go round
pub rotates_three : {E : Type 0} (o : Ops E) → Laws o → RotatesThree o
rotates_three {E} o l f p i r s t =
    let G : ℕ → ℕ → E = g o (index i) in
    let D : ℕ → ℕ → ℕ → E = difference o (momentum p) (index i) in
    let env : ℕ → E = λ k. slice_index_or (o.times (G r s) (D r s t) ∷ o.times (G s t) (D s t r) ∷ o.times (G t r) (D t r s) ∷ f.a ∷ []) k o.zero in
    solve o l env (mul (var 3) (add (add (var 0) (var 1)) (var 2))) (mul (var 3) (add (add (var 1) (var 2)) (var 0))) refl

-- the sum of four gluons, where xy are crossed
abbrev crossed : Expr → Expr → Expr → Expr → Expr → Expr → Expr
crossed x y u v w z = mul (var 6) (add (add (let xy = mul x y in add xy xy) (neg (mul u v))) (neg (mul w z)))

-- the crossed pairs stay, the other two change places
pub rotates_four : {E : Type 0} (o : Ops E) → Laws o → RotatesFour o
rotates_four {E} o l f p i r s t u =
    let G : ℕ → ℕ → E = g o (index i) in
    let turned : (j k : ℕ) → G j k ≡ G k j = λ j k. metric-sym o (index i j) (index i k) in
    let env : ℕ → E = λ k. slice_index_or (G r t ∷ G s u ∷ G r s ∷ G t u ∷ G r u ∷ G s t ∷ f.a ∷ []) k o.zero in
    let F : E → E → E → E = λ a b c. o.times f.a (o.plus (o.plus (double o (o.times (G s u) a)) (o.minus (o.times (G s t) b))) (o.minus (o.times c (G t u)))) in
    solve o l env (crossed (var 0) (var 1) (var 2) (var 3) (var 4) (var 5)) (crossed (var 1) (var 0) (var 5) (var 4) (var 2) (var 3)) refl ∙
    ap (λ a. F a (G r u) (G r s)) (turned r t) ∙ ap (λ b. F (G t r) b (G r s)) (turned r u) ∙ ap (F (G t r) (G u r)) (turned r s)
