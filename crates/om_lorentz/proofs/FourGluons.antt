-- The factor of four gluons taken into the sum.
use Rattle.std.proofs.Common.{◌≡◌, ℕ, [], ◌∷◌, refl, slice_index_or}
use Rattle.om_ring.specs.Ops.{Ops, Laws}
use Rattle.om_ring.proofs.GaussSolver.{Expr, var, add, mul, neg, solve}
use Rattle.om_lorentz.specs.Entries.{double}

-- the sum with the factor in each part
abbrev spread : Expr
spread =
    let part : Expr → Expr → Expr = λ m n. mul (mul (var 0) m) n in
    add (add (add (part (var 1) (var 2)) (part (var 1) (var 2))) (neg (part (var 3) (var 4)))) (neg (part (var 5) (var 6)))

-- the sum with the factor in front
abbrev closed : Expr
closed =
    let crossed = mul (var 1) (var 2) in
    mul (var 0) (add (add (add crossed crossed) (neg (mul (var 3) (var 4)))) (neg (mul (var 5) (var 6))))

-- a x y + a x y - a u v - a w z = a (2 x y - u v - w z)
pub gluons-spread : {E : Type 0} (o : Ops E) → Laws o → (a x y u v w z : E) →
    o.plus (o.plus (o.plus (o.times (o.times a x) y) (o.times (o.times a x) y)) (o.minus (o.times (o.times a u) v))) (o.minus (o.times (o.times a w) z))
    ≡ o.times a (o.plus (o.plus (double o (o.times x y)) (o.minus (o.times u v))) (o.minus (o.times w z)))
gluons-spread {E} o l a x y u v w z =
    let env : ℕ → E = λ k. slice_index_or (a ∷ x ∷ y ∷ u ∷ v ∷ w ∷ z ∷ []) k o.zero in
    solve o l env spread closed refl
