-- At most how many ring calls fusing and closing take.
use Rattle.std.specs.Prelude.{ℕ, zero, suc}
use Rattle.om_lorentz.specs.declared.structures.Structure.{Structure}
use Rattle.om_lorentz.specs.declared.structures.Structure.TheVariants.{Sss, Ssss, Vss, Vvs, Vvss, Ffs, Ffv, Vvv, Vvvv, Gluon4}
use Rattle.om_kernel.specs.declared.waves.Wave.{Wave}
use Rattle.om_kernel.specs.declared.waves.Wave.TheVariants.{Scalar, Row, Column, Vector}

-- fusing at a hole
abbrev pub calls_to_fuse : Structure → ℕ → ℕ
calls_to_fuse Sss hole = 3
calls_to_fuse Ssss hole = 4
calls_to_fuse Vss (suc zero) = 15
calls_to_fuse Vss _ = 18
calls_to_fuse Vvs (suc zero) = 7
calls_to_fuse Vvs (suc (suc zero)) = 7
calls_to_fuse Vvs _ = 10
calls_to_fuse Vvss (suc zero) = 8
calls_to_fuse Vvss (suc (suc zero)) = 8
calls_to_fuse Vvss _ = 11
calls_to_fuse Ffs (suc zero) = 10
calls_to_fuse Ffs (suc (suc zero)) = 10
calls_to_fuse Ffs _ = 13
calls_to_fuse Ffv (suc zero) = 30
calls_to_fuse Ffv (suc (suc zero)) = 30
calls_to_fuse Ffv _ = 31
calls_to_fuse Vvv hole = 68
calls_to_fuse Vvvv hole = 50
calls_to_fuse Gluon4 hole = 50

-- summing over the index of two waves
abbrev pub calls_to_contract : {E : Type 0} → Wave E → ℕ
calls_to_contract (Scalar x) = 1
calls_to_contract (Row p) = 7
calls_to_contract (Column p) = 7
calls_to_contract (Vector p) = 7

-- closing: fusing at the last slot and contracting with the wave there
abbrev pub calls_to_close : Structure → ℕ
calls_to_close Sss = 4
calls_to_close Ssss = 5
calls_to_close Vss = 19
calls_to_close Vvs = 11
calls_to_close Vvss = 12
calls_to_close Ffs = 14
calls_to_close Ffv = 38
calls_to_close Vvv = 75
calls_to_close Vvvv = 57
calls_to_close Gluon4 = 57
