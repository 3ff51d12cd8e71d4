-- What a vertex gives at a hole, by components: one form for each structure.
use Rattle.std.specs.Prelude.{ℕ, zero, suc, ◌==◌, if◌then◌else◌}
use Rattle.om_ring.specs.Ops.{Ops}
use Rattle.om_lorentz.specs.declared.structures.Factors.{Factors}
use Rattle.om_lorentz.specs.declared.structures.Reading.{Reading}
use Rattle.om_lorentz.specs.declared.structures.Structure.{Structure}
use Rattle.om_lorentz.specs.declared.structures.Structure.TheVariants.{Sss, Ssss, Vss, Vvs, Vvss, Ffs, Ffv, Vvv, Vvvv, Gluon4}
use Rattle.om_lorentz.specs.declared.vectors.Four.{Four}
use Rattle.om_lorentz.specs.Entries.{momentum}
use Rattle.om_lorentz.specs.Laws.{order}
use Rattle.om_lorentz.specs.Structures.{read}
use Rattle.om_kernel.specs.declared.gluons.Entering.{Entering}
use Rattle.om_kernel.specs.declared.gluons.Pairs.{Pairs}
use Rattle.om_kernel.specs.declared.waves.Wave.{Wave}
use Rattle.om_kernel.specs.declared.waves.Wave.TheVariants.{Scalar, Row, Column, Vector}
use Rattle.om_kernel.specs.Slots.{Slots}
use Rattle.om_kernel.specs.IndexSums.{momenta_of, wave_at}
use Rattle.om_kernel.specs.Components.{scalar_in, four_in, dot, plain_dot, lower_difference, scaled, scaled_lower, chiral, chiral_dot, current, slash_column, slash_row, join_pairs, three_gluons}

-- the three slots that go before the hole in the reading order, which goes round
abbrev pub three_before : Reading → ℕ → ℕ × ℕ × ℕ
three_before r hole =
    if hole == read r 4 then (read r 1, read r 2, read r 3) else
    if hole == read r 1 then (read r 2, read r 3, read r 4) else
    if hole == read r 2 then (read r 3, read r 4, read r 1) else (read r 4, read r 1, read r 2)

-- the two slots that go before the hole in the reading order of three, which goes round
abbrev pub two_before : Reading → ℕ → ℕ × ℕ
two_before r hole =
    if hole == read r 3 then (read r 1, read r 2) else
    if hole == read r 1 then (read r 2, read r 3) else (read r 3, read r 1)

-- the momentum that enters through a slot
abbrev pub momentum_at : {E : Type 0} → Slots E → ℕ → Four E
momentum_at w slot = momentum (momenta_of w) slot

module _ {E : Type 0} (o : Ops E) where
  open o use {imag as 𝕚, plus as ◌⊕◌, minus as ⊖◌, times as ◌⊗◌}

  infixl 60 ◌⊕◌
  infix 65 ⊖◌
  infixl 70 ◌⊗◌
  -- i a
  abbrev pub coupling : Factors E → E
  coupling f = 𝕚 ⊗ f.a

  -- the pairs of `vvvv` where its slots are read on to the hole: one place on, the first and the last pair change places
  abbrev pub vvvv_pairs : Factors E → ℕ → Pairs E
  vvvv_pairs f (suc zero) = record { next = 𝕚 ⊗ f.c; crossed = 𝕚 ⊗ f.b; last = 𝕚 ⊗ f.a }
  vvvv_pairs f (suc (suc (suc zero))) = record { next = 𝕚 ⊗ f.c; crossed = 𝕚 ⊗ f.b; last = 𝕚 ⊗ f.a }
  vvvv_pairs f hole = record { next = 𝕚 ⊗ f.a; crossed = 𝕚 ⊗ f.b; last = 𝕚 ⊗ f.c }

  -- the pairs of `gluon4`
  abbrev pub gluon4_pairs : Factors E → Pairs E
  gluon4_pairs f = record { next = ⊖ coupling f; crossed = coupling f ⊕ coupling f; last = ⊖ coupling f }

  module _ (w : Slots E) where
    -- the scalar in a slot
    abbrev pub scalar_at : ℕ → E
    scalar_at slot = scalar_in o (wave_at w slot)

    -- the four components in a slot
    abbrev pub four_at : ℕ → Four E
    four_at slot = four_in o (wave_at w slot)

    -- the vector in a slot with its momentum
    abbrev pub entering : ℕ → Entering E
    entering slot = record { wave = four_at slot; momentum = momentum_at w slot }

    -- the difference of the momenta of the slots 2 and 3, with lower index
    abbrev pub scalar_current : Four E
    scalar_current = lower_difference o (momentum_at w 2) (momentum_at w 3)

    -- what pairs give at a hole, in a reading order
    abbrev pub pairs_form : Pairs E → Reading → ℕ → Wave E
    pairs_form c r hole =
        let before = three_before r hole in
        Vector (join_pairs o c (four_at before.0) (four_at before.1) (four_at before.2))

    -- a wave times the wave in a slot, summed over their index
    abbrev pub contracted : Wave E → ℕ → E
    contracted (Scalar x) slot = x ⊗ scalar_at slot
    contracted (Row p) slot = plain_dot o p (four_at slot)
    contracted (Column p) slot = plain_dot o p (four_at slot)
    contracted (Vector p) slot = plain_dot o p (four_at slot)

  module _ (f : Factors E) (w : Slots E) where
    -- the coupling times the scalar in a slot
    abbrev pub one_scalar : ℕ → E
    one_scalar slot = coupling f ⊗ scalar_at w slot

    -- the coupling times the scalars in two slots
    abbrev pub two_scalars : ℕ → ℕ → E
    two_scalars j k = one_scalar j ⊗ scalar_at w k

    abbrev pub sss_form : ℕ → Wave E
    sss_form hole =
        let before = two_before (order 1 2 3 0) hole in
        Scalar (two_scalars before.0 before.1)

    abbrev pub ssss_form : ℕ → Wave E
    ssss_form hole =
        let before = three_before (order 1 2 3 4) hole in
        Scalar (two_scalars before.0 before.1 ⊗ scalar_at w before.2)

    abbrev pub vss_form : ℕ → Wave E
    vss_form (suc zero) = Vector (scaled o (two_scalars 2 3) (scalar_current w))
    vss_form (suc (suc zero)) = Scalar (one_scalar 3 ⊗ plain_dot o (scalar_current w) (four_at w 1))
    vss_form _ = Scalar (one_scalar 2 ⊗ plain_dot o (scalar_current w) (four_at w 1))

    abbrev pub vvs_form : ℕ → Wave E
    vvs_form (suc zero) = Vector (scaled_lower o (one_scalar 3) (four_at w 2))
    vvs_form (suc (suc zero)) = Vector (scaled_lower o (one_scalar 3) (four_at w 1))
    vvs_form _ = Scalar (coupling f ⊗ dot o (four_at w 1) (four_at w 2))

    abbrev pub vvss_form : ℕ → Wave E
    vvss_form (suc zero) = Vector (scaled_lower o (two_scalars 3 4) (four_at w 2))
    vvss_form (suc (suc zero)) = Vector (scaled_lower o (two_scalars 3 4) (four_at w 1))
    vvss_form (suc (suc (suc zero))) = Scalar (one_scalar 4 ⊗ dot o (four_at w 1) (four_at w 2))
    vvss_form _ = Scalar (one_scalar 3 ⊗ dot o (four_at w 1) (four_at w 2))

    abbrev pub ffs_form : ℕ → Wave E
    ffs_form (suc zero) = Column (chiral o (𝕚 ⊗ scalar_at w 3) f (four_at w 2))
    ffs_form (suc (suc zero)) = Row (chiral o (𝕚 ⊗ scalar_at w 3) f (four_at w 1))
    ffs_form _ = Scalar (𝕚 ⊗ chiral_dot o f (four_at w 1) (four_at w 2))

    abbrev pub ffv_form : ℕ → Wave E
    ffv_form (suc zero) = Column (slash_column o (four_at w 3) (chiral o 𝕚 f (four_at w 2)))
    ffv_form (suc (suc zero)) = Row (chiral o 𝕚 f (slash_row o (four_at w 3) (four_at w 1)))
    ffv_form _ = Vector (current o (four_at w 1) (chiral o 𝕚 f (four_at w 2)))

    abbrev pub vvv_form : Reading → ℕ → Wave E
    vvv_form r hole =
        let before = two_before r hole in
        Vector (three_gluons o (coupling f) (entering w before.0) (entering w before.1) (momentum_at w hole))

    -- what a vertex of the structure gives at a hole
    abbrev pub fused : Structure → Reading → ℕ → Wave E
    fused Sss r hole = sss_form hole
    fused Ssss r hole = ssss_form hole
    fused Vss r hole = vss_form hole
    fused Vvs r hole = vvs_form hole
    fused Vvss r hole = vvss_form hole
    fused Ffs r hole = ffs_form hole
    fused Ffv r hole = ffv_form hole
    fused Vvv r hole = vvv_form r hole
    fused Vvvv r hole = pairs_form w (vvvv_pairs f hole) (order 1 2 3 4) hole
    fused Gluon4 r hole = pairs_form w (gluon4_pairs f) r hole
