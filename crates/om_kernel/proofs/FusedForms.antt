-- What a vertex gives at a hole is i times the index sum, for all structures.
use Rattle.std.proofs.Common.{◌≡◌, ◌<◌, ◌≤◌, ℕ, length, sym, ◌∙◌, ap, refl}
use Rattle.om_ring.specs.Ops.{Ops, Laws}
use Rattle.om_lorentz.specs.declared.structures.Factors.{Factors}
use Rattle.om_lorentz.specs.declared.structures.Reading.{Reading}
use Rattle.om_lorentz.specs.declared.structures.Structure.{Structure}
use Rattle.om_lorentz.specs.declared.structures.Structure.TheVariants.{Sss, Ssss, Vss, Vvs, Vvss, Ffs, Ffv, Vvv, Vvvv, Gluon4}
use Rattle.om_lorentz.specs.Structures.{IsReading, slot_count, slot_indices}
use Rattle.om_kernel.specs.Slots.{Slots}
use Rattle.om_kernel.specs.declared.waves.Wave.{Wave}
use Rattle.om_kernel.specs.Waves.{component, kind_of}
use Rattle.om_kernel.specs.IndexSums.{FitsBeside, fused_kind, index_sum}
use Rattle.om_kernel.specs.Forms.{fused}
use Rattle.om_kernel.proofs.SlotOrders.{three_slots, four_slots}
use Rattle.om_kernel.proofs.KnownSlots.{index_sum-known}
use Rattle.om_kernel.proofs.WrittenForms as written
use Rattle.om_kernel.proofs.PairForms.{vvvv-sum, gluon4-sum}
use Rattle.om_kernel.proofs.ThreeVectors.{vvv-sum}

module _ {E : Type 0} (o : Ops E) (l : Laws o) (r : Reading) (f : Factors E) (w : Slots E) where
  -- at each index of a hole
  abbrev AtIndices : Structure → ℕ → Type 0
  AtIndices s hole = (n : ℕ) → n < length (slot_indices s hole) → written.IsSum o l r f w s hole n

  form-sum : (s : Structure) (hole : ℕ) → IsReading s r → 1 ≤ hole → hole ≤ slot_count s → AtIndices s hole
  form-sum Sss hole reading low high = three_slots (AtIndices Sss) (written.sss-sum1 o l r f w) (written.sss-sum2 o l r f w) (written.sss-sum3 o l r f w) hole low high
  form-sum Ssss hole reading low high = four_slots (AtIndices Ssss) (written.ssss-sum1 o l r f w) (written.ssss-sum2 o l r f w) (written.ssss-sum3 o l r f w) (written.ssss-sum4 o l r f w) hole (low, high)
  form-sum Vss hole reading low high = three_slots (AtIndices Vss) (written.vss-sum1 o l r f w) (written.vss-sum2 o l r f w) (written.vss-sum3 o l r f w) hole low high
  form-sum Vvs hole reading low high = three_slots (AtIndices Vvs) (written.vvs-sum1 o l r f w) (written.vvs-sum2 o l r f w) (written.vvs-sum3 o l r f w) hole low high
  form-sum Vvss hole reading low high = four_slots (AtIndices Vvss) (written.vvss-sum1 o l r f w) (written.vvss-sum2 o l r f w) (written.vvss-sum3 o l r f w) (written.vvss-sum4 o l r f w) hole (low, high)
  form-sum Ffs hole reading low high = three_slots (AtIndices Ffs) (written.ffs-sum1 o l r f w) (written.ffs-sum2 o l r f w) (written.ffs-sum3 o l r f w) hole low high
  form-sum Ffv hole reading low high = three_slots (AtIndices Ffv) (written.ffv-sum1 o l r f w) (written.ffv-sum2 o l r f w) (written.ffv-sum3 o l r f w) hole low high
  form-sum Vvv hole reading low high = λ n h.
      let short : n < length (slot_indices Vvv hole) → n < 4 = three_slots (λ k. n < length (slot_indices Vvv k) → n < 4) (λ i. i) (λ i. i) (λ i. i) hole low high in
      vvv-sum o l r f w hole n reading low high (short h)
  form-sum Vvvv hole reading low high = λ n h.
      let short : n < length (slot_indices Vvvv hole) → n < 4 = four_slots (λ k. n < length (slot_indices Vvvv k) → n < 4) (λ i. i) (λ i. i) (λ i. i) (λ i. i) hole (low, high) in
      vvvv-sum o l r f w hole n (low, high) (short h)
  form-sum Gluon4 hole reading low high = λ n h.
      let short : n < length (slot_indices Gluon4 hole) → n < 4 = four_slots (λ k. n < length (slot_indices Gluon4 k) → n < 4) (λ i. i) (λ i. i) (λ i. i) (λ i. i) hole (low, high) in
      gluon4-sum o l r f w hole n reading (low, high) (short h)

  pub fused-sum : (s : Structure) (hole : ℕ) (x : Wave E) → x ≡ fused o f w s r hole → IsReading s r → 1 ≤ hole → hole ≤ slot_count s → FitsBeside s hole w →
      (n : ℕ) → n < length (slot_indices s hole) → component x n ≡ o.times o.imag (index_sum o s r f w hole n)
  fused-sum s hole x e reading low high fits n h =
      ap (λ y. component y n) e ∙ form-sum s hole reading low high n h ∙ ap (o.times o.imag) (sym (index_sum-known o s r f w hole n fits))

  -- what comes out has the kind of the hole
  form-kind : (s : Structure) (hole : ℕ) → 1 ≤ hole → hole ≤ slot_count s → kind_of (fused o f w s r hole) ≡ fused_kind s hole
  form-kind Sss hole low high = three_slots (λ h. kind_of (fused o f w Sss r h) ≡ fused_kind Sss h) refl refl refl hole low high
  form-kind Ssss hole low high = four_slots (λ h. kind_of (fused o f w Ssss r h) ≡ fused_kind Ssss h) refl refl refl refl hole (low, high)
  form-kind Vss hole low high = three_slots (λ h. kind_of (fused o f w Vss r h) ≡ fused_kind Vss h) refl refl refl hole low high
  form-kind Vvs hole low high = three_slots (λ h. kind_of (fused o f w Vvs r h) ≡ fused_kind Vvs h) refl refl refl hole low high
  form-kind Vvss hole low high = four_slots (λ h. kind_of (fused o f w Vvss r h) ≡ fused_kind Vvss h) refl refl refl refl hole (low, high)
  form-kind Ffs hole low high = three_slots (λ h. kind_of (fused o f w Ffs r h) ≡ fused_kind Ffs h) refl refl refl hole low high
  form-kind Ffv hole low high = three_slots (λ h. kind_of (fused o f w Ffv r h) ≡ fused_kind Ffv h) refl refl refl hole low high
  form-kind Vvv hole low high = three_slots (λ h. kind_of (fused o f w Vvv r h) ≡ fused_kind Vvv h) refl refl refl hole low high
  form-kind Vvvv hole low high = four_slots (λ h. kind_of (fused o f w Vvvv r h) ≡ fused_kind Vvvv h) refl refl refl refl hole (low, high)
  form-kind Gluon4 hole low high = four_slots (λ h. kind_of (fused o f w Gluon4 r h) ≡ fused_kind Gluon4 h) refl refl refl refl hole (low, high)

  pub fused-kind : (s : Structure) (hole : ℕ) (x : Wave E) → x ≡ fused o f w s r hole → 1 ≤ hole → hole ≤ slot_count s → kind_of x ≡ fused_kind s hole
  fused-kind s hole x e low high = ap kind_of e ∙ form-kind s hole low high
