-- The slots and the factors of a vertex that keeps the rules on patterns.
use Rattle.std.proofs.Common.{◌≡◌, ℕ, ◌⊎◌, inl, inr, List, length, Some, Option, sym, ◌∙◌, ap, subst}
use Rattle.std.proofs.lemmas.List.{length-map}
use Rattle.om_lorentz.specs.declared.structures.Structure.{Structure}
use Rattle.om_lorentz.specs.declared.structures.Structure.TheVariants.{Sss, Ssss, Vss, Vvs, Vvss, Ffs, Ffv, Vvv, Vvvv, Gluon4}
use Rattle.om_lorentz.specs.Structures.{factor_count, slot_count}
use Rattle.om_colour.specs.Table.{Row, row_number}
use Rattle.om_model.specs.declared.model.Particle.{Particle}
use Rattle.om_model.specs.declared.model.Vertex.{Vertex}
use Rattle.om_model.specs.Model.{colour_row, spin_of_field}
use Rattle.om_model.specs.Rules.{HasColours, HasStructure, IsFormedVertex}

-- a vertex has three or four slots
pub slots_number : (s : Structure) (n : ℕ) → n ≡ slot_count s → (n ≡ 3) ⊎ (n ≡ 4)
slots_number Sss n e = inl e
slots_number Ssss n e = inr e
slots_number Vss n e = inl e
slots_number Vvs n e = inl e
slots_number Vvss n e = inr e
slots_number Ffs n e = inl e
slots_number Ffv n e = inl e
slots_number Vvv n e = inl e
slots_number Vvvv n e = inr e
slots_number Gluon4 n e = inr e

colours-six : (s : Structure) (colours : Row) (found : Option Row) → s ≡ Gluon4 → found ≡ Some colours → HasColours s found → row_number colours ≡ 6
colours-six s colours found e f h =
    let here : HasColours s (Some colours) = subst (HasColours s) f h in subst (λ s. HasStructure s (row_number colours)) e here

module _ (particles : List Particle) (v : Vertex) (formed : IsFormedVertex particles v) where
  pub slots_are : length v.fields ≡ slot_count v.structure
  slots_are = sym (length-map v.fields (spin_of_field particles)) ∙ ap length formed.pattern.0.spins_are

  pub factors_are : length v.factors ≡ factor_count v.structure
  factors_are = formed.pattern.0.factors

  pub row_is : (colours : Row) → colour_row particles v.fields ≡ Some colours → v.structure ≡ Gluon4 → row_number colours ≡ 6
  row_is colours e s = colours-six v.structure colours (colour_row particles v.fields) s e formed.pattern.1
