use Rattle.std.proofs.Common.{ℕ, ap, ap₂, ◌∙◌}
use Rattle.om_legs.specs.Legs.{holds}
use Rattle.om_model.specs.Model.{anti_field}
use Rattle.om_model.specs.Parts.{first_from, others}
use Rattle.om_graph.specs.declared.parts.Part.{Part}
use Rattle.om_graph.specs.Fillings.{upward_part}
use Rattle.om_graph.proofs.FirstLegs.{first_of_others}
use Rattle.om_graph.proofs.fillings.upward_part.Goals as goal

part : ℕ → ℕ → Part
part a l = record { field = a; least = l; branch = Rattle.std.proofs.Common.None }

pub returns : goal.returns
unfolding upward_part part
returns c =
    ap₂ part
    (c.anti_field.ensures ∙ ap (λ ps. anti_field ps c.args.field) c.particles.ensures)
    (c.first_in.ensures ∙ ap (λ s. first_from (holds s) 1 c.size-size.result) c.complement.ensures.legs ∙ first_of_others c.legs_of.result c.size-size.result c.size-size.ensures.most
    ∙ ap₂ (λ (n s : ℕ). first_from (others n (holds s)) 1 n) c.size-size.ensures.size c.legs_of.ensures)
