use Rattle.std.proofs.Common.{◌∙◌, ap, sym, arith}
use Rattle.om_model.specs.Model.{spin_of_field}
use Rattle.om_graph.specs.Reactions.{is_fermion_leg}
use Rattle.om_model.specs.ModelLines.{is_dirac}
use Rattle.om_graph.proofs.FermionLegs.{leg_read, no_leg_yet, one_leg_more}
use Rattle.om_graph.proofs.reaction.fermions.Goals as goal

pub loop-k-init : goal.loop-k-init
loop-k-init c = c.empty-set.ensures ∙ no_leg_yet (λ j. is_fermion_leg c.args.particles.now c.args.legs.now j)

pub loop-k-preserved : goal.loop-k-preserved
loop-k-preserved c =
    one_leg_more (λ j. is_fermion_leg c.args.particles.now c.args.legs.now j) c.loop-k.k c.loop-k.set c.with_leg-set.result c.is_dirac-there.result (omega (arith, c.requires, c.loop-k-test.true)) c.loop-k.invariant
    (c.is_dirac-there.ensures ∙ ap is_dirac (c.spin_of_field.ensures ∙ ap (spin_of_field c.args.particles.now) (sym (leg_read c.args.legs.now c.loop-k.k _ c.loop-k-test.true)))) c.with_leg-set.ensures
