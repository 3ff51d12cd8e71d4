use Rattle.std.proofs.Common.{◌≡◌, ◌∙◌}
use Rattle.om_ring.specs.Ops.{laws_from}
use Rattle.om_machine.proofs.DenominatorForm.{denominator-summed, summed}
use Rattle.om_machine.proofs.momenta.denominator.Goals as goal

pub returns-clause-value : goal.returns-clause-value
returns-clause-value g c =
    let r = c.args.ring.now in
    let o = g.R.Ring.ops r in
    let l = laws_from (g.R.Ring.element r) o (g.met.R.Ring.known r) (g.met.R.Ring.laws r) in
    let p = c.args.p.now in
    let sum : c.multiply_add.result ≡ summed o p c.args.mass c.args.width = cc (c.multiply_add.ensures.value, c.add-rest.ensures.value, c.requires, c.dot4-less.ensures.value, c.neg-opposite.ensures.value) in
    sum ∙ denominator-summed o l p c.args.mass c.args.width
