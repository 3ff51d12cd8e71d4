use Rattle.std.proofs.Common.{◌≡◌, ◌≢◌, true, false, sym, ◌∙◌}
use Rattle.om_ring.specs.Ops.{Laws, laws_from}
use Rattle.om_ring.specs.ZpLaws.{zp_laws}
use Rattle.om_ring.specs.ZpOps.{zp, IsElement}
use Rattle.om_lorentz.proofs.Numerators.{mass-massive}
use Rattle.om_lorentz.proofs.tests.numerator_at.Goals as goal

pub propagator-numerator-requires-else-same-clause-mass_in : goal.propagator-numerator-requires-else-same-clause-mass_in
propagator-numerator-requires-else-same-clause-mass_in c =
    let l : Laws zp = laws_from IsElement zp (λ x. x.below) zp_laws in
    let mass = c.number-mass.result in
    let massive : mass ≢ zp.zero = λ e. (let same : false ≡ true = c.if-same.ensures.1 (e ∙ sym c.zero.ensures) in cc) in
    mass-massive zp l c.args.spin mass c.in_ok-inverse.inverse massive (sym c.inverse.ensures.value ∙ c.in_ok-inverse.was)
