use Rattle.std.proofs.Common.{◌≡◌, ◌≢◌, true, false, sym, ◌∙◌}
use Rattle.om_ring.specs.Ops.{Laws, laws_from}
use Rattle.om_ring.specs.ZpLaws.{zp_laws}
use Rattle.om_ring.specs.ZpOps.{zp, IsElement}
use Rattle.om_lorentz.proofs.Numerators.{mass-massive}
use Rattle.om_kernel.specs.EdgeSums.{spin_of}
use Rattle.om_kernel.proofs.edge_tests.takes.Goals as goal

pub edge_calls-requires-2 : goal.edge_calls-requires-2
edge_calls-requires-2 c =
    let l : Laws zp = laws_from IsElement zp (λ x. x.below) zp_laws in
    let mass = c.number-mass.result in
    let massive : mass ≢ zp.zero = λ e. (let same : false ≡ true = c.if-same.ensures.1 (e ∙ sym c.zero-zero.ensures) in cc) in
    mass-massive zp l (spin_of c.args.wave) mass c.in-Some.inverse_mass massive (sym c.inverse.ensures.value ∙ c.in-Some.is)
