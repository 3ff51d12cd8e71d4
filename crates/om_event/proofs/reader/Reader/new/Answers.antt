use Rattle.std.proofs.Common.{◌≡◌, ◌<◌, arith, length, ap, ◌∙◌}
use Rattle.std.proofs.lemmas.List.{length-set}
use Rattle.om_event.proofs.KindsOfCode.{one_kind}
use Rattle.om_event.proofs.reader.Reader.new.Goals as goal

pub loop-leg-preserved : goal.loop-leg-preserved
loop-leg-preserved c =
    let code = c.args.code.now in
    let kinds = c.loop-leg.kinds in
    let leg = c.loop-leg.leg in
    let kind = c.kind_of_field.result in
    let many : length c.as_slice-fields.result.now ≡ length code.legs = ap length c.as_slice-fields.ensures in
    let room : leg < length kinds = omega (arith, c.loop-leg-test.true, many, c.requires.few_legs, c.loop-leg.invariant.many) in
    record {
      many = length-set kinds leg kind ∙ c.loop-leg.invariant.many;
      kinds = one_kind code.model.particles kinds c.as_slice-fields.result.now leg 0 kind room c.loop-leg-test.true c.loop-leg.invariant.kinds c.kind_of_field.ensures;
    }
