use Rattle.std.proofs.Common.{◌<◌, [], length, arith, ap, ◌∙◌}
use Rattle.std.proofs.Math.ListN.{length-set}
use Rattle.om_code.proofs.FirstRow.{row-at}
use Rattle.om_machine.specs.Momenta.{table_from}
use Rattle.om_machine.proofs.Inverting.{denominators-more}
use Rattle.om_machine.proofs.inverses.set_denominators.Goals as goal

pub denominator_of-value-requires-clause-momentum : goal.denominator_of-value-requires-clause-momentum
denominator_of-value-requires-clause-momentum g c =
    c.requires.momenta c.loop-k.k c.den-item.result (row-at c.as_slice-den-items.result.now c.args.code.now.dens c.loop-k.k c.den-item.result c.as_slice-den-items.ensures c.loop-k-test.true c.den-item.is)

pub loop-k-preserved : goal.loop-k-preserved
loop-k-preserved g c =
    let o = g.R.Ring.ops c.args.ring.now in
    let t = table_from o [] c.args.masses.now in
    let dens = c.args.code.now.dens in
    let at = row-at c.as_slice-den-items.result.now dens c.loop-k.k c.den-item.result c.as_slice-den-items.ensures c.loop-k-test.true c.den-item.is in
    let within : c.loop-k.k < length c.loop-k.denominators = (let same = ap length c.as_slice-den-items.ensures in omega (arith, same, c.loop-k-test.true, c.loop-k.invariant.length)) in
    record {
      value = denominators-more o c.args.code.now t c.args.event.now c.loop-k.k c.den-item.result c.denominator_of-value.result c.loop-k.denominators c.set.new.self at within
          c.denominator_of-value.ensures.value c.set.ensures c.loop-k.invariant.value;
      length = ap length c.set.ensures ∙ simp length-set c.loop-k.invariant.length;
      last = c.damping_of-damping.ensures.value;
      at_most = omega (arith, c.loop-k.invariant.at_most, c.damping_of-damping.ensures.at_most, c.denominator_of-value.ensures.at_most);
    }

pub returns-clause-value : goal.returns-clause-value
returns-clause-value g c = λ k d lt at.
    let same = ap length c.as_slice-den-items.ensures in
    let less : k < c.loop-k.k = omega (arith, same, c.loop-k-test.false) in
    c.loop-k.invariant.value k d less at
