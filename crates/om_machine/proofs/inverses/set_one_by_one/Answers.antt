use Rattle.std.proofs.Common.{◌<◌, [], length, refl, arith, ap, sym, ◌∙◌}
use Rattle.std.proofs.Math.ListN.{length-set}
use Rattle.std.proofs.lemmas.List.{get_or_read_under}
use Rattle.om_machine.specs.Momenta.{row_of_masses, table_from}
use Rattle.om_machine.proofs.MomentumSums.{edges-more, first-pole}
use Rattle.om_machine.proofs.inverses.set_one_by_one.Goals as goal

pub returns-in_default-clause-value : goal.returns-in_default-clause-value
returns-in_default-clause-value g c =
    let o = g.R.Ring.ops c.args.ring.now in
    let t = table_from o [] c.args.masses.now in
    let xs = c.args.denominators.now in
    let k = c.loop-k.k in
    let within : k < length c.args.code.now.dens = omega (arith, c.loop-k-test.true, c.len-k-end.ensures) in
    let there = get_or_read_under xs k (length xs) c.index-denominators-k.result o.zero c.index-denominators-k.is (omega (arith, within, c.requires.count)) refl
    ∙ c.requires.denominators k c.at-den.result.now within c.at-den.ensures in
    first-pole o c.args.code.now t c.args.event.now c.args.code.now.dens k c.at-den.result.now c.at-den.ensures (ap o.inverse (sym there) ∙ sym c.in_default.ensures.value) (λ j b lt at. (c.loop-k.invariant.value j b lt at).0)

pub loop-k-preserved : goal.loop-k-preserved
loop-k-preserved g c =
    let o = g.R.Ring.ops c.args.ring.now in
    let t = table_from o [] c.args.masses.now in
    let xs = c.args.denominators.now in
    let k = c.loop-k.k in
    let within : k < length c.args.code.now.dens = omega (arith, c.loop-k-test.true, c.len-k-end.ensures) in
    let there = get_or_read_under xs k (length xs) c.index-denominators-k.result o.zero c.index-denominators-k.is (omega (arith, within, c.requires.count)) refl
    ∙ c.requires.denominators k c.at-den.result.now within c.at-den.ensures in
    let place : k < length c.loop-k.edges = omega (arith, within, c.loop-k.invariant.length) in
    record {
      value = edges-more o c.args.code.now t c.args.event.now k c.at-den.result.now c.in-Some.inverse c.mul-factor.result c.loop-k.edges c.set.new.self c.at-den.ensures place
          (ap o.inverse (sym there) ∙ sym c.in-Some.ensures.value)
          (c.mul-factor.ensures.value ∙ ap (λ m. o.times m.norm c.in-Some.inverse) (c.masses_in-norm.ensures ∙ ap (row_of_masses o c.args.masses.now) c.from.ensures))
          c.set.ensures c.loop-k.invariant.value;
      length = ap length c.set.ensures ∙ simp length-set c.loop-k.invariant.length;
      at_most = omega (arith, c.loop-k.invariant.at_most, c.in-Some.ensures.at_most, c.mul-factor.ensures.at_most);
    }

pub returns-clause-value : goal.returns-clause-value
returns-clause-value g c = λ k d lt at. let less : k < c.loop-k.k = omega arith in c.loop-k.invariant.value k d less at
