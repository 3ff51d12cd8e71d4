use Rattle.std.specs.Prelude.{slice_set}
use Rattle.std.proofs.Common.{◌≡◌, ◌+◌, ◌*◌, ◌-◌, ◌<◌, ◌≤◌, ap, subst, sym, ◌∙◌, arith}
use Rattle.om_ring.specs.Ops.{laws_from}
use Rattle.om_kernel.specs.declared.waves.Wave.TheVariants.{Scalar}
use Rattle.om_lorentz.specs.declared.vectors.Four.{Four}
use Rattle.om_sample.specs.Generator.{state_after}
use Rattle.om_sample.specs.Events.{draws_of_event, drawn}
use Rattle.om_sample.proofs.Draws.{and_then, none_drawn, later_drawn}
use Rattle.om_sample.proofs.Drawn.{IsDrawn, all_drawn, has_place, keeps_scalars, leg_drawn, momentum_from, none_drawn_yet, wave_from}
use Rattle.om_sample.proofs.events.draw_event.Goals as goal

pub loop-leg-init : goal.loop-leg-init
loop-leg-init g c =
    let o = g.R.Ring.ops c.args.ring.now in
    let x = c.args.generator.now.state in
    record {
      low = omega arith;
      high = c.requires.some;
      state = sym (none_drawn x);
      drawn = subst (λ (p : Four g.row.R-E.Denot). IsDrawn o x c.args.legs 0 c.args.event.now p) (sym c.zero_four-sum.ensures) (none_drawn_yet o x c.args.legs c.args.event.now c.requires.scalars);
      made = λ c' m. m;
      at_most = omega arith;
    }

pub set-requires-clause-kind : goal.set-requires-clause-kind
set-requires-clause-kind g c =
    let o = g.R.Ring.ops c.args.ring.now in
    let inv = c.loop-leg.invariant in
    has_place o c.args.legs (c.loop-leg.leg - 1) c.loop-leg.event c.draw_wave-wave.result (drawn o c.draw_momentum-momentum.new.generator.state 0) c.draw_wave-wave.ensures.value inv.drawn.scalars (omega (arith, c.loop-leg-test.true, inv.low))

pub loop-leg-preserved : goal.loop-leg-preserved
loop-leg-preserved g c =
    let o = g.R.Ring.ops c.args.ring.now in
    let l = laws_from (g.R.Ring.element c.args.ring.now) o (g.met.R.Ring.known c.args.ring.now) (g.met.R.Ring.laws c.args.ring.now) in
    let inv = c.loop-leg.invariant in
    let x = c.args.generator.now.state in
    let s = c.loop-leg.generator.state in
    let n = c.loop-leg.leg - 1 in
    let next : n + 1 ≡ c.loop-leg.leg + 1 - 1 = omega (arith, inv.low) in
    let within : n < c.args.legs = omega (arith, c.loop-leg-test.true, inv.low) in
    let after : c.draw_momentum-momentum.new.generator.state ≡ state_after x (5 * n + 4) = c.draw_momentum-momentum.ensures.state ∙ ap (λ t. state_after t 4) inv.state ∙ and_then x (5 * n) 4 in
    let five : 5 * n + 4 + 1 ≡ 5 * (c.loop-leg.leg + 1 - 1) = omega (arith, inv.low) in
    let p = c.draw_momentum-momentum.ensures.value ∙ momentum_from o x n s inv.state in
    let w = c.draw_wave-wave.ensures.value in
    record {
      low = omega (arith, inv.low);
      high = omega (arith, c.loop-leg-test.true);
      state = c.draw_wave-wave.ensures.state ∙ ap (λ t. state_after t 1) after ∙ and_then x (5 * n + 4) 1 ∙ ap (state_after x) five;
      drawn = subst (λ k. IsDrawn o x c.args.legs k c.set.new.self c.plus_four-sum.result) next (leg_drawn o l x c.args.legs n c.loop-leg.event c.set.new.self c.loop-leg.sum c.plus_four-sum.result c.draw_momentum-momentum.result _ inv.drawn within p (wave_from o x n _ after) c.plus_four-sum.ensures.value c.set.ensures.momenta (c.set.ensures.waves ∙ ap (λ v. slice_set c.loop-leg.event.waves n v) w));
      made = λ c' m. c.set.ensures.made c' (inv.made c' m);
      at_most = subst (λ k. c.plus_four-sum.new.steps ≤ c.args.steps.now + k * (4 * g.R.Ring.cost c.args.ring.now)) next (omega (arith, inv.at_most, c.plus_four-sum.ensures.at_most));
    }

pub set-requires-2-clause-kind : goal.set-requires-2-clause-kind
set-requires-2-clause-kind g c =
    let o = g.R.Ring.ops c.args.ring.now in
    let inv = c.loop-leg.invariant in
    has_place o c.args.legs (c.args.legs - 1) c.loop-leg.event c.draw_wave-wave-2.result _ c.draw_wave-wave-2.ensures.value inv.drawn.scalars (omega (arith, c.requires.some))

pub returns-clause-event : goal.returns-clause-event
returns-clause-event g c =
    let o = g.R.Ring.ops c.args.ring.now in
    let inv = c.loop-leg.invariant in
    let x = c.args.generator.now.state in
    let legs = c.args.legs in
    let n = c.loop-leg.leg - 1 in
    let end : legs ≡ n + 1 = omega (arith, c.loop-leg-test.false, inv.high, inv.low) in
    let place : legs - 1 ≡ n = omega (arith, c.loop-leg-test.false, inv.high, inv.low) in
    all_drawn o x legs n c.loop-leg.event c.set-2.new.self c.loop-leg.sum c.minus_four-last.result _ inv.drawn end c.minus_four-last.ensures.value (ap (λ s. drawn o s 0) inv.state ∙ later_drawn o x (5 * n) 0 (5 * n) (omega arith)) (c.set-2.ensures.momenta ∙ ap (λ k. slice_set c.loop-leg.event.momenta k c.minus_four-last.result) place) (c.set-2.ensures.waves ∙ ap (λ v. slice_set c.loop-leg.event.waves (legs - 1) v) c.draw_wave-wave-2.ensures.value ∙ ap (λ k. slice_set c.loop-leg.event.waves k (Scalar (drawn o c.loop-leg.generator.state 0))) place)

pub returns-clause-state : goal.returns-clause-state
returns-clause-state g c =
    let inv = c.loop-leg.invariant in
    let x = c.args.generator.now.state in
    let n = c.loop-leg.leg - 1 in
    let all : 5 * n + 1 ≡ draws_of_event c.args.legs = omega (arith, c.loop-leg-test.false, inv.high, inv.low) in
    c.draw_wave-wave-2.ensures.state ∙ ap (λ t. state_after t 1) inv.state ∙ and_then x (5 * n) 1 ∙ ap (state_after x) all

pub returns-clause-scalars : goal.returns-clause-scalars
returns-clause-scalars g c =
    let o = g.R.Ring.ops c.args.ring.now in
    let inv = c.loop-leg.invariant in
    keeps_scalars o c.args.legs (c.args.legs - 1) c.loop-leg.event c.set-2.new.self c.minus_four-last.result _ inv.drawn.scalars (omega (arith, c.requires.some)) c.set-2.ensures.momenta (c.set-2.ensures.waves ∙ ap (λ v. slice_set c.loop-leg.event.waves (c.args.legs - 1) v) c.draw_wave-wave-2.ensures.value)
