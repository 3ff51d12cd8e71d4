use Rattle.std.proofs.Common.{◌≡◌, ◌≤◌, ◌+◌, ◌*◌, length, ap, ap₂, subst, sym, ◌∙◌, refl, arith}
use Rattle.om_ring.specs.Ops.{laws_from}
use Rattle.om_model.specs.Event.{Balances}
use Rattle.om_code.specs.Meaning.{IsMeaning, MachineAnswer}
use Rattle.om_code.specs.Meaning.MachineAnswer.{pole, unbalanced, values}
use Rattle.om_code.specs.Waves.{event_of}
use Rattle.om_code.specs.declared.code.Code.{Code}
use Rattle.om_machine.specs.Bound.{part}
use Rattle.om_machine.specs.Machines.{table_of}
use Rattle.om_machine.specs.Momenta.{table_from}
use Rattle.om_sample.specs.Generator.{state_after}
use Rattle.om_sample.specs.Events.{IsOfScalars, draws_of_event, drawn_event, sample_event}
use Rattle.om_sample.specs.Sums.{AddUpTo, CodeGives}
use Rattle.om_sample.specs.declared.sums.Sums.{Sums}
use Rattle.om_sample.proofs.Draws.{and_then, none_drawn}
use Rattle.om_sample.proofs.Made.{of_scalars}
use Rattle.om_sample.proofs.Balance.{drawn_balances}
use Rattle.om_sample.proofs.CodeSums.{same_meaning, sum_for_each_flow}
use Rattle.om_sample.proofs.Adding.{none_added, pole_added, value_added, with_values_calls, without_values_calls}
use Rattle.om_sample.proofs.sums.sum_sample.Goals as goal
use Rattle.om_sample.proofs.sums.sum_sample.Goals.{in-Values, in-Pole, in-Unbalanced}

pub loop-event-init : goal.loop-event-init
loop-event-init g c =
    let o = g.R.Ring.ops c.args.ring.now in
    let code = c.args.machine.now.code in
    let legs = length code.legs in
    let none : 0 * draws_of_event legs ≡ 0 = omega arith in
    record {
      code = refl;
      factors = refl;
      masses = refl;
      made = c.requires.made;
      scalars = of_scalars code c.args.event.now c.requires.scalars c.requires.made;
      state = sym (ap (state_after c.args.seed) none ∙ none_drawn c.args.seed);
      few = omega arith;
      sums = subst (λ x. AddUpTo o (CodeGives o code (table_of o c.args.machine.now)) (sample_event o c.args.seed legs) 0 0 x) (sym c.zero.ensures) (none_added o (CodeGives o code (table_of o c.args.machine.now)) (sample_event o c.args.seed legs));
      at_most = omega arith;
    }

pub value_of_event-value-requires-clause-sums : goal.value_of_event-value-requires-clause-sums
value_of_event-value-requires-clause-sums g c =
    let o = g.R.Ring.ops c.args.ring.now in
    let m = c.evaluate.new.self in
    sum_for_each_flow o m.code (table_of o m) c.draw_event.new.event m.sums c.in-Values.ensures.answer.2

pub loop-event-preserved : goal.loop-event-preserved
loop-event-preserved g c =
    let o = g.R.Ring.ops c.args.ring.now in
    let l = laws_from (g.R.Ring.element c.args.ring.now) o (g.met.R.Ring.known c.args.ring.now) (g.met.R.Ring.laws c.args.ring.now) in
    let inv = c.loop-event.invariant in
    let code = c.args.machine.now.code in
    let table = table_of o c.args.machine.now in
    let legs = length code.legs in
    let n = c.loop-event._event in
    let seed = c.args.seed in
    let poles = c.loop-event.sums.poles in
    let total = c.loop-event.sums.total in
    let m = c.evaluate.new.self in
    let many : c.len-legs.result ≡ legs = c.len-legs.ensures ∙ ap (λ (x : Code). length x.legs) c.code.ensures.code in
    let drawn : c.draw_event.new.event ≡ sample_event o seed legs n = c.draw_event.ensures.event ∙ ap₂ (drawn_event o) inv.state many in
    let same_code : m.code ≡ code = c.evaluate.ensures.code ∙ inv.code in
    let same_factors = c.evaluate.ensures.factors ∙ inv.factors in
    let same_masses = c.evaluate.ensures.masses ∙ inv.masses in
    let same_table : table_of o m ≡ table = ap₂ (table_from o) same_factors same_masses in
    let means : (a : MachineAnswer g.row.R-E.Denot) → IsMeaning o m.code (table_of o m) c.draw_event.new.event a → IsMeaning o code table (sample_event o seed legs n) a = λ a h. same_meaning o m.code code (table_of o m) table c.draw_event.new.event (sample_event o seed legs n) a same_code same_table drawn h in
    let next : n * draws_of_event legs + draws_of_event legs ≡ (n + 1) * draws_of_event legs = omega arith in
    let gives = CodeGives o code table in
    let event = sample_event o seed legs in
    let impossible : (Balances o (event_of o (event n)) legs → ⊥) → ⊥ = λ h. h (drawn_balances o l (state_after seed (n * draws_of_event legs)) legs (omega (arith, c.code.ensures.verified.some_legs))) in
    let cost = g.R.Ring.cost c.args.ring.now in
    let many_calls = part code + 4 * legs + length code.flows + 1 in
    let drawn_calls : c.draw_event.new.steps ≤ c.loop-event.steps + 4 * legs * cost = subst (λ k. c.draw_event.new.steps ≤ c.loop-event.steps + 4 * k * cost) many c.draw_event.ensures.at_most in
    let code_calls : c.evaluate.new.steps ≤ c.draw_event.new.steps + part code * cost = subst (λ (x : Code). c.evaluate.new.steps ≤ c.draw_event.new.steps + part x * cost) inv.code c.evaluate.ensures.at_most in
    record {
      code = same_code;
      factors = same_factors;
      masses = same_masses;
      made = c.draw_event.ensures.made code inv.made;
      scalars = subst (λ k. IsOfScalars k c.draw_event.new.event) many c.draw_event.ensures.scalars;
      state = c.draw_event.ensures.state ∙ ap₂ (λ s k. state_after s (draws_of_event k)) inv.state many ∙ and_then seed (n * draws_of_event legs) (draws_of_event legs) ∙ ap (state_after seed) next;
      few = elim c.match-evaluate.branch [
        | in-Values w ↦ subst (λ (s : Sums g.row.R-E.Denot). s.poles ≤ n + 1) (sym w.sums-is) (omega (arith, inv.few))
        | in-Pole w ↦ subst (λ (s : Sums g.row.R-E.Denot). s.poles ≤ n + 1) (sym w.sums-is) (omega (arith, inv.few))
        | in-Unbalanced w ↦ absurd (impossible (means unbalanced w.in-Unbalanced.ensures.answer))
      ];
      sums = elim c.match-evaluate.branch [
        | in-Values w ↦ subst (λ (s : Sums g.row.R-E.Denot). AddUpTo o gives event (n + 1) s.poles s.total) (sym w.sums-is) (value_added o gives event l n poles total w.add-sums.result w.value_of_event-value.result inv.sums (m.sums, means (values m.sums) w.in-Values.ensures.answer, w.value_of_event-value.ensures.value) w.add-sums.ensures.value)
        | in-Pole w ↦ subst (λ (s : Sums g.row.R-E.Denot). AddUpTo o gives event (n + 1) s.poles s.total) (sym w.sums-is) (pole_added o gives event l n poles total inv.sums (record { legs = w.in-Pole.legs; field = w.in-Pole.field }, means (pole (record { legs = w.in-Pole.legs; field = w.in-Pole.field })) w.in-Pole.ensures.answer))
        | in-Unbalanced w ↦ absurd (impossible (means unbalanced w.in-Unbalanced.ensures.answer))
      ];
      at_most = elim c.match-evaluate.branch [
        | in-Values w ↦ subst (λ k. k ≤ c.args.steps.now + (n + 1) * (many_calls * cost)) (sym w.steps-is) (with_values_calls c.args.steps.now n (part code) legs (length code.flows) cost c.loop-event.steps c.draw_event.new.steps c.evaluate.new.steps w.value_of_event-value.new.steps w.add-sums.new.steps inv.at_most drawn_calls code_calls (let f = ap (λ (x : Code). length x.flows * cost) same_code in omega (arith, f, w.value_of_event-value.ensures.at_most)) w.add-sums.ensures.at_most)
        | in-Pole w ↦ subst (λ k. k ≤ c.args.steps.now + (n + 1) * (many_calls * cost)) (sym w.steps-is) (without_values_calls c.args.steps.now n (part code) legs (length code.flows) cost c.loop-event.steps c.draw_event.new.steps c.evaluate.new.steps inv.at_most drawn_calls code_calls)
        | in-Unbalanced w ↦ absurd (impossible (means unbalanced w.in-Unbalanced.ensures.answer))
      ];
    }
