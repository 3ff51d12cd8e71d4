use Rattle.std.proofs.Common.{◌+◌, List, ℕ, arith, refl, subst, sym, ◌∙◌}
use Rattle.om_code.specs.declared.code.Code.{Code}
use Rattle.om_event.specs.Kinds.{AreKindsOf}
use Rattle.om_event.proofs.KindsOfCode.{made_by_kinds}
use Rattle.om_top.specs.RunRan.{OwesMeaning}
use Rattle.om_top.specs.Streamed.{kinds_of}
use Rattle.om_top.proofs.CodeAnswers.{some_kinds}
use Rattle.om_top.proofs.StreamSteps.{answered_calls, broken_calls, ended_calls, is_event, made_now, reading_now, stream_answered, stream_broken, stream_ended}
use Rattle.om_top.proofs.Streams.{Progress, starts}
use Rattle.om_top.proofs.stream.stream.Goals as goal

pub loop-number-init : goal.loop-number-init
loop-number-init g c =
    let o = g.R.Ring.ops c.args.ring.now in
    let m = c.args.machine.now in
    let kinds = kinds_of m.code.model.particles m.code.legs in
    let r = c.new-reader.result in
    let are : AreKindsOf m.code r.kinds = subst (λ (x : Code). AreKindsOf x r.kinds) c.code.ensures.code c.new-reader.ensures.kinds in
    let first = g.S.Source.left c.args.input.now in
    let out = g.O.Sink.written c.args.out.now in
    let Owes = OwesMeaning o (g.R.Ring.text c.args.ring.now) m.code in
    record {
      reading = record {
        code = refl;
        factors = refl;
        masses = refl;
        are = are;
        live = c.new-reader.ensures.live;
        given = c.new-reader.ensures.given;
        made = (made_by_kinds m.code r.kinds are c.args.event.now).0 c.requires.made;
      };
      progress = subst (λ (h : List ℕ). Progress Owes o kinds first first out out h 0) (sym c.new-reader.ensures.held) (starts Owes o kinds (some_kinds m.code.model.particles m.code.legs c.code.ensures.verified.some_legs) first out);
      input_later = omega arith;
      out_later = omega arith;
      calls = omega arith;
    }

pub returns-in-Some-clause-streamed : goal.returns-in-Some-clause-streamed
returns-in-Some-clause-streamed g c =
    let left = g.S.Source.left in
    let faults = g.S.Source.faults in
    let written = g.O.Sink.written in
    let l = c.loop-number in
    let n = c.next-next in
    let e = n.ensures in
    stream_ended (g.R.Ring.ops c.args.ring.now) (g.R.Ring.text c.args.ring.now) c.args.machine.now c.code.ensures.verified c.requires.loaded l.machine l.reader l.number l.event l.invariant.reading
    (left c.args.input.now) (left l.input) (left n.new.input) (written c.args.out.now) (written l.out) l.invariant.progress e.gives.0 e.gives.1 n.new.self.held n.new.event n.result e.gives.2
    c.in-Some.ending (sym c.ending_of.ensures ∙ c.in-Some.is) e.end (faults c.args.input.now) (faults l.input) (faults n.new.input) (g.O.Sink.faults c.args.out.now) (g.O.Sink.faults l.out) l.invariant.input_later e.later e.failed

pub returns-in-Some-clause-calls : goal.returns-in-Some-clause-calls
returns-in-Some-clause-calls g c =
    let left = g.S.Source.left in
    let faults = g.S.Source.faults in
    let written = g.O.Sink.written in
    let l = c.loop-number in
    let n = c.next-next in
    let e = n.ensures in
    ended_calls (g.R.Ring.ops c.args.ring.now) (g.R.Ring.text c.args.ring.now) c.args.machine.now c.code.ensures.verified c.requires.loaded l.machine l.reader l.number l.event l.invariant.reading
    (left c.args.input.now) (left l.input) (left n.new.input) (written c.args.out.now) (written l.out) l.invariant.progress e.gives.0 e.gives.1 n.new.self.held n.new.event n.result e.gives.2
    c.in-Some.ending (sym c.ending_of.ensures ∙ c.in-Some.is) (faults c.args.input.now) (faults n.new.input) (g.R.Ring.cost c.args.ring.now) c.args.steps.now l.steps n.new.steps l.invariant.calls e.at_most e.gives.3 e.none_behind

pub returns-clause-streamed : goal.returns-clause-streamed
returns-clause-streamed g c =
    let left = g.S.Source.left in
    let faults = g.S.Source.faults in
    let written = g.O.Sink.written in
    let l = c.loop-number in
    let n = c.next in
    let e = n.ensures in
    stream_ended (g.R.Ring.ops c.args.ring.now) (g.R.Ring.text c.args.ring.now) c.args.machine.now c.code.ensures.verified c.requires.loaded l.machine l.reader l.number l.event l.invariant.reading
    (left c.args.input.now) (left l.input) (left n.new.input) (written c.args.out.now) (written l.out) l.invariant.progress e.gives.0 e.gives.1 n.new.self.held n.new.event n.result e.gives.2
    c.in-Some-ending_of.ending (sym c.ending_of-2.ensures ∙ c.in-Some-ending_of.is) e.end (faults c.args.input.now) (faults l.input) (faults n.new.input) (g.O.Sink.faults c.args.out.now) (g.O.Sink.faults l.out) l.invariant.input_later e.later e.failed

pub returns-clause-calls : goal.returns-clause-calls
returns-clause-calls g c =
    let left = g.S.Source.left in
    let faults = g.S.Source.faults in
    let written = g.O.Sink.written in
    let l = c.loop-number in
    let n = c.next in
    let e = n.ensures in
    ended_calls (g.R.Ring.ops c.args.ring.now) (g.R.Ring.text c.args.ring.now) c.args.machine.now c.code.ensures.verified c.requires.loaded l.machine l.reader l.number l.event l.invariant.reading
    (left c.args.input.now) (left l.input) (left n.new.input) (written c.args.out.now) (written l.out) l.invariant.progress e.gives.0 e.gives.1 n.new.self.held n.new.event n.result e.gives.2
    c.in-Some-ending_of.ending (sym c.ending_of-2.ensures ∙ c.in-Some-ending_of.is) (faults c.args.input.now) (faults n.new.input) (g.R.Ring.cost c.args.ring.now) c.args.steps.now l.steps n.new.steps l.invariant.calls e.at_most e.gives.3 e.none_behind

pub evaluate-outcome-requires-clause-made : goal.evaluate-outcome-requires-clause-made
evaluate-outcome-requires-clause-made g c =
    let l = c.loop-number in
    made_now (g.R.Ring.ops c.args.ring.now) (g.R.Ring.text c.args.ring.now) c.args.machine.now c.code.ensures.verified c.requires.loaded l.machine l.reader l.number l.event l.invariant.reading c.next-next.new.event c.next-next.ensures.made

pub returns-in-Err-clause-streamed : goal.returns-in-Err-clause-streamed
returns-in-Err-clause-streamed g c =
    let o = g.R.Ring.ops c.args.ring.now in
    let left = g.S.Source.left in
    let written = g.O.Sink.written in
    let l = c.loop-number in
    let n = c.next-next in
    let e = n.ensures in
    let v = c.evaluate-outcome in
    let w = c.write_answer in
    stream_broken o (g.R.Ring.text c.args.ring.now) c.args.machine.now c.code.ensures.verified c.requires.loaded l.machine l.reader l.number l.event l.invariant.reading
    (left c.args.input.now) (left l.input) (left n.new.input) (written c.args.out.now) (written l.out) l.invariant.progress e.gives.0 e.gives.1 n.new.self.held n.new.event n.result e.gives.2
    (is_event n.result (sym c.ending_of.ensures ∙ c.in_default.is)) (λ q. let t = c.loop-number-test.true in omega (arith, t, q)) e.made v.new.self v.ensures.code v.ensures.factors v.ensures.masses v.result v.ensures.answer (l.number + 1) refl
    (written w.new.out) c.in-Err.ensures.err (g.S.Source.faults c.args.input.now) (g.S.Source.faults n.new.input) (g.O.Sink.faults c.args.out.now) (g.O.Sink.faults l.out) (g.O.Sink.faults w.new.out) l.invariant.out_later c.in-Err.ensures.cause.later c.in-Err.ensures.cause.failed

pub returns-in-Err-clause-calls : goal.returns-in-Err-clause-calls
returns-in-Err-clause-calls g c =
    let o = g.R.Ring.ops c.args.ring.now in
    let left = g.S.Source.left in
    let written = g.O.Sink.written in
    let l = c.loop-number in
    let n = c.next-next in
    let e = n.ensures in
    let v = c.evaluate-outcome in
    let w = c.write_answer in
    broken_calls o (g.R.Ring.text c.args.ring.now) c.args.machine.now c.code.ensures.verified c.requires.loaded l.machine l.reader l.number l.event l.invariant.reading
    (left c.args.input.now) (left l.input) (left n.new.input) (written c.args.out.now) (written l.out) l.invariant.progress e.gives.0 e.gives.1 n.new.self.held n.new.event n.result e.gives.2
    (is_event n.result (sym c.ending_of.ensures ∙ c.in_default.is)) (λ q. let t = c.loop-number-test.true in omega (arith, t, q)) e.made v.new.self v.ensures.code v.ensures.factors v.ensures.masses v.result v.ensures.answer (l.number + 1) refl
    (g.R.Ring.cost c.args.ring.now) c.args.steps.now l.steps n.new.steps v.new.steps l.invariant.calls e.at_most v.ensures.at_most (g.S.Source.faults c.args.input.now) (g.S.Source.faults n.new.input)

pub loop-number-preserved : goal.loop-number-preserved
loop-number-preserved g c =
    let o = g.R.Ring.ops c.args.ring.now in
    let left = g.S.Source.left in
    let written = g.O.Sink.written in
    let l = c.loop-number in
    let n = c.next-next in
    let e = n.ensures in
    let v = c.evaluate-outcome in
    let w = c.write_answer in
    let ok = c.in_default-write_answer.ensures in
    record {
      reading = reading_now o (g.R.Ring.text c.args.ring.now) c.args.machine.now c.code.ensures.verified c.requires.loaded l.machine l.reader l.number l.event l.invariant.reading
          (left c.args.input.now) (left l.input) (left n.new.input) (written c.args.out.now) (written l.out) l.invariant.progress e.gives.0 e.gives.1 n.new.self.held n.new.event n.result e.gives.2
          (is_event n.result (sym c.ending_of.ensures ∙ c.in_default.is)) (λ q. let t = c.loop-number-test.true in omega (arith, t, q)) e.made v.new.self v.ensures.code v.ensures.factors v.ensures.masses v.result v.ensures.answer (l.number + 1) refl
          n.new.self e.stays e.kinds;
      progress = stream_answered o (g.R.Ring.text c.args.ring.now) c.args.machine.now c.code.ensures.verified c.requires.loaded l.machine l.reader l.number l.event l.invariant.reading
          (left c.args.input.now) (left l.input) (left n.new.input) (written c.args.out.now) (written l.out) l.invariant.progress e.gives.0 e.gives.1 n.new.self.held n.new.event n.result e.gives.2
          (is_event n.result (sym c.ending_of.ensures ∙ c.in_default.is)) (λ q. let t = c.loop-number-test.true in omega (arith, t, q)) e.made v.new.self v.ensures.code v.ensures.factors v.ensures.masses v.result v.ensures.answer (l.number + 1) refl
          (written w.new.out) ok.ok;
      input_later = omega (arith, l.invariant.input_later, e.later);
      out_later = omega (arith, l.invariant.out_later, ok.cause.later);
      calls = answered_calls o (g.R.Ring.text c.args.ring.now) c.args.machine.now c.code.ensures.verified c.requires.loaded l.machine l.reader l.number l.event l.invariant.reading
          (left c.args.input.now) (left l.input) (left n.new.input) (written c.args.out.now) (written l.out) l.invariant.progress e.gives.0 e.gives.1 n.new.self.held n.new.event n.result e.gives.2
          (is_event n.result (sym c.ending_of.ensures ∙ c.in_default.is)) (λ q. let t = c.loop-number-test.true in omega (arith, t, q)) e.made v.new.self v.ensures.code v.ensures.factors v.ensures.masses v.result v.ensures.answer (l.number + 1) refl
          (g.R.Ring.cost c.args.ring.now) c.args.steps.now l.steps n.new.steps v.new.steps l.invariant.calls e.at_most v.ensures.at_most;
    }
