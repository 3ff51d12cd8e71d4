use Rattle.om_event.specs.Kinds.{HasKinds}
use Rattle.om_event.proofs.tests.read_all.Given as goal

abbrev pub invariant-loop-call : goal.invariant-loop-call
invariant-loop-call l = record { made : HasKinds l.reader.kinds l.event }
