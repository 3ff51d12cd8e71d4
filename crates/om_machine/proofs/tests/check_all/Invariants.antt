use Rattle.om_machine.specs.Machines.{KeepsInverses}
use Rattle.om_machine.proofs.tests.check_all.Given as goal

abbrev pub invariant-loop-case : goal.invariant-loop-case
invariant-loop-case g l = KeepsInverses (g.R.Ring.ops l.ring) l.machine.code l.machine.masses
