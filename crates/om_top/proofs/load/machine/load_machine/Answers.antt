use Rattle.std.proofs.Common.{length, ap, arith, subst, sym}
use Rattle.om_model.specs.ModelTable.{model_table}
use Rattle.om_model.specs.Rules.{IsAccepted}
use Rattle.om_model.specs.declared.model.Model.{Model}
use Rattle.om_machine.specs.Machines.{SameTable, table_of}
use Rattle.om_code.specs.declared.code.Code.{Code}
use Rattle.om_top.proofs.Files.{formed, never_lacks}
use Rattle.om_top.proofs.load.machine.load_machine.Goals as goal

pub emit-requires-clause-accepted : goal.emit-requires-clause-accepted
emit-requires-clause-accepted g c = formed (g.R.Ring.ops c.args.ring.now) c.args.model.now c.requires.accepted

pub unreachable-requires : goal.unreachable-requires
unreachable-requires g c =
    let o = g.R.Ring.ops c.args.ring.now in
    never_lacks o c.in-Ok.code c.in-Err-NoInverse.field-0-0 (subst (λ (m : Model). IsAccepted o m) (sym c.in-Ok.ensures.code.same_model) c.requires.accepted) (rw c.in-Err-NoInverse.field-0-is at c.in-Err-NoInverse.ensures.fault)

pub returns-in-Ok-load-clause-loaded : goal.returns-in-Ok-load-clause-loaded
returns-in-Ok-load-clause-loaded g c =
    let o = g.R.Ring.ops c.args.ring.now in
    record {
      table = subst (λ (x : Code). SameTable o (table_of o c.in-Ok-load.machine) (model_table o x.model)) (sym c.in-Ok-load.ensures.code) c.in-Ok-load.ensures.table;
      kept = c.in-Ok-load.ensures.kept;
      few = omega (arith, c.in-Ok.ensures.few, ap (λ (x : Code). length x.flows) c.in-Ok-load.ensures.code);
    }
