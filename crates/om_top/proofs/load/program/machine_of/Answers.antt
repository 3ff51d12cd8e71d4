use Rattle.std.proofs.Common.{◌*◌, length, ap, arith, subst, sym}
use Rattle.om_code.specs.declared.code.Code.{Code}
use Rattle.om_model.specs.ModelTable.{model_table}
use Rattle.om_machine.specs.Machines.{SameTable, table_of}
use Rattle.om_top.specs.Loads.{SaysProgram}
use Rattle.om_top.proofs.CallBounds.{loads_code}
use Rattle.om_top.proofs.ProgramLines.{few_flows}
use Rattle.om_top.proofs.load.program.machine_of.Goals as goal

pub returns-in-Ok-load-clause-program : goal.returns-in-Ok-load-clause-program
returns-in-Ok-load-clause-program g c =
    let o = g.R.Ring.ops c.args.ring.now in
    subst (λ (x : Code). SaysProgram o c.args.bytes.now x) (sym c.in-Ok-load.ensures.code)
    (record { reads = c.in-Ok.ensures.0; verified = c.in-Ok.ensures.1; inverses = c.in-Ok-load.ensures.inverses })

pub returns-in-Ok-load-clause-loaded : goal.returns-in-Ok-load-clause-loaded
returns-in-Ok-load-clause-loaded g c =
    let o = g.R.Ring.ops c.args.ring.now in
    record {
      table = subst (λ (x : Code). SameTable o (table_of o c.in-Ok-load.machine) (model_table o x.model)) (sym c.in-Ok-load.ensures.code) c.in-Ok-load.ensures.table;
      kept = c.in-Ok-load.ensures.kept;
      few = omega (arith, few_flows c.in-Ok.code c.args.bytes.now c.in-Ok.ensures.0, c.requires, ap (λ (x : Code). length x.flows) c.in-Ok-load.ensures.code);
    }

pub returns-in-Ok-load-clause-calls : goal.returns-in-Ok-load-clause-calls
returns-in-Ok-load-clause-calls g c =
    let most = c.in-Ok-load.ensures.at_most in
    omega (arith, most, ap (λ n. n * g.R.Ring.cost c.args.ring.now) (loads_code c.args.bytes.now c.in-Ok.code c.in-Ok.ensures.0))

pub returns-in-Err-NoInverse-clause-calls : goal.returns-in-Err-NoInverse-clause-calls
returns-in-Err-NoInverse-clause-calls g c =
    let most = c.in-Err-NoInverse.ensures.at_most in
    omega (arith, most, ap (λ n. n * g.R.Ring.cost c.args.ring.now) (loads_code c.args.bytes.now c.in-Ok.code c.in-Ok.ensures.0))

pub returns-in-Err-Memory-clause-calls : goal.returns-in-Err-Memory-clause-calls
returns-in-Err-Memory-clause-calls g c =
    let most = c.in-Err-Memory.ensures.at_most in
    omega (arith, most, ap (λ n. n * g.R.Ring.cost c.args.ring.now) (loads_code c.args.bytes.now c.in-Ok.code c.in-Ok.ensures.0))
