use Rattle.std.proofs.Common.{subst, sym}
use Rattle.om_ring.specs.Ops.{laws_from}
use Rattle.om_model.specs.ProcessOf.{IsProcessOf}
use Rattle.om_model.specs.Rules.{IsAccepted}
use Rattle.om_model.specs.WellFormed.{IsWellFormed}
use Rattle.om_model.specs.declared.model.Model.{Model}
use Rattle.om_model.specs.declared.process.Process.{Process}
use Rattle.om_emit.specs.GraphCode.{IsCodeOf}
use Rattle.om_sample.specs.Model.{sample_model, sample_process}
use Rattle.om_sample.proofs.Accepted.{sample_model_accepted}
use Rattle.om_sample.proofs.Process.{process_fits}
use Rattle.om_top.specs.Loads.{IsGraphOf}
use Rattle.om_top.proofs.Sampled.{sample_model_formed}
use Rattle.om_top.proofs.commands.sample.load_sample.Goals as goal

pub load_graph-requires-clause-accepted : goal.load_graph-requires-clause-accepted
load_graph-requires-clause-accepted g c =
    let r = c.args.ring.now in
    let l = laws_from (g.R.Ring.element r) (g.R.Ring.ops r) (g.met.R.Ring.known r) (g.met.R.Ring.laws r) in
    subst (λ (m : Model). IsWellFormed m) (sym c.in_ok-model.ensures) (sample_model_formed (g.R.Ring.ops r) l)

pub load_graph-requires-clause-process : goal.load_graph-requires-clause-process
load_graph-requires-clause-process g c =
    subst (λ (p : Process). IsProcessOf c.in_ok-model.model p) (sym c.in_ok-process.ensures)
    (subst (λ (m : Model). IsProcessOf m (sample_process c.args.legs)) (sym c.in_ok-model.ensures) (process_fits c.args.legs c.requires.fewest c.requires.most))

pub load_machine-requires-clause-accepted : goal.load_machine-requires-clause-accepted
load_machine-requires-clause-accepted g c =
    let r = c.args.ring.now in
    let l = laws_from (g.R.Ring.element r) (g.R.Ring.ops r) (g.met.R.Ring.known r) (g.met.R.Ring.laws r) in
    subst (λ (m : Model). IsAccepted (g.R.Ring.ops r) m) (sym c.in_ok-model.ensures) (sample_model_accepted (g.R.Ring.ops r) l)

pub load_machine-requires-clause-process : goal.load_machine-requires-clause-process
load_machine-requires-clause-process g c =
    subst (λ (p : Process). IsProcessOf c.in_ok-model.model p) (sym c.in_ok-process.ensures)
    (subst (λ (m : Model). IsProcessOf m (sample_process c.args.legs)) (sym c.in_ok-model.ensures) (process_fits c.args.legs c.requires.fewest c.requires.most))

pub returns-in-Ok-load_machine-clause-code : goal.returns-in-Ok-load_machine-clause-code
returns-in-Ok-load_machine-clause-code g c =
    let code = c.in-Ok-load_machine.machine.code in
    let graph = c.in-Ok.graph in
    record {
      graph = graph;
      is_graph = subst (λ (p : Process). IsGraphOf sample_model p graph) c.in_ok-process.ensures (subst (λ (m : Model). IsGraphOf m c.in_ok-process.process graph) c.in_ok-model.ensures c.in-Ok.ensures);
      is_code = subst (λ (p : Process). IsCodeOf sample_model p graph code) c.in_ok-process.ensures (subst (λ (m : Model). IsCodeOf m c.in_ok-process.process graph code) c.in_ok-model.ensures c.in-Ok-load_machine.ensures.code);
    }
