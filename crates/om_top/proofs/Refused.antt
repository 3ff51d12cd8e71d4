-- What a command leaves that begins with a model, a process and its graph.
use Rattle.std.proofs.Common.{ℕ, List}
use Rattle.om_ring.specs.Ops.{Ops}
use Rattle.om_model.specs.declared.model.Model.{Model}
use Rattle.om_model.specs.declared.process.Process.{Process}
use Rattle.om_graph.specs.declared.Graph.{Graph}
use Rattle.om_top.specs.Loads.{AreNamed, LoadsNoneNamed}
use Rattle.om_top.specs.Outside.{Side}
use Rattle.om_top.specs.Refusals.{WithModel, WithProcess, WithGraph}
use Rattle.om_top.specs.declared.ending.Ending.{Ending}
use Rattle.om_top.specs.declared.ending.Ending.TheVariants.{Done, ModelTooLong, ModelFault, ProcessFault, GraphTooLarge, EventFault, FileFault, InputFault, OutFault, NoMemory}

-- an ending that comes with a graph: what stands then, and that nothing else does where memory ran out
abbrev pub Went : Type 0 → (Ending → Type 0) → Ending → Type 0
Went quiet rest Done = rest Done
Went quiet rest (EventFault fault) = rest (EventFault fault)
Went quiet rest InputFault = rest InputFault
Went quiet rest OutFault = rest OutFault
Went quiet rest NoMemory = quiet
Went quiet rest _ = ⊥

module _ {E : Type 0} (o : Ops E) (file : Side) (text : List ℕ) (quiet : Type 0) (rest : Model → Process → Graph → Ending → Type 0) where
  -- there was none
  pub without_named : (e : Ending) → LoadsNoneNamed o file text e → quiet → WithModel o file quiet (WithProcess text quiet (WithGraph quiet rest)) e
  without_named ModelTooLong h q = (h, q)
  without_named (ModelFault fault) h q = (h, q)
  without_named FileFault h q = (h, q)
  without_named NoMemory h q = q
  without_named (ProcessFault fault) (m, holds, refused) q = (m, holds, (refused, q))
  without_named GraphTooLarge (m, holds, p, says, large) q = (m, holds, (p, says, (large, q)))
  without_named e h q = absurd h

  -- there was one
  pub with_named : (m : Model) (p : Process) (g : Graph) → AreNamed o file text m p g → (e : Ending) → Went quiet (rest m p g) e → WithModel o file quiet (WithProcess text quiet (WithGraph quiet rest)) e
  with_named m p g named Done h = (m, named.model, (p, named.process, (g, named.graph, h)))
  with_named m p g named (EventFault fault) h = (m, named.model, (p, named.process, (g, named.graph, h)))
  with_named m p g named InputFault h = (m, named.model, (p, named.process, (g, named.graph, h)))
  with_named m p g named OutFault h = (m, named.model, (p, named.process, (g, named.graph, h)))
  with_named m p g named NoMemory h = h
  with_named m p g named e h = absurd h
