-- What `compile` and `graph` do and leave, by how they end.
use Rattle.std.specs.Prelude.{ℕ, List}
use Rattle.om_ring.specs.Ops.{Ops}
use Rattle.om_model.specs.ProcessOf.{IsProcessOf}
use Rattle.om_model.specs.declared.model.Model.{Model}
use Rattle.om_model.specs.declared.process.Process.{Process}
use Rattle.om_graph.specs.declared.Graph.{Graph}
use Rattle.om_code.specs.declared.code.Code.{Code}
use Rattle.om_emit.specs.GraphCode.{IsCodeOf}
use Rattle.om_program_text.specs.ProgramText.{program_text}
use Rattle.om_asm.specs.InRange.{CodeInRange}
use Rattle.om_listing.specs.Listing.{listing}
use Rattle.om_top.specs.Outside.{Side, IsUntouched, Writes}
use Rattle.om_top.specs.Refusals.{WithModel, WithProcess, WithGraph}
use Rattle.om_top.specs.declared.command.Written.{Written}
use Rattle.om_top.specs.declared.command.Written.TheVariants.{Program, Listing}
use Rattle.om_top.specs.declared.ending.Ending.{Ending}

-- the text of the code of a graph was written; with an accepted model `compile_and_run_agree` asks no more of process and code
abbrev pub WritesProgram : Model → Process → Graph → Side → Ending → Type 0
WritesProgram m p g out ending = IsProcessOf m p × (c : Code) × IsCodeOf m p g c × CodeInRange c × Writes out (program_text c) ending

-- of a process with its graph this was written
abbrev pub WritesNamed : Written → Model → Process → Graph → Side → Ending → Type 0
WritesNamed Program m p g out ending = WritesProgram m p g out ending
WritesNamed Listing m p g out ending = Writes out (listing m g) ending

-- `compile` or `graph` on a file, a text of a process and an output: with a graph, its program or its listing
abbrev pub WriteRan : {E : Type 0} → Written → Ops E → Side → List ℕ → Side → Ending → Type 0
WriteRan written o file text out =
    let quiet = IsUntouched out in
    WithModel o file quiet (WithProcess text quiet (WithGraph quiet (λ m p g. WritesNamed written m p g out)))
