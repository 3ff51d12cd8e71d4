-- A process over a well-formed model has the lines and the named edges that the laws of its keys ask for.
use Rattle.om_model.specs.declared.model.Model.{Model}
use Rattle.om_model.specs.declared.process.Process.{Process}
use Rattle.om_model.specs.ModelLines.{kinds_of}
use Rattle.om_model.specs.WellFormed.{IsWellFormed}
use Rattle.om_model.specs.ProcessOf.{IsProcessOf}
use Rattle.om_graph.specs.Reactions.{reaction_of}
use Rattle.om_graph.specs.TreeKeys.{IsReaction}

abbrev pub WellFormedHaveReactions : Type 0
WellFormedHaveReactions = (m : Model) (p : Process) → IsWellFormed m → IsProcessOf m p → IsReaction (reaction_of m p) (kinds_of m.particles)
