use Rattle.std.proofs.Common.{◌≡◌, map, take}
use Rattle.om_graph.specs.Fillings.{filling_at}
use Rattle.om_graph.specs.Reactions.{reaction_in}
use Rattle.om_graph.proofs.fillings.refill.Given as goal

abbrev pub invariant-loop-meeting : goal.invariant-loop-meeting
invariant-loop-meeting l = l.fillings.items ≡ map (filling_at (reaction_in l.reaction) l.closing l.listed) (take l.meeting-index l.met)
