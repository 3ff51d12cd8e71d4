use Rattle.std.proofs.Common.{get_or, None}
use Rattle.om_graph.specs.declared.fields.Meeting.{Meeting}
use Rattle.om_graph.proofs.MeetingLists.{in_at}
use Rattle.om_graph.proofs.fillings.refill.Goals as goal

pub filled_at-requires-clause-vertex : goal.filled_at-requires-clause-vertex
filled_at-requires-clause-vertex c =
    let d : Meeting = record { vertex = 0; up = None } in
    c.requires.vertices (get_or c.args.met.now c.loop-meeting.meeting-index d) (in_at c.args.met.now c.loop-meeting.meeting-index d c.loop-meeting-test.true)
