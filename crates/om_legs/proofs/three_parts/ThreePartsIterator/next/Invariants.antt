use Rattle.std.proofs.Common.{◌≡◌, length}
use Rattle.om_legs.specs.Walks.{pairs, refined_left}
use Rattle.om_legs.proofs.three_parts.ThreePartsIterator.next.Given as goal

abbrev pub invariant-loop-parts : goal.invariant-loop-parts
invariant-loop-parts l =
    refined_left pairs l.self-inside.first l.self-inside.others l.self-inside.firsts ≡ refined_left pairs l.initial.self-inside.first l.initial.self-inside.others l.initial.self-inside.firsts

abbrev pub decreases-loop-parts : goal.decreases-loop-parts
decreases-loop-parts l = length l.self-inside.firsts
