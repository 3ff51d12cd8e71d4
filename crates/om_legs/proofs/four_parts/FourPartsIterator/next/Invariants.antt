use Rattle.std.proofs.Common.{◌≡◌, length}
use Rattle.om_legs.specs.Walks.{triples, refined_left}
use Rattle.om_legs.proofs.four_parts.FourPartsIterator.next.Given as goal

abbrev pub invariant-loop-parts : goal.invariant-loop-parts
invariant-loop-parts l =
    refined_left triples l.self-inside.first l.self-inside.others l.self-inside.firsts ≡ refined_left triples l.initial.self-inside.first l.initial.self-inside.others l.initial.self-inside.firsts

abbrev pub decreases-loop-parts : goal.decreases-loop-parts
decreases-loop-parts l = length l.self-inside.firsts
