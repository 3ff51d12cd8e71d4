use Rattle.std.proofs.Common.{◌≡◌, ◌&&◌}
use Rattle.std.specs.Prelude.{nat_le}
use Rattle.om_legs.specs.Legs.{set_of}
use Rattle.om_graph.specs.Reactions.{is_fermion_leg}
use Rattle.om_graph.proofs.reaction.fermions.Given as goal

abbrev pub invariant-loop-k : goal.invariant-loop-k
invariant-loop-k l = l.set ≡ set_of (λ j. nat_le j l.k && is_fermion_leg l.particles l.legs j)
