use Rattle.std.proofs.Common.{◌≡◌, ℕ, ◌<◌, length}
use Rattle.om_graph.specs.Reactions.{reaction_in}
use Rattle.om_graph.proofs.valence.has_valence.Given as goal

abbrev pub invariant-loop-vertex : goal.invariant-loop-vertex
invariant-loop-vertex l = (v : ℕ) → v < l.vertex → length ((reaction_in l.reaction).scattering.theory.slots v) ≡ l.slots → ⊥
