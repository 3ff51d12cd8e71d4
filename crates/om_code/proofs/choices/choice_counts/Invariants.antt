use Rattle.std.proofs.Common.{◌≡◌, map, take}
use Rattle.om_code.specs.Choices.{choices_of_row}
use Rattle.om_code.proofs.choices.choice_counts.Given as goal

-- those of the rows so far
abbrev pub invariant-loop-vertex : goal.invariant-loop-vertex
invariant-loop-vertex l = l.counts ≡ map (choices_of_row l.code.model.particles) (take l.vertex-index l.vertex-items)
