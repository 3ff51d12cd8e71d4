-- Marks leave a list as long as it was.
use Rattle.std.proofs.Common.{◌≡◌, ℕ, List, [], ◌∷◌, length, set, refl, ◌∙◌}
use Rattle.std.proofs.lemmas.List.{length-set}
use Rattle.om_legs.specs.BranchNodes.{mark_each}

pub length-mark_each : {A : Type 0} (mark : A) (marks : List A) (ns : List ℕ) → length (mark_each mark marks ns) ≡ length marks
unfolding mark_each
length-mark_each mark marks [] = refl
length-mark_each mark marks (n ∷ ns) = length-mark_each mark (set marks n mark) ns ∙ length-set marks n mark
