-- The signs of the terms and of the keystone term that a diagram uses.
use Rattle.std.specs.Prelude.{◌≡◌, Bool, true, false}
use Rattle.om_model.specs.declared.model.Model.{Model}
use Rattle.om_model.specs.declared.process.Process.{Process}
use Rattle.om_model.specs.Model.{scattering_of}
use Rattle.om_model.specs.ModelLines.{lines_of}
use Rattle.om_model.specs.Tree.{Tree, Branches}
use Rattle.om_model.specs.Tree.Tree.{leaf, join}
use Rattle.om_model.specs.Tree.Branches.{none, and}
use Rattle.om_model.specs.Diagrams.{counts}
use Rattle.om_model.specs.Inversions.{xor}
use Rattle.om_model.specs.KeystoneForm.{IsKeystoneForm}
use Rattle.om_model.specs.LegSets.{leg_set}
use Rattle.om_model.specs.Opened.{Opened}
use Rattle.om_graph.specs.Reactions.{reaction_of}
use Rattle.om_graph.specs.TreeKeys.{keys_of}
use Rattle.om_graph.specs.Vertices.{Reaction, fused_minus, closed_minus}
use Rattle.om_model.specs.WellFormed.{IsWellFormed}
use Rattle.om_model.specs.ProcessOf.{IsProcessOf}

module _ (r : Reaction) where
  -- whether an odd number of the terms at the vertices of a tree, and of what hangs from a vertex, have the sign -1
  unfoldable mutual
    pub is_odd_in : Tree → Bool
    is_odd_in (leaf k) = false
    is_odd_in (join f v c bs) = xor (fused_minus r f v (leg_set (join f v c bs)) (keys_of r bs)) (is_odd_below bs)

    pub is_odd_below : Branches → Bool
    is_odd_below none = false
    is_odd_below (and t bs) = xor (is_odd_in t) (is_odd_below bs)

-- the sign of a diagram that counts is the product of the signs of its keystone term and of its terms
abbrev pub SignsOfTermsMultiply : Type 0
SignsOfTermsMultiply =
    (m : Model) (p : Process) → IsWellFormed m → IsProcessOf m p → (t : Tree) → counts (scattering_of m p) t ≡ true
    → (a : Opened) → IsKeystoneForm (scattering_of m p) t a → let r = reaction_of m p in
    (lines_of m p).is_odd t ≡ xor (closed_minus r a.vertex (keys_of r a.parts)) (is_odd_below r a.parts)
