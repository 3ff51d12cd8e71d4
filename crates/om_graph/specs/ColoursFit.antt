-- Wherever nodes can meet, their colour lines fit.
use Rattle.std.specs.Prelude.{◌≡◌, ℕ, ◌<◌, ◌⊎◌, List, ◌∷◌, length, true, None}
use Rattle.om_legs.specs.Legs.{all_legs}
use Rattle.om_legs.specs.Splits.{IsSplit}
use Rattle.om_colour.specs.Partials.{no_hole, Fits, part_at}
use Rattle.om_colour.specs.Lines.{IsSlot}
use Rattle.om_colour.specs.declared.Choice.{Choice}
use Rattle.om_colour.specs.declared.SlotPartials.{SlotPartials}
use Rattle.om_model.specs.Diagram.{same_numbers}
use Rattle.om_model.specs.FermionLines.{Kinds}
use Rattle.om_graph.specs.declared.Key.{Key}
use Rattle.om_graph.specs.Fusion.{AllNodes}
use Rattle.om_graph.specs.Vertices.{Reaction, fusion, sets_of, fields_of, fused_slots, closed_slots, slot_partials, hole_of}
use Rattle.om_graph.specs.TreeKeys.{IsReaction}

-- what `join` asks for: slot h is free, and the partial flows fit the choice
pub record CanJoin (q : SlotPartials) (c : Choice) (h : ℕ) : Type 0 where
  pub slot : IsSlot h
  pub free : part_at q h ≡ None
  pub fits : Fits q c h

module _ (r : Reaction) where
  -- two or three nodes that share out legs enter a vertex beside an edge upwards
  pub record Meet (f v c legs : ℕ) (ks : List Key) : Type 0 where
    pub nodes : AllNodes (fusion r) ks
    pub field : f < r.scattering.theory.fields
    pub vertex : v < r.scattering.theory.vertices
    pub choice : c < r.scattering.theory.choices v
    pub counted : (length ks ≡ 2) ⊎ (length ks ≡ 3)
    pub split : IsSplit (length ks) legs (sets_of ks)
    pub slots : same_numbers (r.scattering.theory.anti f ∷ fields_of ks) (r.scattering.theory.slots v) ≡ true

  -- three or four nodes that share out all legs enter a vertex
  pub record MeetAll (v c : ℕ) (ks : List Key) : Type 0 where
    pub nodes : AllNodes (fusion r) ks
    pub vertex : v < r.scattering.theory.vertices
    pub choice : c < r.scattering.theory.choices v
    pub counted : (length ks ≡ 3) ⊎ (length ks ≡ 4)
    pub split : IsSplit (length ks) (all_legs r.scattering.size) (sets_of ks)
    pub slots : same_numbers (fields_of ks) (r.scattering.theory.slots v) ≡ true

-- where nodes meet, their partial flows can be joined at the slot that they leave
abbrev pub NodesJoin : Type 0
NodesJoin =
    (r : Reaction) (kinds : Kinds) → IsReaction r kinds → (f v c legs : ℕ) (ks : List Key) → Meet r f v c legs ks
    → let slots = fused_slots r f v legs ks in CanJoin (slot_partials slots) (r.choice v c) (hole_of slots)

-- where they meet at a keystone, or at any vertex, their partial flows can be closed
abbrev pub NodesClose : Type 0
NodesClose = (r : Reaction) (kinds : Kinds) → IsReaction r kinds → (v c : ℕ) (ks : List Key) → MeetAll r v c ks → Fits (slot_partials (closed_slots r v ks)) (r.choice v c) no_hole
