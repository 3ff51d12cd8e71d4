-- The name of the edge above a node, by the number of a set.
use Rattle.std.specs.Prelude.{◌≡◌, ℕ, if◌then◌else◌}
use Rattle.om_legs.specs.Legs.{holds, complement}
use Rattle.om_model.specs.Event.{members}
use Rattle.om_model.specs.Propagator.{EdgeName, set_number}
use Rattle.om_model.specs.Theory.{Scattering}
use Rattle.om_graph.specs.declared.Key.{Key}

-- the side without leg 1 of the edge above a node, and the field that leaves that side
abbrev pub side_without_leg_1 : Scattering → Key → ℕ
side_without_leg_1 s k = if holds k.legs 1 then complement k.legs s.size else k.legs

abbrev pub field_of_side : Scattering → Key → ℕ
field_of_side s k = if holds k.legs 1 then s.theory.anti k.field else k.field

-- an edge above a node has this name, by the number of that side
pub record IsNamed (s : Scattering) (k : Key) (name : EdgeName) : Type 0 where
  pub legs : name.legs ≡ members s.size (holds (side_without_leg_1 s k))
  pub number : set_number name.legs ≡ side_without_leg_1 s k
  pub field : name.field ≡ field_of_side s k
