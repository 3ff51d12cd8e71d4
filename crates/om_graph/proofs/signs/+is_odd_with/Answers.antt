use Rattle.std.proofs.Common.{ℕ, ◌-◌, take, drop, length, ap, ◌∙◌}
use Rattle.om_legs.specs.Crossings.{crossings, is_odd}
use Rattle.om_legs.specs.Legs.{legs_of, meeting}
use Rattle.om_graph.proofs.Choosing.{first_and_rest}
use Rattle.om_graph.proofs.Parity.{none_with, one_with}
use Rattle.om_graph.proofs.signs.+is_odd_with.Goals as goal

pub returns-in-empty : goal.returns-in-empty
returns-in-empty t c = none_with c.args.fermions c.args.legs c.args.slots.now c.in-empty.len_below

pub returns-in-len1-up : goal.returns-in-len1-up
returns-in-len1-up t c = one_with c.args.fermions c.args.legs c.args.slots.now c.slot-item.result (take (length c.args.slots.now - 1) (drop 1 c.args.slots.now)) _ _ (first_and_rest c.args.slots.now c.slot-item.result c.in-len1-up.len_at_least c.slot-item.is) (c.cross_parity.ensures ∙ ap (λ (n : ℕ). is_odd (crossings (legs_of (meeting c.args.legs c.args.fermions)) (legs_of (meeting n c.args.fermions)))) c.legs_of.ensures) c.is_odd_with.ensures
