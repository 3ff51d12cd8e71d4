use Rattle.std.proofs.Common.{ℕ, ◌-◌, take, drop, length, ap, ◌∙◌}
use Rattle.om_legs.specs.Crossings.{is_odd}
use Rattle.om_graph.specs.Vertices.{crossings_with}
use Rattle.om_graph.proofs.Choosing.{first_and_rest}
use Rattle.om_graph.proofs.Parity.{none_among, one_among}
use Rattle.om_graph.proofs.signs.+is_odd_among.Goals as goal

pub returns-in-empty : goal.returns-in-empty
returns-in-empty t c = none_among c.args.fermions c.args.slots.now c.in-empty.len_below

pub returns-in-len1-up : goal.returns-in-len1-up
returns-in-len1-up t c = one_among c.args.fermions c.args.slots.now c.first-item.result (take (length c.args.slots.now - 1) (drop 1 c.args.slots.now)) _ _ (first_and_rest c.args.slots.now c.first-item.result c.in-len1-up.len_at_least c.first-item.is) (c.is_odd_with.ensures ∙ ap (λ (n : ℕ). is_odd (crossings_with c.args.fermions n (take (length c.args.slots.now - 1) (drop 1 c.args.slots.now)))) c.legs_of.ensures) c.is_odd_among.ensures
