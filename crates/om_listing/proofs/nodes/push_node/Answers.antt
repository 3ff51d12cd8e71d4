use Rattle.std.proofs.Common.{◌+◌, decimal}
use Rattle.om_colour.specs.Texts.{partial_bytes}
use Rattle.om_model.specs.FieldNames.{field_name}
use Rattle.om_model.specs.LegSetText.{leg_set_word}
use Rattle.om_listing.proofs.Joining.{node_joined}
use Rattle.om_listing.proofs.nodes.push_node.Goals as goal

pub returns : goal.returns
returns c =
    let key = c.args.key.now in
    let e = node_joined c.args.line.now (decimal (c.args.number + 1)) (leg_set_word key.legs) (field_name c.args.particles.now key.field) (partial_bytes key.partial) in
    cc
