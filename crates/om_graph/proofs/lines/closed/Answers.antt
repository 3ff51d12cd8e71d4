use Rattle.std.proofs.Common.{◌∙◌}
use Rattle.om_graph.specs.Words.{partials_behind}
use Rattle.om_graph.proofs.Words.{low_there, high_there, closed_is}
use Rattle.om_graph.proofs.lines.closed.Goals as goal

pub merged-low-requires : goal.merged-low-requires
merged-low-requires c = low_there c.args.slots.now (partials_behind c.args.parts.now c.args.keys.now) c.args.choice.now c.requires.fit c.requires.lines

pub merged-high-requires : goal.merged-high-requires
merged-high-requires c = high_there c.args.slots.now (partials_behind c.args.parts.now c.args.keys.now) c.args.choice.now c.requires.fit c.requires.lines

pub returns : goal.returns
returns c = c.flow_of.ensures ∙ closed_is c.args.slots.now (partials_behind c.args.parts.now c.args.keys.now) c.args.choice.now c.requires.fit c.requires.lines c.merged-low.result c.merged-high.result c.merged-low.ensures c.merged-high.ensures
