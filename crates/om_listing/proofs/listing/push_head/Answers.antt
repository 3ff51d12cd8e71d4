use Rattle.std.proofs.Common.{decimal, length}
use Rattle.om_listing.proofs.Joining.{head_joined}
use Rattle.om_listing.proofs.listing.push_head.Goals as goal

pub returns : goal.returns
returns c =
    let g = c.args.graph.now in
    let e = head_joined c.args.line.now (decimal (length g.nodes)) (decimal (length g.terms)) (decimal (length g.keys)) (decimal (length g.flows)) in
    cc
