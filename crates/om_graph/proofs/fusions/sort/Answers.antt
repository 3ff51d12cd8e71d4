use Rattle.std.proofs.Common.{◌+◌, ◌∙◌, slice_index_or, ap, sym, arith}
use Rattle.std.proofs.lemmas.List.Sorted.{All-permutation}
use Rattle.om_graph.specs.SetWalk.{IsOver}
use Rattle.om_graph.proofs.FoundOrder.{fused_before}
use Rattle.om_graph.proofs.fusions.sort.Goals as goal

pub returns-in-Ok-clause-sorted : goal.returns-in-Ok-clause-sorted
returns-in-Ok-clause-sorted c k d l m =
    let over = All-permutation (IsOver c.requires.0 c.requires.1) c.args.found.now.items c.sort.new.self.items c.in-Ok.ensures.permutation c.requires.2 in
    let a = over (k + 1) d m in
    let b = over k d (omega (arith, m)) in
    fused_before (slice_index_or c.sort.new.self.items (k + 1) d) (slice_index_or c.sort.new.self.items k d) (a.legs ∙ sym b.legs) (a.ends ∙ sym b.ends) (λ e. a.counted ∙ ap c.requires.1 e ∙ sym b.counted) (c.in-Ok.ensures.sorted k d l m)
