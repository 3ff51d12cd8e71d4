use Rattle.std.proofs.Common.{rules, ap, refl, ◌∙◌, ◌<◌, length}
use Rattle.std.proofs.lemmas.Option.{slice_get_read}
use Rattle.om_colour.specs.Table.{Row, choice_of}
use Rattle.om_graph.proofs.known_row.KnownRow.choice.Goals as goal

pub returns-then-k-len : goal.returns-then-k-len
returns-then-k-len c =
    let l : c.args.k < length c.self.inside.choices.items = search rules in
    c.self.invariant c.args.k c.index.result.now (slice_get_read c.self.inside.choices.items _ c.args.k c.index.result.now refl l c.index.ensures) ∙ ap (λ (r : Row). choice_of r c.args.k) c.self.view_is
