use Rattle.std.proofs.Common.{◌≡◌, ◌∙◌, ◌++◌, ◌∷◌, [], length, ap, refl, arith, rules}
use Rattle.std.proofs.lemmas.List.{length-map}
use Rattle.om_graph.specs.declared.closed_rows.Row.{Row}
use Rattle.om_graph.specs.ClosedRows.{row_closed}
use Rattle.om_graph.specs.Loops.{closed_seen}
use Rattle.om_graph.proofs.ClosedRows.{one_more, still_numbered}
use Rattle.om_graph.proofs.closed_rows.ClosedRows.push.Goals as goal

pub invariant_of-self-2 : goal.invariant_of-self-2
invariant_of-self-2 c =
    let row : Row = record { flow = c.in-Ok.flow; vertex = c.args.one.vertex; choice = c.args.one.choice; branches = c.args.one.branches; minus = c.args.one.minus } in
    still_numbered c.self.inside.flows c.add_near.new.flows c.self.inside.rows.items c.push_reserved.new.self.items row c.args.one c.self.invariant c.in-Ok.ensures.flows
    (c.push_reserved.ensures.items ∙ ap (λ l. l ++ row ∷ []) c.reserve.ensures.items) c.in-Ok.ensures.number refl refl refl refl

pub returns-clause-added : goal.returns-clause-added
returns-clause-added c =
    let row : Row = record { flow = c.in-Ok.flow; vertex = c.args.one.vertex; choice = c.args.one.choice; branches = c.args.one.branches; minus = c.args.one.minus } in
    let items = c.push_reserved.ensures.items ∙ ap (λ l. l ++ row ∷ []) c.reserve.ensures.items in
    let e = one_more c.self.inside.flows c.add_near.new.flows c.self.inside.rows.items c.push_reserved.new.self.items row c.args.one c.self.invariant c.in-Ok.ensures.flows items c.in-Ok.ensures.number refl refl refl refl in
    let len : c.len.result ≡ length c.self.inside.rows.items = search rules in
    let a = length-map c.push_reserved.new.self.items (row_closed c.add_near.new.flows) in
    let b = ap length items in
    let d = Rattle.std.proofs.lemmas.List.length-append c.self.inside.rows.items (row ∷ []) in
    (e ∙ ap (λ l. l ++ closed_seen c.args.one ∷ []) c.self.view_is, λ h. omega (arith, a, b, d, len, c.if-len-limit.false))
