use Rattle.std.proofs.Common.{◌∙◌, ap, sym}
use Rattle.std.specs.Prelude.{Ok}
use Rattle.om_ring.specs.Ops.{laws_from, signed}
use Rattle.om_event.proofs.WrittenLines.{plain_value}
use Rattle.om_event.proofs.value.value_at.Goals as goal

pub returns-then-not-numeral-clause-value : goal.returns-then-not-numeral-clause-value
returns-then-not-numeral-clause-value g c =
    let r = c.args.ring.now in
    let x = c.args.numeral.now in
    let o = g.R.Ring.ops r in
    let l = laws_from (g.R.Ring.element r) o (g.met.R.Ring.known r) (g.met.R.Ring.laws r) in
    ap Ok (c.signed-value.ensures.value ∙ ap (signed o x.neg) c.number-size.ensures) ∙ sym (plain_value o l x c.if-numeral-eq1.true c.if-not-numeral.true)
