use Rattle.std.proofs.Common.{◌≡◌, ◌≢◌, Bool, true, false, true≢false, sym, ◌∙◌}
use Rattle.std.specs.Prelude.{IsTrue}
use Rattle.om_ring.specs.Ops.{laws_from}
use Rattle.om_machine.proofs.MassRows.{kept-vector}
use Rattle.om_machine.proofs.rows.kept_inverse.Goals as goal

pub returns-in_ok-inverse-in-Vector-clause-value : goal.returns-in_ok-inverse-in-Vector-clause-value
returns-in_ok-inverse-in-Vector-clause-value g c =
    let r = c.args.ring.now in
    let o = g.R.Ring.ops r in
    let l = laws_from (g.R.Ring.element r) o (g.met.R.Ring.known r) (g.met.R.Ring.laws r) in
    let other : c.args.mass ≢ o.zero = λ e. differs c.same.result c.if-not-same.true (c.same.ensures.1 (e ∙ sym c.zero.ensures)) in
    kept-vector o l c.args.spin c.args.mass c.in_ok-inverse-in-Vector.inverse c.in-Vector.is other (sym c.in_ok-inverse-in-Vector.ensures.value)
  where
    differs : (b : Bool) → b ≡ false → IsTrue b → ⊥
    differs true h i = true≢false h
    differs false h i = true≢false (sym i)
