use Rattle.std.proofs.Common.{arith, ap, sym, ◌∙◌, length, length-append, append-nil}
use Rattle.om_colour.proofs.Rows.{one_more}
use Rattle.om_colour.proofs.table.slots_of.Goals as goal
use Rattle.om_colour.proofs.table.slots_of.Goals.{then-is_colour, else-is_colour}

pub loop-k-preserved : goal.loop-k-preserved
loop-k-preserved c = record {
  found = one_more c.args.colour c.args.colours.now c.loop-k.k _ c.loop-k.slots _ _ c.loop-k-test.true c.loop-k.invariant.found c.is_colour.ensures
      (elim c.if-is_colour.branch [
        | then-is_colour w ↦ rw w.if-is_colour.true (w.slots-is ∙ w.push.ensures)
        | else-is_colour w ↦ rw w.if-is_colour.false (w.slots-is ∙ sym (append-nil _))
      ]);
  few =
      elim c.if-is_colour.branch [
        | then-is_colour w ↦ omega (arith, simp length-append at (ap length (w.slots-is ∙ w.push.ensures)))
        | else-is_colour w ↦ omega (arith, ap length w.slots-is)
      ];
}
