use Rattle.std.proofs.Common.{arith, ap, sym, ◌∙◌, ◌++◌, length}
use Rattle.om_colour.specs.Texts.{with_commas}
use Rattle.om_colour.proofs.TextItems.{line_items-none, line_items-one, text_of_one, count_of_one}
use Rattle.om_colour.proofs.texts.push_lines.Goals as goal
use Rattle.om_colour.proofs.texts.push_lines.Goals.{then-end-ne0, else-end-ne0}

pub loop-k-preserved : goal.loop-k-preserved
loop-k-preserved c =
    let i = c.loop-k.invariant in
    let l = c.loop-k-test.true in
    elim c.if-end-ne0.branch [
      | then-end-ne0 w ↦
          let m = line_items-one c.args.extent c.args.ends.now c.loop-k.k (omega (arith, c.told-ends)) w.if-end-ne0.true in
          record {
            text = text_of_one _ _ _ _ _ _ c.loop-k.count m i.text i.count (w.to-is ∙ w.push_item.ensures.text);
            count = w.count-is ∙ count_of_one _ _ _ c.loop-k.count m i.count;
            few = omega (arith, w.count-is);
            short = omega (arith, ap length w.to-is, w.push_item.ensures.short);
          }
      | else-end-ne0 w ↦
          let m = line_items-none c.args.extent c.args.ends.now c.loop-k.k (omega (arith, c.told-ends)) w.if-end-ne0.false in
          record {
            text = w.to-is ∙ i.text ∙ ap (λ t. c.args.to.now ++ with_commas t) (sym m);
            count = w.count-is ∙ i.count ∙ ap length (sym m);
            few = omega (arith, w.count-is);
            short = omega (arith, ap length w.to-is);
          }
    ]
