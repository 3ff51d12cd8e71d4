use Rattle.std.proofs.Common.{◌∷◌, ◌++◌, [], ap, sym, ◌∙◌, flat_map, append_assoc}
use Rattle.om_ring.specs.Numerals.{numeral_text}
use Rattle.om_program_text.specs.Words.{product_word}
use Rattle.om_io.specs.Writing.{outlet}
use Rattle.om_io.proofs.Outlets.{pushed, writes_both, writes_same}
use Rattle.om_program_text.proofs.Texts.{product_first}
use Rattle.om_program_text.proofs.model_lines.write_product.Goals as goal

pub returns : goal.returns
returns g c =
    let written = g.W.Sink.written c.make_room.new.to in
    let faults = g.W.Sink.faults c.make_room.new.to in
    let start = outlet (g.W.Sink.written c.args.to.now) (g.W.Sink.faults c.args.to.now) c.args.line.now in
    let x = c.in-Some.first.now in
    let xs = c.in-Some.later.now in
    let grown = c.show_numeral.ensures.value ∙ ap (λ t. t ++ numeral_text x) c.push.ensures ∙ append_assoc c.make_room.new.line (32 ∷ []) (numeral_text x) in
    let front = pushed start written faults c.make_room.new.line c.show_numeral.new.to (32 ∷ numeral_text x) [] c.in_ok-make_room.ensures.written grown in
    let both = writes_both start (outlet written faults c.show_numeral.new.to) _ (32 ∷ numeral_text x) (flat_map (λ y. 42 ∷ numeral_text y) xs) c.write_each.result front c.write_each.ensures in
    let same = ap (λ t. 32 ∷ t) (sym (product_first x xs) ∙ ap product_word (sym c.in-Some.ensures.cases.0 ∙ c.as_slice.ensures)) in
    writes_same start _ (32 ∷ (numeral_text x ++ flat_map (λ y. 42 ∷ numeral_text y) xs)) (32 ∷ product_word c.args.product.now) c.write_each.result same both
