use Rattle.std.proofs.Common.{◌≡◌, ◌∙◌, ◌++◌, map, take, drop, length, replicate, false, ap, sym, arith}
use Rattle.std.proofs.lemmas.Grind.{common_steps}
use Rattle.std.proofs.Math.Seq.{take-append_seam}
use Rattle.om_keystone.specs.Pruning.{mark_keys}
use Rattle.om_graph.specs.Possible.{unsigned_key}
use Rattle.om_keystone.proofs.Steps.{marks_are}
use Rattle.om_keystone.proofs.marking.marks_of.Goals as goal

pub returns : goal.returns
returns c =
    let e : c.in-Ok.marks.items ≡ replicate c.args.count false = grind (arith, common_steps, c.in-Ok.ensures.items_if_clones_equal) in
    let now : c.mark_keys.new.marks ≡ mark_keys (replicate c.args.count false) (map unsigned_key c.args.keys.now) =
    c.mark_keys.ensures.marks ∙ ap (λ m. mark_keys m (map unsigned_key c.args.keys.now)) (c.as_mut_slice-marked.ensures.value ∙ e) in
    let size = c.mark_terms.ensures.length ∙ c.mark_keys.ensures.length ∙ c.as_mut_slice-marked.ensures.len in
    let rest = drop (length c.mark_terms.new.marks) c.in-Ok.marks.items in
    let back = ap (λ n. take n (c.mark_terms.new.marks ++ rest)) (sym size) ∙ take-append_seam c.mark_terms.new.marks rest in
    record { marks = back ∙ marks_are c.args.count c.in-Ok.marks.items c.mark_keys.new.marks c.mark_terms.new.marks c.args.terms.now c.args.keys.now e now c.mark_terms.ensures.marks }
