use Rattle.std.proofs.Common.{◌≡◌, ◌+◌, ◌-◌, drop, map, refl, ap, sym, ◌∙◌, arith, rules, List}
use Rattle.om_graph.specs.declared.Term.{Term}
use Rattle.om_keystone.specs.Pruning.{mark_terms}
use Rattle.om_graph.specs.Possible.{unsigned}
use Rattle.std.proofs.Math.Seq.{drop-length}
use Rattle.om_keystone.proofs.Steps.{mark_terms_more, mark_terms_same}
use Rattle.om_keystone.proofs.marking.mark_terms.Goals as goal

pub loop-i-init : goal.loop-i-init
unfolding mark_terms
loop-i-init c = record { marks = ap (λ (xs : List Term). mark_terms c.args.marks.now (map unsigned xs)) (sym (drop-length c.args.terms.now)); length = refl }

pub loop-i-preserved-then-has_mark : goal.loop-i-preserved-then-has_mark
loop-i-preserved-then-has_mark c =
    let k : c.loop-i.i ≡ (c.loop-i.i - 1) + 1 = omega arith in
    let here : c.loop-i.marks ≡ mark_terms c.args.marks.now (map unsigned (drop ((c.loop-i.i - 1) + 1) c.args.terms.now)) =
    c.loop-i.invariant.marks ∙ ap (λ n. mark_terms c.args.marks.now (map unsigned (drop n c.args.terms.now))) k in
    record {
      marks = mark_terms_more c.args.marks.now c.loop-i.marks c.mark.new.marks c.args.terms.now c.index-terms-i.result (c.loop-i.i - 1) (omega arith) c.index-terms-i.is here (search rules) c.mark.ensures.marks;
      length = c.mark.ensures.length ∙ c.loop-i.invariant.length;
    }

pub loop-i-preserved : goal.loop-i-preserved
loop-i-preserved c =
    let k : c.loop-i.i ≡ (c.loop-i.i - 1) + 1 = omega arith in
    let here : c.loop-i.marks ≡ mark_terms c.args.marks.now (map unsigned (drop ((c.loop-i.i - 1) + 1) c.args.terms.now)) =
    c.loop-i.invariant.marks ∙ ap (λ n. mark_terms c.args.marks.now (map unsigned (drop n c.args.terms.now))) k in
    record {
      marks = mark_terms_same c.args.marks.now c.loop-i.marks c.args.terms.now c.index-terms-i.result (c.loop-i.i - 1) (omega arith) c.index-terms-i.is here (search rules);
      length = c.loop-i.invariant.length;
    }
