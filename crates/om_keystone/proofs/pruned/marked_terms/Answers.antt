use Rattle.std.proofs.Common.{◌≡◌, ◌+◌, ◌∷◌, ◌++◌, [], map, drop, true, false, rules, arith, refl, ap, ap₂, sym, ◌∙◌}
use Rattle.om_graph.specs.Graph.{Numbered}
use Rattle.om_graph.specs.declared.Term.{Term}
use Rattle.om_keystone.specs.Pruning.{is_marked, renumbered, kept_terms, kept_signs}
use Rattle.om_graph.specs.Possible.{unsigned}
use Rattle.om_keystone.proofs.Steps.{terms_more, terms_same, terms_end, signs_more, signs_same, signs_end}
use Rattle.om_keystone.proofs.pruned.marked_terms.Goals.{then-has_mark+in_ok-push, else-has_mark}
use Rattle.om_keystone.proofs.pruned.marked_terms.Goals as goal

pub loop-term-preserved : goal.loop-term-preserved
loop-term-preserved c = elim c.if-has_mark.branch [
  | then-has_mark+in_ok-push w ↦
      let x : Term = c.term-item.result in
      let y : Term = record { node = w.new_number.result; minus = x.minus; vertex = x.vertex; choice = x.choice; branches = w.renumbered.result } in
      let pushed : c.if-has_mark.kept ≡ c.loop-term.kept ++ y ∷ [] = grind (arith, rules) in
      let marked : is_marked c.args.marks.now x.node ≡ true = search rules in
      let same : unsigned y ≡ renumbered c.args.numbers.now (unsigned x) =
      ap₂ (λ m ns. let z : Numbered = record { made = m; vertex = x.vertex; choice = x.choice; branches = ns } in z) w.new_number.ensures w.renumbered.ensures in
      record {
        terms = terms_more (kept_terms c.args.marks.now c.args.numbers.now (map unsigned c.args.terms.now)) c.loop-term.kept c.if-has_mark.kept c.args.marks.now c.args.numbers.now c.args.terms.now x y c.loop-term.term-index (omega arith) c.term-item.is marked same c.loop-term.invariant.terms pushed;
        signs = signs_more (kept_signs c.args.marks.now c.args.terms.now) c.loop-term.kept c.if-has_mark.kept c.args.marks.now c.args.terms.now x y c.loop-term.term-index (omega arith) c.term-item.is marked refl c.loop-term.invariant.signs pushed;
      }
  | else-has_mark w ↦
      let x : Term = c.term-item.result in
      let same : c.if-has_mark.kept ≡ c.loop-term.kept = grind (arith, rules) in
      let unmarked : is_marked c.args.marks.now x.node ≡ false = search rules in
      record {
        terms = terms_same (kept_terms c.args.marks.now c.args.numbers.now (map unsigned c.args.terms.now)) c.loop-term.kept c.args.marks.now c.args.numbers.now c.args.terms.now x c.loop-term.term-index (omega arith) c.term-item.is unmarked c.loop-term.invariant.terms
            ∙ ap (λ us. map unsigned us ++ kept_terms c.args.marks.now c.args.numbers.now (map unsigned (drop (c.loop-term.term-index + 1) c.args.terms.now))) (sym same);
        signs = signs_same (kept_signs c.args.marks.now c.args.terms.now) c.loop-term.kept c.args.marks.now c.args.terms.now x c.loop-term.term-index (omega arith) c.term-item.is unmarked c.loop-term.invariant.signs
            ∙ ap (λ us. map (λ (z : Term). z.minus) us ++ kept_signs c.args.marks.now (drop (c.loop-term.term-index + 1) c.args.terms.now)) (sym same);
      }
]

pub returns-clause-terms : goal.returns-clause-terms
returns-clause-terms c = terms_end (kept_terms c.args.marks.now c.args.numbers.now (map unsigned c.args.terms.now)) c.loop-term.kept c.args.marks.now c.args.numbers.now c.args.terms.now c.loop-term.term-index (omega arith) c.loop-term.invariant.terms

pub returns-clause-signs : goal.returns-clause-signs
returns-clause-signs c = signs_end (kept_signs c.args.marks.now c.args.terms.now) c.loop-term.kept c.args.marks.now c.args.terms.now c.loop-term.term-index (omega arith) c.loop-term.invariant.signs
