use Rattle.std.proofs.Common.{◌≡◌, ◌++◌, drop, map}
use Rattle.om_graph.specs.declared.Term.{Term}
use Rattle.om_keystone.specs.Pruning.{kept_terms, kept_signs}
use Rattle.om_graph.specs.Possible.{unsigned}
use Rattle.om_keystone.proofs.pruned.marked_terms.Given as goal

abbrev pub invariant-loop-term : goal.invariant-loop-term
invariant-loop-term l = record {
  terms : kept_terms l.marks l.numbers (map unsigned l.terms) ≡ map unsigned l.kept ++ kept_terms l.marks l.numbers (map unsigned (drop l.term-index l.terms));
  signs : kept_signs l.marks l.terms ≡ map (λ (x : Term). x.minus) l.kept ++ kept_signs l.marks (drop l.term-index l.terms);
}
