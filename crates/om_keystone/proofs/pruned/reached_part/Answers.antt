use Rattle.std.proofs.Common.{◌≡◌, ◌∙◌, ℕ, List, Bool, true, ap, ap₂, sym, subst, length, map}
use Rattle.std.specs.List.{list_all}
use Rattle.om_graph.specs.declared.Graph.{Graph}
use Rattle.om_graph.specs.declared.KeyTerm.{KeyTerm}
use Rattle.om_graph.specs.declared.Term.{Term}
use Rattle.om_graph.specs.Possible.{unsigned, unsigned_key}
use Rattle.om_legs.specs.BranchNodes.{nodes_of}
use Rattle.om_keystone.specs.Pruning.{marks_of, IsMarkedPart}
use Rattle.om_keystone.proofs.Steps.{length-marks_of}
use Rattle.om_keystone.proofs.Whole.{all_below, whole_is_part}
use Rattle.om_keystone.proofs.pruned.reached_part.Goals as goal

-- the marks of a graph, by what was read of it
these : (g : Graph) (marks : List Bool) (n : ℕ) (terms : List Term) (keys : List KeyTerm) → marks ≡ marks_of n (map unsigned terms) (map unsigned_key keys) → n ≡ length g.nodes → terms ≡ g.terms → keys ≡ g.keys
    → marks ≡ marks_of (length g.nodes) (map unsigned g.terms) (map unsigned_key g.keys)
these g marks n terms keys e f h k = e ∙ ap (λ m. marks_of m (map unsigned terms) (map unsigned_key keys)) f ∙ ap₂ (λ xs ys. marks_of (length g.nodes) (map unsigned xs) (map unsigned_key ys)) h k

pub marks_of-requires-clause-terms_within : goal.marks_of-requires-clause-terms_within
marks_of-requires-clause-terms_within c =
    let g = c.args.graph in
    all_below (λ (x : Term). nodes_of x.branches) (length g.nodes) c.len.result g.terms c.as_slice.result.now (λ x i. (c.requires.within.terms x i).1) c.len.ensures c.as_slice.ensures

pub marks_of-requires-clause-keys_within : goal.marks_of-requires-clause-keys_within
marks_of-requires-clause-keys_within c =
    let g = c.args.graph in
    all_below (λ (y : KeyTerm). nodes_of y.branches) (length g.nodes) c.len.result g.keys c.as_slice-2.result.now c.requires.within.keys c.len.ensures c.as_slice-2.ensures

pub returns-then-has_all_marks : goal.returns-then-has_all_marks
returns-then-has_all_marks c =
    let g = c.args.graph in
    let e = these g c.as_slice-3.result.now c.len.result c.as_slice.result.now c.as_slice-2.result.now (c.as_slice-3.ensures.value ∙ c.in_ok-marks.ensures.marks) c.len.ensures c.as_slice.ensures c.as_slice-2.ensures in
    let all : list_all (λ mark. mark) (marks_of (length g.nodes) (map unsigned g.terms) (map unsigned_key g.keys)) ≡ true = ap (list_all (λ mark. mark)) (sym e) ∙ sym c.has_all_marks.ensures ∙ c.if-has_all_marks.true in
    record { part = whole_is_part (marks_of (length g.nodes) (map unsigned g.terms) (map unsigned_key g.keys)) g all (length-marks_of (length g.nodes) (map unsigned g.terms) (map unsigned_key g.keys)) c.requires.within }

pub marked_part-requires : goal.marked_part-requires
marked_part-requires c =
    let g = c.args.graph in
    let e = these g c.as_slice-4.result.now c.len.result c.as_slice.result.now c.as_slice-2.result.now (c.as_slice-4.ensures.value ∙ c.in_ok-marks.ensures.marks) c.len.ensures c.as_slice.ensures c.as_slice-2.ensures in
    record { same_length = ap length e ∙ length-marks_of (length g.nodes) (map unsigned g.terms) (map unsigned_key g.keys) }

pub returns : goal.returns
returns c =
    let g = c.args.graph in
    let e = these g c.as_slice-4.result.now c.len.result c.as_slice.result.now c.as_slice-2.result.now (c.as_slice-4.ensures.value ∙ c.in_ok-marks.ensures.marks) c.len.ensures c.as_slice.ensures c.as_slice-2.ensures in
    record { part = subst (λ m. IsMarkedPart m g c.in_ok-part.part) e c.in_ok-part.ensures.part }
