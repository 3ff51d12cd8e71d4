-- The loop over the nodes of a graph.
use Rattle.std.proofs.Common.{◌≡◌, ℕ, zero, suc, ◌+◌, ◌<◌, ◌≤◌, List, [], ◌∷◌, ◌++◌, length, map, drop, get_or, sym, ◌∙◌, ap, ap₂, arith, add-one, append_assoc, append-nil}
use Rattle.std.proofs.Math.Seq.{drop-cons}
use Rattle.std.proofs.lemmas.List.{drop_all}
use Rattle.om_graph.specs.declared.Key.{Key}
use Rattle.om_graph.specs.declared.Term.{Term}
use Rattle.om_code.specs.declared.code.Instr.{Instr}
use Rattle.om_code.specs.Ops.{Op, op_of}
use Rattle.om_emit.specs.GraphWalk.{step_ops, step_rest, walk_ops}

drop_more : (xs : List Term) (m n : ℕ) → drop n (drop m xs) ≡ drop (m + n) xs
drop_more xs zero n = ap (λ k. drop k xs) (let e : n ≡ 0 + n = omega arith in e)
drop_more [] (suc m) n = drop_all n [] (omega arith) ∙ sym (drop_all (suc m + n) [] (omega arith))
drop_more (x ∷ xs) (suc m) n = drop_more xs m n ∙ ap (λ k. drop k (x ∷ xs)) (let e : suc (m + n) ≡ suc m + n = omega arith in e)

module _ (den : Key → ℕ) (nodes : List Key) (terms : List Term) where
  -- one node more
  pub node_more : (k next count : ℕ) (node : Key) (left : List Term) (old new : List Instr) (all : List Op) → k < length nodes → node ≡ get_or nodes k node → left ≡ drop next terms
      → map op_of new ≡ map op_of old ++ step_ops den k node left → drop count left ≡ step_rest k node left
      → map op_of old ++ walk_ops den k (drop k nodes) (drop next terms) ≡ all → map op_of new ++ walk_ops den (k + 1) (drop (k + 1) nodes) (drop (next + count) terms) ≡ all
  unfolding walk_ops
  node_more k next count node left old new all l at s f g h =
      let rest : drop (next + count) terms ≡ step_rest k node left = sym (drop_more terms next count) ∙ ap (drop count) (sym s) ∙ g in
      let here : drop k nodes ≡ node ∷ drop (k + 1) nodes = drop-cons nodes k node l ∙ ap₂ (λ x j. x ∷ drop j nodes) (sym at) (sym (add-one k)) in
      ap (λ xs. xs ++ walk_ops den (k + 1) (drop (k + 1) nodes) (drop (next + count) terms)) f
      ∙ append_assoc (map op_of old) (step_ops den k node left) (walk_ops den (k + 1) (drop (k + 1) nodes) (drop (next + count) terms))
      ∙ ap₂ (λ j ts. map op_of old ++ (step_ops den k node left ++ walk_ops den j (drop (k + 1) nodes) ts)) (add-one k) rest
      ∙ ap₂ (λ ns ts. map op_of old ++ walk_ops den k ns ts) (sym here) s
      ∙ h

  -- no node is left
  pub nodes_end : (k : ℕ) (left : List Term) (old : List Instr) (all : List Op) → length nodes ≤ k → map op_of old ++ walk_ops den k (drop k nodes) left ≡ all → map op_of old ≡ all
  unfolding walk_ops
  nodes_end k left old all l h = sym (append-nil (map op_of old)) ∙ ap (λ ns. map op_of old ++ walk_ops den k ns left) (sym (drop_all k nodes l)) ∙ h
