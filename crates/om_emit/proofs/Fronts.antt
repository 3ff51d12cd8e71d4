-- The terms of a node at the front of the terms that are left.
use Rattle.std.proofs.Common.{◌≡◌, ℕ, ◌+◌, ◌<◌, ◌≤◌, List, [], ◌∷◌, ◌++◌, length, map, drop, get_or, cond, sym, ◌∙◌, ap, ap₂, arith, add-one, append_assoc, append-nil, eq-eqb}
use Rattle.std.proofs.Math.Seq.{drop-cons}
use Rattle.std.proofs.lemmas.Bool.{ne_eqb}
use Rattle.std.proofs.lemmas.List.{map-append, drop_all}
use Rattle.om_graph.specs.declared.Term.{Term}
use Rattle.om_code.specs.declared.code.Instr.{Instr}
use Rattle.om_code.specs.Ops.{Op, op_of}
use Rattle.om_emit.specs.GraphCode.{fuse_op}
use Rattle.om_emit.specs.GraphWalk.{front, behind}

module _ (k : ℕ) (terms : List Term) (i : ℕ) (t : Term) (l : i < length terms) (at : t ≡ get_or terms i t) where
  here : drop i terms ≡ t ∷ drop (i + 1) terms
  here = drop-cons terms i t l ∙ ap₂ (λ x j. x ∷ drop j terms) (sym at) (sym (add-one i))

  front_stops : (t.node ≡ k → ⊥) → front k (drop i terms) ≡ []
  unfolding front
  front_stops n = ap (front k) here ∙ ap (λ b. cond b (t ∷ front k (drop (i + 1) terms)) []) (ne_eqb t.node k n)

  behind_stops : (t.node ≡ k → ⊥) → behind k (drop i terms) ≡ drop i terms
  unfolding behind
  behind_stops n = ap (behind k) here ∙ ap (λ b. cond b (behind k (drop (i + 1) terms)) (t ∷ drop (i + 1) terms)) (ne_eqb t.node k n) ∙ sym here

  front_more : t.node ≡ k → front k (drop i terms) ≡ t ∷ front k (drop (i + 1) terms)
  unfolding front
  front_more e = ap (front k) here ∙ ap (λ b. cond b (t ∷ front k (drop (i + 1) terms)) []) (eq-eqb t.node k e)

  behind_more : t.node ≡ k → behind k (drop i terms) ≡ behind k (drop (i + 1) terms)
  unfolding behind
  behind_more e = ap (behind k) here ∙ ap (λ b. cond b (behind k (drop (i + 1) terms)) (t ∷ drop (i + 1) terms)) (eq-eqb t.node k e)

  -- a term of another node
  pub ops_stop : (a b : List Op) → (t.node ≡ k → ⊥) → a ++ map fuse_op (front k (drop i terms)) ≡ b → a ≡ b
  ops_stop a b n h = sym (append-nil a) ∙ ap (λ ts. a ++ map fuse_op ts) (sym (front_stops n)) ∙ h

  pub rest_stops : (t.node ≡ k → ⊥) → behind k (drop i terms) ≡ behind k terms → drop i terms ≡ behind k terms
  rest_stops n h = sym (behind_stops n) ∙ h

  -- one of this node
  pub ops_more : (old new : List Instr) (x : Instr) (b : List Op) → t.node ≡ k → new ≡ old ++ x ∷ [] → op_of x ≡ fuse_op t → map op_of old ++ map fuse_op (front k (drop i terms)) ≡ b → map op_of new ++ map fuse_op (front k (drop (i + 1) terms)) ≡ b
  ops_more old new x b e p q h =
      let rest = map fuse_op (front k (drop (i + 1) terms)) in
      ap (λ xs. map op_of xs ++ rest) p ∙ ap (λ xs. xs ++ rest) (map-append op_of old (x ∷ [])) ∙ append_assoc (map op_of old) (op_of x ∷ []) rest
      ∙ ap (λ y. map op_of old ++ (y ∷ rest)) q ∙ ap (λ ts. map op_of old ++ map fuse_op ts) (sym (front_more e)) ∙ h

  pub rest_more : t.node ≡ k → behind k (drop i terms) ≡ behind k terms → behind k (drop (i + 1) terms) ≡ behind k terms
  rest_more e h = sym (behind_more e) ∙ h

-- no term is left
module _ (k : ℕ) (terms : List Term) (i : ℕ) (l : length terms ≤ i) where
  none_left : drop i terms ≡ []
  none_left = drop_all i terms l

  pub ops_end : (a b : List Op) → a ++ map fuse_op (front k (drop i terms)) ≡ b → a ≡ b
  unfolding front
  ops_end a b h = sym (append-nil a) ∙ ap (λ ts. a ++ map fuse_op (front k ts)) (sym none_left) ∙ h

  pub rest_end : behind k (drop i terms) ≡ behind k terms → drop (length terms) terms ≡ behind k terms
  unfolding behind
  rest_end h = drop_all (length terms) terms (omega arith) ∙ ap (behind k) (sym none_left) ∙ h
