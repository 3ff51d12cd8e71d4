-- The walk over nodes and terms writes the code of the graph.
use Rattle.std.proofs.Common.{◌≡◌, ℕ, suc, ◌<◌, ◌≤◌, List, [], ◌∷◌, ◌++◌, map, Bool, true, false, cond, eqb, refl, sym, ◌∙◌, ap, ap₂, subst, arith}
use Rattle.std.specs.List.{filter}
use Rattle.std.proofs.lemmas.Bool.{ne_eqb, eqb-true, eqb-false}
use Rattle.om_legs.specs.Legs.{least}
use Rattle.om_graph.specs.declared.Key.{Key}
use Rattle.om_graph.specs.declared.Term.{Term}
use Rattle.om_code.specs.Ops.{load, prop}
use Rattle.om_keystone.specs.Built.{is_inner, terms_at, AreInOrder, LegsHaveNone}
use Rattle.om_emit.specs.GraphCode.{fuse_op, node_ops, nodes_ops}
use Rattle.om_emit.specs.GraphWalk.{front, behind, step_ops, step_rest, walk_ops}

-- later terms are of later nodes
none_at : (k j : ℕ) (ts : List Term) → AreInOrder j ts → k < j → terms_at ts k ≡ []
unfolding terms_at
none_at k j [] o l = refl
none_at k j (t ∷ ts) o l = ap (λ b. cond b (t ∷ filter (λ t. eqb t.node k) ts) (filter (λ t. eqb t.node k) ts)) (ne_eqb t.node k (let a = o.0 in λ (e : t.node ≡ k). omega arith)) ∙ none_at k t.node ts o.1 (let a = o.0 in omega arith)

front-is : (k : ℕ) (ts : List Term) → AreInOrder k ts → front k ts ≡ terms_at ts k
unfolding front terms_at
front-is k [] o = refl
front-is k (t ∷ ts) o = by (eqb t.node k) refl (λ e. front-is k ts (let P : ℕ → Type 0 = λ j. AreInOrder j ts in subst P e o.1)) (λ n. none_at k t.node ts o.1 (let a = o.0 in omega (arith, n)))
  where
    by : (b : Bool) → eqb t.node k ≡ b → (t.node ≡ k → front k ts ≡ filter (λ t. eqb t.node k) ts) → ((t.node ≡ k → ⊥) → filter (λ t. eqb t.node k) ts ≡ []) → cond b (t ∷ front k ts) [] ≡ cond b (t ∷ filter (λ t. eqb t.node k) ts) (filter (λ t. eqb t.node k) ts)
    by true e f g = ap (λ xs. t ∷ xs) (f (eqb-true t.node k e))
    by false e f g = sym (g (eqb-false t.node k e))

behind-ordered : (k : ℕ) (ts : List Term) → AreInOrder k ts → AreInOrder (suc k) (behind k ts)
unfolding behind
behind-ordered k [] o = tt
behind-ordered k (t ∷ ts) o = by (eqb t.node k) refl (λ e. behind-ordered k ts (let P : ℕ → Type 0 = λ j. AreInOrder j ts in subst P e o.1))
  where
    by : (b : Bool) → eqb t.node k ≡ b → (t.node ≡ k → AreInOrder (suc k) (behind k ts)) → AreInOrder (suc k) (cond b (behind k ts) (t ∷ ts))
    by true e f = f (eqb-true t.node k e)
    by false e f = (let a = o.0 in omega (arith, eqb-false t.node k e), o.1)

behind-keeps : (k j : ℕ) (ts : List Term) → suc k ≤ j → terms_at ts j ≡ terms_at (behind k ts) j
unfolding behind terms_at
behind-keeps k j [] l = refl
behind-keeps k j (t ∷ ts) l = by (eqb t.node k) refl (behind-keeps k j ts l)
  where
    by : (b : Bool) → eqb t.node k ≡ b → filter (λ t. eqb t.node j) ts ≡ filter (λ t. eqb t.node j) (behind k ts) → cond (eqb t.node j) (t ∷ filter (λ t. eqb t.node j) ts) (filter (λ t. eqb t.node j) ts) ≡ filter (λ t. eqb t.node j) (cond b (behind k ts) (t ∷ ts))
    by true e f = ap (λ c. cond c (t ∷ filter (λ t. eqb t.node j) ts) (filter (λ t. eqb t.node j) ts)) (ne_eqb t.node j (let q : t.node ≡ k = eqb-true t.node k e in λ (s : t.node ≡ j). omega arith)) ∙ f
    by false e f = refl

-- a node without terms
passed : (k : ℕ) (ts : List Term) → AreInOrder k ts → terms_at ts k ≡ [] → AreInOrder (suc k) ts
unfolding terms_at
passed k [] o e = tt
passed k (t ∷ ts) o e = by (eqb t.node k) refl e
  where
    by : (b : Bool) → eqb t.node k ≡ b → cond b (t ∷ filter (λ t. eqb t.node k) ts) (filter (λ t. eqb t.node k) ts) ≡ [] → AreInOrder (suc k) (t ∷ ts)
    by true q h = absurd (cc)
    by false q h = (let a = o.0 in omega (arith, eqb-false t.node k q), o.1)

module _ (den : Key → ℕ) (terms : List Term) where
  pub walk-is : (k : ℕ) (nodes : List Key) (ts : List Term) → AreInOrder k ts → LegsHaveNone terms k nodes → ((j : ℕ) → k ≤ j → terms_at terms j ≡ terms_at ts j) → walk_ops den k nodes ts ≡ nodes_ops den terms k nodes
  unfolding walk_ops nodes_ops step_ops step_rest node_ops
  walk-is k [] ts o n same = refl
  walk-is k (node ∷ nodes) ts o n same = by (is_inner node) refl
      (walk-is (suc k) nodes (behind k ts) (behind-ordered k ts o) n.1 (λ j l. same j (omega arith) ∙ behind-keeps k j ts l))
      (λ e. walk-is (suc k) nodes ts (passed k ts o (sym (same k (omega arith)) ∙ n.0 e)) n.1 (λ j l. same j (omega arith)))
    where
      by : (b : Bool) → is_inner node ≡ b → walk_ops den (suc k) nodes (behind k ts) ≡ nodes_ops den terms (suc k) nodes → (is_inner node ≡ false → walk_ops den (suc k) nodes ts ≡ nodes_ops den terms (suc k) nodes)
          → cond b (map fuse_op (front k ts) ++ prop k (den node) ∷ []) (load k (least node.legs) ∷ []) ++ walk_ops den (suc k) nodes (cond b (behind k ts) ts) ≡ cond b (map fuse_op (terms_at terms k) ++ prop k (den node) ∷ []) (load k (least node.legs) ∷ []) ++ nodes_ops den terms (suc k) nodes
      by true e f g = ap₂ (λ xs ys. (map fuse_op xs ++ prop k (den node) ∷ []) ++ ys) (front-is k ts o ∙ sym (same k (omega arith))) f
      by false e f g = ap (λ ys. load k (least node.legs) ∷ ys) (g e)
