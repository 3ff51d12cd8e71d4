-- The code of a graph names only numbers of its nodes.
use Rattle.std.proofs.Common.{◌≡◌, ℕ, suc, ◌+◌, ◌<◌, ◌≤◌, List, [], ◌∷◌, ◌++◌, inl, inr, ⊎_elim, length, map, Bool, true, false, cond, eqb, refl, ap, ap₂, sym, subst, arith}
use Rattle.std.specs.List.{AllByRecursion, filter, concat}
use Rattle.std.proofs.lemmas.Bool.{cases_eq, eqb-true}
use Rattle.om_legs.specs.Legs.{least}
use Rattle.om_ring.specs.Members.{In}
use Rattle.om_model.specs.declared.model.Model.{Model}
use Rattle.om_graph.specs.declared.Key.{Key}
use Rattle.om_graph.specs.declared.Term.{Term}
use Rattle.om_graph.specs.declared.KeyTerm.{KeyTerm}
use Rattle.om_graph.specs.declared.Graph.{Graph}
use Rattle.om_code.specs.declared.code.Instr.{Instr}
use Rattle.om_code.specs.declared.code.Instr.TheVariants.{Load, Fuse, Prop, Key as KeyOf}
use Rattle.om_code.specs.Spans.{is_named}
use Rattle.om_legs.specs.BranchNodes.{nodes_of}
use Rattle.om_code.specs.Ops.{registers_of, lines_of_code, Op, load, fuse, prop, key, op_of, named_in, placed_op}
use Rattle.om_keystone.specs.Built.{is_inner, terms_at, IsBelow, NodesAreBuilt, IsBuilt}
use Rattle.om_emit.specs.GraphCode.{fuse_op, key_op, node_ops, nodes_ops, den_place, register_ops}
use Rattle.om_ring.proofs.Members.{member_from_in, in_either, in_left, in_right}

-- each register that is named is below a number
abbrev pub AllBelow : ℕ → List Op → Type 0
AllBelow n ops = AllByRecursion (λ x. AllByRecursion (λ r. r < n) (named_in x)) ops

all_weaker : (m n : ℕ) (rs : List ℕ) → m ≤ n → AllByRecursion (λ r. r < m) rs → AllByRecursion (λ r. r < n) rs
all_weaker m n [] l h = tt
all_weaker m n (r ∷ rs) l h = (let a = h.0 in omega arith, all_weaker m n rs l h.1)

pub below_weaker : (m n : ℕ) (ops : List Op) → m ≤ n → AllBelow m ops → AllBelow n ops
below_weaker m n [] l h = tt
below_weaker m n (x ∷ xs) l h = (all_weaker m n (named_in x) l h.0, below_weaker m n xs l h.1)

below_append : (n : ℕ) (xs ys : List Op) → AllBelow n xs → AllBelow n ys → AllBelow n (xs ++ ys)
below_append n [] ys h g = g
below_append n (x ∷ xs) ys h g = (h.0, below_append n xs ys h.1 g)

in_all : (n r : ℕ) (rs : List ℕ) → AllByRecursion (λ r. r < n) rs → In r rs → r < n
in_all n r [] h i = absurd i
in_all n r (q ∷ rs) h (inl e) = let a = h.0 in omega arith
in_all n r (q ∷ rs) h (inr i) = in_all n r rs h.1 i

pub below_named : (n r : ℕ) (ops : List Op) → AllBelow n ops → In r (concat (map named_in ops)) → r < n
below_named n r [] h i = absurd i
below_named n r (x ∷ xs) h i = ⊎_elim (λ j. in_all n r (named_in x) h.0 j) (λ j. below_named n r xs h.1 j) (in_either r (named_in x) (concat (map named_in xs)) i)

terms_below : (k : ℕ) (ts : List Term) → AllByRecursion (IsBelow k) (terms_at ts k) → AllBelow (suc k) (map fuse_op (terms_at ts k))
unfolding terms_at
terms_below k [] h = tt
terms_below k (t ∷ ts) h = by (eqb t.node k) refl (terms_below k ts) h
  where
    by : (b : Bool) → eqb t.node k ≡ b → (AllByRecursion (IsBelow k) (filter (λ t. eqb t.node k) ts) → AllBelow (suc k) (map fuse_op (filter (λ t. eqb t.node k) ts)))
        → AllByRecursion (IsBelow k) (cond b (t ∷ filter (λ t. eqb t.node k) ts) (filter (λ t. eqb t.node k) ts)) → AllBelow (suc k) (map fuse_op (cond b (t ∷ filter (λ t. eqb t.node k) ts) (filter (λ t. eqb t.node k) ts)))
    by true e ih h = ((let q : t.node ≡ k = eqb-true t.node k e in omega arith, all_weaker k (suc k) (nodes_of t.branches) (omega arith) h.0), ih h.1)
    by false e ih h = ih h

module _ (den : Key → ℕ) (terms : List Term) where
  node_below : (k : ℕ) (node : Key) → (is_inner node ≡ true → (0 < length (terms_at terms k)) × AllByRecursion (IsBelow k) (terms_at terms k)) → AllBelow (suc k) (node_ops den terms k node)
  unfolding node_ops
  node_below k node h = by (is_inner node) h
    where
      by : (b : Bool) → (b ≡ true → (0 < length (terms_at terms k)) × AllByRecursion (IsBelow k) (terms_at terms k)) → AllBelow (suc k) (cond b (map fuse_op (terms_at terms k) ++ prop k (den node) ∷ []) (load k (least node.legs) ∷ []))
      by true h = below_append (suc k) (map fuse_op (terms_at terms k)) (prop k (den node) ∷ []) (terms_below k terms (h refl).1) ((omega arith, tt), tt)
      by false h = ((omega arith, tt), tt)

  pub nodes_below : (k : ℕ) (nodes : List Key) → NodesAreBuilt terms k nodes → AllBelow (k + length nodes) (nodes_ops den terms k nodes)
  unfolding nodes_ops
  nodes_below k [] h = tt
  nodes_below k (node ∷ nodes) h =
      below_append (k + suc (length nodes)) (node_ops den terms k node) (nodes_ops den terms (suc k) nodes)
      (below_weaker (suc k) (k + suc (length nodes)) (node_ops den terms k node) (omega arith) (node_below k node h.0))
      (below_weaker (suc k + length nodes) (k + suc (length nodes)) (nodes_ops den terms (suc k) nodes) (omega arith) (nodes_below (suc k) nodes h.1))

-- what the instructions of some nodes name, others name with them
named_left : (r : ℕ) (xs ys : List Op) → In r (concat (map named_in xs)) → In r (concat (map named_in (xs ++ ys)))
named_left r [] ys i = absurd i
named_left r (x ∷ xs) ys i = ⊎_elim
    (λ j. in_left r (named_in x) (concat (map named_in (xs ++ ys))) j)
    (λ j. in_right r (named_in x) (concat (map named_in (xs ++ ys))) (named_left r xs ys j))
    (in_either r (named_in x) (concat (map named_in xs)) i)

named_right : (r : ℕ) (xs ys : List Op) → In r (concat (map named_in ys)) → In r (concat (map named_in (xs ++ ys)))
named_right r [] ys i = i
named_right r (x ∷ xs) ys i = in_right r (named_in x) (concat (map named_in (xs ++ ys))) (named_right r xs ys i)

module _ (den : Key → ℕ) (terms : List Term) where
  node_named : (k : ℕ) (node : Key) → In k (concat (map named_in (node_ops den terms k node)))
  unfolding node_ops
  node_named k node = by (is_inner node)
    where
      by : (b : Bool) → In k (concat (map named_in (cond b (map fuse_op (terms_at terms k) ++ prop k (den node) ∷ []) (load k (least node.legs) ∷ []))))
      by true = named_right k (map fuse_op (terms_at terms k)) (prop k (den node) ∷ []) (inl refl)
      by false = inl refl

  -- the instructions of nodes name each of them
  pub all_named : (k r : ℕ) (nodes : List Key) → k ≤ r → r < k + length nodes → In r (concat (map named_in (nodes_ops den terms k nodes)))
  unfolding nodes_ops
  all_named k r [] a b = absurd (omega (arith, a, b))
  all_named k r (node ∷ nodes) a b = ⊎_elim
      (λ (e : r ≡ k). let P : ℕ → Type 0 = λ j. In j (concat (map named_in (node_ops den terms k node ++ nodes_ops den terms (suc k) nodes))) in
      subst P (sym e) (named_left k (node_ops den terms k node) (nodes_ops den terms (suc k) nodes) (node_named k node)))
      (λ (n : r ≡ k → ⊥). named_right r (node_ops den terms k node) (nodes_ops den terms (suc k) nodes) (all_named (suc k) r nodes (omega (arith, a, n)) (omega (arith, b))))
      (cases_eq r k)

pub keys_below : (n : ℕ) (ts : List KeyTerm) → AllByRecursion (λ t. AllByRecursion (λ b. b < n) (nodes_of t.branches)) ts → AllBelow n (map key_op ts)
keys_below n [] h = tt
keys_below n (t ∷ ts) h = (h.0, keys_below n ts h.1)

module _ (model : Model) (n : ℕ) (graph : Graph) (built : IsBuilt graph) where
  pub graph_below : AllBelow (length graph.nodes) (register_ops model n graph)
  unfolding register_ops
  graph_below =
      below_append (length graph.nodes) (nodes_ops (den_place model n graph) graph.terms 0 graph.nodes) (map key_op graph.keys)
      (below_weaker (0 + length graph.nodes) (length graph.nodes) (nodes_ops (den_place model n graph) graph.terms 0 graph.nodes) (omega arith) (nodes_below (den_place model n graph) graph.terms 0 graph.nodes built.nodes))
      (keys_below (length graph.nodes) graph.keys built.keys)

-- plans that agree on what is named
same_names : (f g : ℕ → ℕ) (rs : List ℕ) → ((r : ℕ) → In r rs → f r ≡ g r) → map f rs ≡ map g rs
same_names f g [] h = refl
same_names f g (r ∷ rs) h = ap₂ (λ x xs. x ∷ xs) (h r (inl refl)) (same_names f g rs (λ q i. h q (inr i)))

same_op : (f g : ℕ → ℕ) (x : Op) → ((r : ℕ) → In r (named_in x) → f r ≡ g r) → placed_op f x ≡ placed_op g x
same_op f g (load to k) h = ap (λ r. load r k) (h to (inl refl))
same_op f g (fuse to minus vertex choice branches) h = ap₂ (λ r rs. fuse r minus vertex choice rs) (h to (inl refl)) (same_names f g branches (λ q i. h q (inr i)))
same_op f g (prop of den) h = ap (λ r. prop r den) (h of (inl refl))
same_op f g (key flow minus vertex choice branches) h = ap (λ rs. key flow minus vertex choice rs) (same_names f g branches h)

pub same_ops : (f g : ℕ → ℕ) (xs : List Op) → ((r : ℕ) → In r (concat (map named_in xs)) → f r ≡ g r) → map (placed_op f) xs ≡ map (placed_op g) xs
same_ops f g [] h = refl
same_ops f g (x ∷ xs) h = ap₂ (λ y ys. y ∷ ys) (same_op f g x (λ r i. h r (in_left r (named_in x) (concat (map named_in xs)) i))) (same_ops f g xs (λ r i. h r (in_right r (named_in x) (concat (map named_in xs)) i)))

pub agreeing_plans : (f g : ℕ → ℕ) (xs : List Op) → ((r : ℕ) → is_named (map named_in xs) r ≡ true → f r ≡ g r) → map (placed_op f) xs ≡ map (placed_op g) xs
unfolding is_named
agreeing_plans f g xs h = same_ops f g xs (λ r i. h r (member_from_in (concat (map named_in xs)) r i))

-- the lines of instructions
same_registers : (x : Instr) → registers_of x ≡ named_in (op_of x)
same_registers (Load to k) = refl
same_registers (Fuse to minus vertex choice branches) = refl
same_registers (Prop of den) = refl
same_registers (KeyOf flow minus vertex choice branches) = refl

pub same_lines : (xs : List Instr) → lines_of_code xs ≡ map named_in (map op_of xs)
same_lines [] = refl
same_lines (x ∷ xs) = ap₂ (λ y ys. y ∷ ys) (same_registers x) (same_lines xs)
