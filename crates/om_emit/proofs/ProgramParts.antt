-- The code of a canonical graph loads first, and closes last.
use Rattle.std.proofs.Common.{◌≡◌, ℕ, suc, ◌<◌, ◌≤◌, List, [], ◌∷◌, ◌++◌, map, Bool, true, false, cond, ⊎_elim, inl, inr, refl, sym, subst, arith, true≢false}
use Rattle.std.specs.List.{AllByRecursion}
use Rattle.std.proofs.lemmas.Bool.Decides.{nat_tests}
use Rattle.std.proofs.lemmas.List.{append_assoc}
use Rattle.om_ring.specs.Members.{In}
use Rattle.om_legs.specs.Legs.{least, size}
use Rattle.om_model.specs.Order.{Rising}
use Rattle.om_graph.specs.declared.Key.{Key}
use Rattle.om_graph.specs.declared.KeyTerm.{KeyTerm}
use Rattle.om_graph.specs.declared.Term.{Term}
use Rattle.om_graph.specs.Possible.{key_lt}
use Rattle.om_graph.proofs.Lists.{before_in}
use Rattle.om_keystone.specs.Built.{is_inner, terms_at}
use Rattle.om_keystone.proofs.Numbers.{numbers_cases}
use Rattle.om_code.specs.declared.code.Instr.{Instr}
use Rattle.om_code.specs.declared.code.Instr.TheVariants.{Load, Fuse, Prop, Key as KeyOf}
use Rattle.om_code.specs.Ops.{Op, load, fuse, prop, key, op_of, placed_op}
use Rattle.om_code.specs.Plain.{InParts, part_of}
use Rattle.om_emit.specs.GraphCode.{fuse_op, key_op, node_ops, nodes_ops}

-- the parts of a program
part_op : Op → ℕ
part_op (load to leg) = 0
part_op (fuse to minus vertex choice branches) = 1
part_op (prop of den) = 1
part_op (key flow minus vertex choice branches) = 2

OpsInParts : ℕ → List Op → Type 0
OpsInParts part [] = Unit {0}
OpsInParts part (x ∷ xs) = (part ≤ part_op x) × OpsInParts (part_op x) xs

same_part : (i : Instr) → part_of i ≡ part_op (op_of i)
unfolding part_op
same_part (Load to leg) = refl
same_part (Fuse to minus vertex choice b) = refl
same_part (Prop of den) = refl
same_part (KeyOf flow minus vertex choice b) = refl

in_parts : (part : ℕ) (is : List Instr) → OpsInParts part (map op_of is) → InParts part is
unfolding OpsInParts InParts
in_parts part [] h = tt
in_parts part (i ∷ is) h =
    let e = same_part i in
    (subst (λ q. part ≤ q) (sym e) h.0, in_parts (part_of i) is (subst (λ q. OpsInParts q (map op_of is)) (sym e) h.1))

placed_part : (plan : ℕ → ℕ) (x : Op) → part_op (placed_op plan x) ≡ part_op x
unfolding part_op
placed_part plan (load to leg) = refl
placed_part plan (fuse to minus vertex choice branches) = refl
placed_part plan (prop of den) = refl
placed_part plan (key flow minus vertex choice branches) = refl

placed_parts : (plan : ℕ → ℕ) (part : ℕ) (xs : List Op) → OpsInParts part xs → OpsInParts part (map (placed_op plan) xs)
unfolding OpsInParts
placed_parts plan part [] h = tt
placed_parts plan part (x ∷ xs) h =
    let e = placed_part plan x in
    (subst (λ q. part ≤ q) (sym e) h.0, subst (λ q. OpsInParts q (map (placed_op plan) xs)) (sym e) (placed_parts plan (part_op x) xs h.1))

-- after some of one part
of_part : (part : ℕ) (xs ys : List Op) → AllByRecursion (λ x. part_op x ≡ part) xs → OpsInParts part ys → OpsInParts part (xs ++ ys)
unfolding OpsInParts
of_part part [] ys h g = g
of_part part (x ∷ xs) ys h g = (let e = h.0 in omega arith, subst (λ q. OpsInParts q (xs ++ ys)) (sym h.0) (of_part part xs ys h.1 g))

earlier_part : (part more : ℕ) (xs : List Op) → part ≤ more → OpsInParts more xs → OpsInParts part xs
unfolding OpsInParts
earlier_part part more [] l h = tt
earlier_part part more (x ∷ xs) l h = (let a = h.0 in omega (arith, a), h.1)

keys_last : (ys : List KeyTerm) → OpsInParts 2 (map key_op ys)
unfolding OpsInParts part_op
keys_last [] = tt
keys_last (y ∷ ys) = (omega arith, keys_last ys)

-- what stands behind an inner node is one
later_inner : (node later : Key) → is_inner node ≡ true → key_lt node later ≡ true → is_inner later ≡ true
unfolding key_lt
later_inner node later e l = ⊎_elim
    (λ (a : size node.legs < size later.legs). grind (arith, nat_tests))
    (λ a. let same : size node.legs ≡ size later.legs = a.0 in grind (arith, nat_tests))
    (numbers_cases (size node.legs) (size later.legs) _ _ l)

module _ (den : Key → ℕ) (terms : List Term) where
  inner_part : (k : ℕ) (node : Key) → is_inner node ≡ true → AllByRecursion (λ x. part_op x ≡ 1) (node_ops den terms k node)
  unfolding node_ops part_op
  inner_part k node e = by (is_inner node) e
    where
      fuses : (ts : List Term) → AllByRecursion (λ x. part_op x ≡ 1) (map fuse_op ts ++ prop k (den node) ∷ [])
      fuses [] = (refl, tt)
      fuses (t ∷ ts) = (refl, fuses ts)

      by : (b : Bool) → b ≡ true → AllByRecursion (λ x. part_op x ≡ 1) (cond b (map fuse_op (terms_at terms k) ++ prop k (den node) ∷ []) (load k (least node.legs) ∷ []))
      by true e = fuses (terms_at terms k)
      by false e = absurd (true≢false (sym e))

  leg_first : (k : ℕ) (node : Key) (xs : List Op) → is_inner node ≡ false → OpsInParts 0 xs → OpsInParts 0 (node_ops den terms k node ++ xs)
  unfolding node_ops OpsInParts part_op
  leg_first k node xs e h = by (is_inner node) e
    where
      by : (b : Bool) → b ≡ false → OpsInParts 0 (cond b (map fuse_op (terms_at terms k) ++ prop k (den node) ∷ []) (load k (least node.legs) ∷ []) ++ xs)
      by true e = absurd (true≢false e)
      by false e = (omega arith, h)

  -- inner nodes, and then others
  inner_parts : (k : ℕ) (nodes : List Key) (ys : List Op) → ((node : Key) → In node nodes → is_inner node ≡ true) → OpsInParts 1 ys → OpsInParts 1 (nodes_ops den terms k nodes ++ ys)
  unfolding nodes_ops
  inner_parts k [] ys h g = g
  inner_parts k (node ∷ nodes) ys h g = subst (OpsInParts 1) (sym (append_assoc (node_ops den terms k node) (nodes_ops den terms (suc k) nodes) ys))
      (of_part 1 (node_ops den terms k node) (nodes_ops den terms (suc k) nodes ++ ys) (inner_part k node (h node (inl refl))) (inner_parts (suc k) nodes ys (λ x i. h x (inr i)) g))

  -- legs first
  nodes_parts : (k : ℕ) (nodes : List Key) (ys : List Op) → Rising key_lt nodes → OpsInParts 1 ys → OpsInParts 0 (nodes_ops den terms k nodes ++ ys)
  unfolding nodes_ops
  nodes_parts k [] ys rise g = earlier_part 0 1 ys (omega arith) g
  nodes_parts k (node ∷ nodes) ys rise g = by (is_inner node) refl (nodes_parts (suc k) nodes ys rise.1 g)
    where
      ops : List Op
      ops = nodes_ops den terms (suc k) nodes

      by : (b : Bool) → is_inner node ≡ b → OpsInParts 0 (ops ++ ys) → OpsInParts 0 ((node_ops den terms k node ++ ops) ++ ys)
      by true e ih = earlier_part 0 1 ((node_ops den terms k node ++ ops) ++ ys) (omega arith) (subst (OpsInParts 1) (sym (append_assoc (node_ops den terms k node) ops ys))
          (of_part 1 (node_ops den terms k node) (ops ++ ys) (inner_part k node e) (inner_parts (suc k) nodes ys (λ x i. later_inner node x e (before_in key_lt node x nodes rise.0 i)) g)))
      by false e ih = subst (OpsInParts 0) (sym (append_assoc (node_ops den terms k node) ops ys)) (leg_first k node (ops ++ ys) e ih)

pub graph_parts : (den : Key → ℕ) (terms : List Term) (nodes : List Key) (ys : List KeyTerm) (plan : ℕ → ℕ) (is : List Instr) → Rising key_lt nodes
    → map op_of is ≡ map (placed_op plan) (nodes_ops den terms 0 nodes ++ map key_op ys) → InParts 0 is
graph_parts den terms nodes ys plan is rise e =
    in_parts 0 is (subst (OpsInParts 0) (sym e) (placed_parts plan 0 (nodes_ops den terms 0 nodes ++ map key_op ys) (nodes_parts den terms 0 nodes (map key_op ys) rise (earlier_part 1 2 (map key_op ys) (omega arith) (keys_last ys)))))
