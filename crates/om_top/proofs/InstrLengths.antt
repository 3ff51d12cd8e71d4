-- The length of the instruction lines of the code of a graph, by its terms.
use Rattle.std.proofs.Common.{◌≡◌, ℕ, suc, ◌+◌, ◌*◌, ◌<◌, ◌≤◌, ◌^◌, List, [], ◌∷◌, ◌++◌, length, map, Bool, true, false, cond, not, refl, ap, arith}
use Rattle.std.specs.Prelude.{decimal, codes, ◌==◌}
use Rattle.std.specs.List.{AllByRecursion, filter}
use Rattle.std.proofs.lemmas.Fmt.{length-decimal-le}
use Rattle.om_legs.specs.declared.branches.Branches.{Branches}
use Rattle.om_legs.specs.Legs.{least}
use Rattle.om_model.specs.TermText.{branch_words, place_word, sign_word, term_words}
use Rattle.om_graph.specs.declared.Key.{Key as Node}
use Rattle.om_graph.specs.declared.KeyTerm.{KeyTerm}
use Rattle.om_graph.specs.declared.Term.{Term}
use Rattle.om_keystone.specs.Built.{is_inner}
use Rattle.om_code.specs.declared.code.Instr.{Instr}
use Rattle.om_code.specs.declared.code.Instr.TheVariants.{Load, Fuse, Prop, Key}
use Rattle.om_code.specs.Ops.{Op, fuse, key, load, op_of, placed_op, prop}
use Rattle.om_legs.specs.BranchNodes.{nodes_of}
use Rattle.om_emit.specs.GraphCode.{fuse_op, key_op}
use Rattle.om_emit.specs.GraphWalk.{behind, front, step_ops, step_rest, walk_ops}
use Rattle.om_io.specs.Lines.{line_text, lines_text}
use Rattle.om_program_text.specs.ProgramText.{instr_words}
use Rattle.om_top.proofs.GraphSizes.{is_leg_node}
use Rattle.om_top.proofs.TextLengths.{line_len, lines_more, words_len, words_within}

-- the most bytes of the line of an instruction
abbrev pub most_bytes : Op → ℕ
most_bytes (load to leg) = 20
most_bytes (fuse to minus vertex choice branches) = 47
most_bytes (prop of den) = 21
most_bytes (key flow minus vertex choice branches) = 54

abbrev pub bytes_of : List Op → ℕ
bytes_of [] = 0
bytes_of (x ∷ xs) = most_bytes x + bytes_of xs

-- the numbers of an instruction are small
abbrev pub HasSmallNumbers : Instr → Type 0
HasSmallNumbers (Load to leg) = (to + 1 < 10 ^ 7) × (leg < 10 ^ 3)
HasSmallNumbers (Fuse to minus vertex choice b) = (to + 1 < 10 ^ 7) × (vertex + 1 < 10 ^ 3) × (choice < 10 ^ 3) × (length (nodes_of b) ≤ 3) × AllByRecursion (λ k. k + 1 < 10 ^ 7) (nodes_of b)
HasSmallNumbers (Prop of den) = (of + 1 < 10 ^ 7) × (den + 1 < 10 ^ 7)
HasSmallNumbers (Key flow minus vertex choice b) = (flow + 1 < 10 ^ 7) × (vertex + 1 < 10 ^ 3) × (choice < 10 ^ 3) × (length (nodes_of b) ≤ 4) × AllByRecursion (λ k. k + 1 < 10 ^ 7) (nodes_of b)

small7 : (n : ℕ) → n < 10 ^ 7 → length (decimal n) ≤ 7
small7 n l = length-decimal-le 7 n (omega arith) l (omega (arith, l))

small3 : (n : ℕ) → n < 10 ^ 3 → length (decimal n) ≤ 3
small3 n l = length-decimal-le 3 n (omega arith) l (omega (arith, l))

sign_is : (b : Bool) → length (sign_word b) ≡ 1
sign_is true = refl
sign_is false = refl

branches_len : (b : Branches) → AllByRecursion (λ k. k + 1 < 10 ^ 7) (nodes_of b) → words_len (branch_words b) ≤ 8 * length (nodes_of b)
branches_len b h = words_within 7 place_word (λ k. k + 1 < 10 ^ 7) (λ k l. small7 (k + 1) l) (nodes_of b) h

instr_len : (i : Instr) → HasSmallNumbers i → length (line_text (instr_words 2 i)) ≤ most_bytes (op_of i)
instr_len (Load to leg) h =
    let e = line_len (codes "load") (place_word to ∷ decimal leg ∷ []) in
    omega (arith, e, small7 (to + 1) h.0, small3 leg h.1)
instr_len (Fuse to minus vertex choice b) h =
    let e = line_len (codes "fuse") (term_words to minus vertex choice b) in
    omega (arith, e, small7 (to + 1) h.0, sign_is minus, small3 (vertex + 1) h.1, small3 choice h.2, h.3, branches_len b h.4)
instr_len (Prop of den) h =
    let e = line_len (codes "prop") (place_word of ∷ place_word den ∷ []) in
    omega (arith, e, small7 (of + 1) h.0, small7 (den + 1) h.1)
instr_len (Key flow minus vertex choice b) h =
    let e = line_len (codes "key") (term_words flow minus vertex choice b) in
    omega (arith, e, small7 (flow + 1) h.0, sign_is minus, small3 (vertex + 1) h.1, small3 choice h.2, h.3, branches_len b h.4)

pub instrs_len : (is : List Instr) → AllByRecursion HasSmallNumbers is → length (lines_text (map (instr_words 2) is)) ≤ bytes_of (map op_of is)
instrs_len [] h = omega arith
instrs_len (i ∷ is) h = let a = lines_more (instr_words 2 i) (map (instr_words 2) is) in let s = instr_len i h.0 in let r = instrs_len is h.1 in omega (arith, a, s, r)

-- slots in place of registers change nothing
pub bytes_placed : (plan : ℕ → ℕ) (xs : List Op) → bytes_of (map (placed_op plan) xs) ≡ bytes_of xs
bytes_placed plan [] = refl
bytes_placed plan (load to leg ∷ xs) = ap (λ n. 20 + n) (bytes_placed plan xs)
bytes_placed plan (fuse to minus vertex choice branches ∷ xs) = ap (λ n. 47 + n) (bytes_placed plan xs)
bytes_placed plan (prop of den ∷ xs) = ap (λ n. 21 + n) (bytes_placed plan xs)
bytes_placed plan (key flow minus vertex choice branches ∷ xs) = ap (λ n. 54 + n) (bytes_placed plan xs)

pub bytes_append : (xs ys : List Op) → bytes_of (xs ++ ys) ≡ bytes_of xs + bytes_of ys
bytes_append [] ys = omega arith
bytes_append (x ∷ xs) ys = let r = bytes_append xs ys in omega (arith, r)

fuses_bytes : (ts : List Term) → bytes_of (map fuse_op ts) ≡ 47 * length ts
fuses_bytes [] = omega arith
fuses_bytes (t ∷ ts) = let r = fuses_bytes ts in omega (arith, r)

pub keys_bytes : (ys : List KeyTerm) → bytes_of (map key_op ys) ≡ 54 * length ys
keys_bytes [] = omega arith
keys_bytes (y ∷ ys) = let r = keys_bytes ys in omega (arith, r)

front_behind : (k : ℕ) (ts : List Term) → length (front k ts) + length (behind k ts) ≡ length ts
unfolding front behind
front_behind k [] = omega arith
front_behind k (t ∷ ts) = by (t.node == k) (front_behind k ts)
  where
    by : (b : Bool) → length (front k ts) + length (behind k ts) ≡ length ts → length (cond b (t ∷ front k ts) []) + length (cond b (behind k ts) (t ∷ ts)) ≡ suc (length ts)
    by true h = omega (arith, h)
    by false h = omega arith

pub walk_bytes : (den : Node → ℕ) (k : ℕ) (nodes : List Node) (ts : List Term)
    → bytes_of (walk_ops den k nodes ts) ≤ 47 * length ts + 21 * length (filter is_inner nodes) + 20 * length (filter is_leg_node nodes)
unfolding walk_ops step_ops step_rest
walk_bytes den k [] ts = omega arith
walk_bytes den k (node ∷ nodes) ts = by (is_inner node) (walk_bytes den (suc k) nodes (behind k ts)) (walk_bytes den (suc k) nodes ts)
  where
    by : (b : Bool) → bytes_of (walk_ops den (suc k) nodes (behind k ts)) ≤ 47 * length (behind k ts) + 21 * length (filter is_inner nodes) + 20 * length (filter is_leg_node nodes)
        → bytes_of (walk_ops den (suc k) nodes ts) ≤ 47 * length ts + 21 * length (filter is_inner nodes) + 20 * length (filter is_leg_node nodes)
        → bytes_of (cond b (map fuse_op (front k ts) ++ prop k (den node) ∷ []) (load k (least node.legs) ∷ []) ++ walk_ops den (suc k) nodes (cond b (behind k ts) ts))
        ≤ 47 * length ts + 21 * length (cond b (node ∷ filter is_inner nodes) (filter is_inner nodes)) + 20 * length (cond (not b) (node ∷ filter is_leg_node nodes) (filter is_leg_node nodes))
    by true h g =
        let a = bytes_append (map fuse_op (front k ts) ++ prop k (den node) ∷ []) (walk_ops den (suc k) nodes (behind k ts)) in
        let b = bytes_append (map fuse_op (front k ts)) (prop k (den node) ∷ []) in
        let c = fuses_bytes (front k ts) in
        let d = front_behind k ts in
        omega (arith, a, b, c, d, h)
    by false h g = omega (arith, g)
