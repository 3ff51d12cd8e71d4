-- The plans of instructions, and of instructions with keystone terms behind them.
use Rattle.std.proofs.Common.{◌≡◌, ℕ, suc, ◌+◌, ◌<◌, ◌≤◌, List, [], ◌++◌, length, map, get_or, slice_index, true, refl, sym, ◌∙◌, ap, ap₂, subst, arith, Option, None}
use Rattle.std.specs.Prelude.{All}
use Rattle.std.specs.List.{concat}
use Rattle.std.proofs.lemmas.List.{length-map, length-append, get_or-append-add, get_or-map}
use Rattle.std.proofs.Math.ListN as many
use Rattle.om_ring.specs.Members.{In}
use Rattle.om_graph.specs.declared.KeyTerm.{KeyTerm}
use Rattle.om_legs.specs.BranchNodes.{nodes_of}
use Rattle.om_code.specs.Spans.{is_named, width}
use Rattle.om_code.specs.SlotPlans.{first_fit, slot_or_0}
use Rattle.om_code.specs.declared.code.Instr.{Instr}
use Rattle.om_code.specs.Ops.{registers_of, lines_of_code}
use Rattle.om_emit.specs.GraphCode.{key_lines}
use Rattle.om_emit.specs.Planning.{Planning, no_slots, planned, last_uses}
use Rattle.om_legs.specs.BranchNodes.{mark_each}
use Rattle.om_emit.proofs.PlanLoop.{in_is, named_is, named_small, all_small, all_in, length_lines, last_uses_front}
use Rattle.om_emit.proofs.PlanFronts.{in_lines, front_room, front_plan, front_count}
use Rattle.om_emit.proofs.PlanMade.{count_small, slot-is, count-is}

-- the slot of a register in a list of slots, 0 where one has none
slot_placed : (slots : List ℕ) (made : List (Option ℕ)) (r : ℕ) → slots ≡ map slot_or_0 made → slice_index slots r ≡ slot_or_0 (get_or made r None)
slot_placed slots made r e = ap (λ xs. slice_index xs r) e ∙ many.get_or-map slot_or_0 made r None

-- the registers stand in the list of last uses
pub all_within : (instrs : List Instr) (n : ℕ) (last : List ℕ) → ((r : ℕ) → is_named (lines_of_code instrs) r ≡ true → r < n) → length last ≡ n → All (λ x. All (λ r. r < length last) (registers_of x)) instrs
all_within instrs n last small e = subst (λ m. All (λ x. All (λ r. r < m) (registers_of x)) instrs) (sym e) (all_small instrs n small)

module _ (instrs : List Instr) (n : ℕ) (small : (r : ℕ) → is_named (lines_of_code instrs) r ≡ true → r < n) (last : List ℕ) (size : length last ≡ n) where
  module _ (marks : last ≡ last_uses n (lines_of_code instrs) (length instrs)) where
    walk : (i : ℕ) → planned last (lines_of_code instrs) (no_slots n) i ≡ planned (last_uses n (lines_of_code instrs) (length (lines_of_code instrs))) (lines_of_code instrs) (no_slots n) i
    walk i = ap (λ ls. planned ls (lines_of_code instrs) (no_slots n) i) (marks ∙ ap (last_uses n (lines_of_code instrs)) (sym (length_lines instrs)))

    pub room : (i : ℕ) → i ≤ length instrs → (planned last (lines_of_code instrs) (no_slots (length last)) i).count ≤ length last
    room i l =
        let few = count_small (lines_of_code instrs) n (named_small instrs n small) i (omega (arith, l, length_lines instrs)) in
        subst (λ m. (planned last (lines_of_code instrs) (no_slots m) i).count ≤ m) (sym size) (subst (λ (p : Planning). p.count ≤ n) (sym (walk i)) few)

    pub plan_done : (slots : List ℕ) (r : ℕ) → slots ≡ map slot_or_0 (planned last (lines_of_code instrs) (no_slots (length last)) (length instrs)).slots → is_named (lines_of_code instrs) r ≡ true → slice_index slots r ≡ first_fit (lines_of_code instrs) r
    plan_done slots r e h =
        slot_placed slots (planned last (lines_of_code instrs) (no_slots (length last)) (length instrs)).slots r e
        ∙ ap (λ xs. slot_or_0 (get_or xs r None)) (ap₂ (λ m i. (planned last (lines_of_code instrs) (no_slots m) i).slots) size (sym (length_lines instrs)))
        ∙ ap (λ (p : Planning). slot_or_0 (get_or p.slots r None)) (walk (length (lines_of_code instrs)))
        ∙ slot-is (lines_of_code instrs) n (named_small instrs n small) (length (lines_of_code instrs)) (omega arith) refl r (small r h)

    pub count_done : (count : ℕ) → count ≡ (planned last (lines_of_code instrs) (no_slots (length last)) (length instrs)).count → count ≡ width (lines_of_code instrs)
    count_done count e =
        e ∙ ap₂ (λ m i. (planned last (lines_of_code instrs) (no_slots m) i).count) size (sym (length_lines instrs))
        ∙ ap (λ (p : Planning). p.count) (walk (length (lines_of_code instrs)))
        ∙ count-is (lines_of_code instrs) n (named_small instrs n small) (length (lines_of_code instrs)) (omega arith) refl

length_keys : (keys : List KeyTerm) → length (key_lines keys) ≡ length keys
length_keys keys = length-map keys (λ (t : KeyTerm). nodes_of t.branches)

module _ (instrs : List Instr) (n : ℕ) (small : (r : ℕ) → is_named (lines_of_code instrs) r ≡ true → r < n) (keys : List KeyTerm) (known : (r : ℕ) → is_named (key_lines keys) r ≡ true → is_named (lines_of_code instrs) r ≡ true) where
  key_known : (r : ℕ) → In r (concat (key_lines keys)) → In r (concat (lines_of_code instrs))
  key_known r i = in_is (lines_of_code instrs) r (known r (named_is (key_lines keys) r i))

  -- the nodes of keystone terms stand there too
  pub keys_within : All (λ (t : KeyTerm). All (λ r. r < n) (nodes_of t.branches)) keys
  keys_within k t l = all_in (λ r. r < n) (nodes_of (get_or keys k t).branches) (λ r j.
      let line : get_or (key_lines keys) k [] ≡ nodes_of (get_or keys k t).branches = get_or-map (λ (t : KeyTerm). nodes_of t.branches) keys k t [] l in
      let P : List ℕ → Type 0 = λ xs. In r xs in
      let i = in_lines (key_lines keys) k r (omega (arith, l, length_keys keys)) (subst P (sym line) j) in
      named_small instrs n small r (key_known r i))

  module _ (last : List ℕ) (size : length last ≡ n) (marks : last ≡ last_uses n (lines_of_code instrs ++ key_lines keys) (length instrs + length keys)) where
    all_marks : last ≡ last_uses n (lines_of_code instrs ++ key_lines keys) (length (lines_of_code instrs ++ key_lines keys))
    all_marks = marks ∙ ap (last_uses n (lines_of_code instrs ++ key_lines keys)) (let e = length-append (lines_of_code instrs) (key_lines keys) in omega (arith, e, length_lines instrs, length_keys keys))

    pub key_room : (i : ℕ) → i ≤ length instrs → (planned last (lines_of_code instrs) (no_slots (length last)) i).count ≤ length last
    key_room i l = subst (λ m. (planned last (lines_of_code instrs) (no_slots m) i).count ≤ m) (sym size)
        (front_room (lines_of_code instrs) (key_lines keys) key_known n (named_small instrs n small) last all_marks i (omega (arith, l, length_lines instrs)))

    pub key_plan_done : (slots : List ℕ) (r : ℕ) → slots ≡ map slot_or_0 (planned last (lines_of_code instrs) (no_slots (length last)) (length instrs)).slots → is_named (lines_of_code instrs) r ≡ true
        → slice_index slots r ≡ first_fit (lines_of_code instrs ++ key_lines keys) r
    key_plan_done slots r e h =
        slot_placed slots (planned last (lines_of_code instrs) (no_slots (length last)) (length instrs)).slots r e
        ∙ ap (λ xs. slot_or_0 (get_or xs r None)) (ap₂ (λ m i. (planned last (lines_of_code instrs) (no_slots m) i).slots) size (sym (length_lines instrs)))
        ∙ front_plan (lines_of_code instrs) (key_lines keys) key_known n (named_small instrs n small) last all_marks r (small r h)

    pub key_count_done : (count : ℕ) → count ≡ (planned last (lines_of_code instrs) (no_slots (length last)) (length instrs)).count → count ≡ width (lines_of_code instrs ++ key_lines keys)
    key_count_done count e =
        e ∙ ap₂ (λ m i. (planned last (lines_of_code instrs) (no_slots m) i).count) size (sym (length_lines instrs))
        ∙ front_count (lines_of_code instrs) (key_lines keys) key_known n (named_small instrs n small) last all_marks

-- the marks of keystone terms, one by one
pub keys_none : (n : ℕ) (instrs : List Instr) (keys : List KeyTerm) (last : List ℕ) → last ≡ last_uses n (lines_of_code instrs) (length instrs) → last ≡ last_uses n (lines_of_code instrs ++ key_lines keys) (length instrs + 0)
keys_none n instrs keys last e =
    e ∙ sym (last_uses_front n (lines_of_code instrs) (key_lines keys) (length instrs) (omega (arith, length_lines instrs)))
    ∙ ap (last_uses n (lines_of_code instrs ++ key_lines keys)) (let z : length instrs ≡ length instrs + 0 = omega arith in z)

pub keys_more : (n : ℕ) (instrs : List Instr) (keys : List KeyTerm) (i at : ℕ) (key : KeyTerm) (last new : List ℕ) → i < length keys → key ≡ get_or keys i key → at ≡ length instrs + i → last ≡ last_uses n (lines_of_code instrs ++ key_lines keys) (length instrs + i)
    → new ≡ mark_each at last (nodes_of key.branches) → new ≡ last_uses n (lines_of_code instrs ++ key_lines keys) (length instrs + (i + 1))
unfolding last_uses
keys_more n instrs keys i at key last new l q p e f =
    let lines = lines_of_code instrs ++ key_lines keys in
    let there : get_or lines (length instrs + i) [] ≡ nodes_of key.branches =
    ap (λ m. get_or lines (m + i) []) (sym (length_lines instrs)) ∙ get_or-append-add (lines_of_code instrs) (key_lines keys) i []
    ∙ get_or-map (λ (t : KeyTerm). nodes_of t.branches) keys i key [] l ∙ ap (λ (t : KeyTerm). nodes_of t.branches) (sym q) in
    f ∙ ap₂ (λ k xs. mark_each k xs (nodes_of key.branches)) p e ∙ ap (mark_each (length instrs + i) (last_uses n lines (length instrs + i))) (sym there)
    ∙ ap (last_uses n lines) (let z : suc (length instrs + i) ≡ length instrs + (i + 1) = omega arith in z)
