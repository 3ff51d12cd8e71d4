-- One register more, in the walk that makes the plan.
use Rattle.std.proofs.Common.{◌≡◌, ℕ, ◌+◌, ◌<◌, List, [], ◌∷◌, ◌++◌, get_or, take, length, refl, ap, sym, ◌∙◌, set, replicate, add-one, ap₂}
use Rattle.std.proofs.lemmas.List.{take_more, get_or-map}
use Rattle.om_emit.specs.Planning.{Planning, give_slot, give_slots, free_slot, free_slots, last_uses}
use Rattle.om_legs.specs.BranchNodes.{mark_each}
use Rattle.om_code.specs.declared.code.Instr.{Instr}
use Rattle.om_code.specs.Ops.{registers_of, lines_of_code}

give_slots-push : (p : Planning) (rs : List ℕ) (r : ℕ) → give_slots p (rs ++ r ∷ []) ≡ give_slot (give_slots p rs) r
unfolding give_slots
give_slots-push p [] r = refl
give_slots-push p (q ∷ rs) r = give_slots-push (give_slot p q) rs r

free_slots-push : (last : List ℕ) (i : ℕ) (p : Planning) (rs : List ℕ) (r : ℕ) → free_slots last i p (rs ++ r ∷ []) ≡ free_slot last i (free_slots last i p rs) r
unfolding free_slots
free_slots-push last i p [] r = refl
free_slots-push last i p (q ∷ rs) r = free_slots-push last i (free_slot last i p q) rs r

mark_each-push : (i : ℕ) (last rs : List ℕ) (r : ℕ) → mark_each i last (rs ++ r ∷ []) ≡ set (mark_each i last rs) r i
unfolding mark_each
mark_each-push i last [] r = refl
mark_each-push i last (q ∷ rs) r = mark_each-push i (set last q i) rs r

-- the step of a loop over registers
pub give_slots_more : (p q : Planning) (rs : List ℕ) (k : ℕ) → k < length rs → q ≡ give_slot (give_slots p (take k rs)) (get_or rs k 0) → q ≡ give_slots p (take (k + 1) rs)
give_slots_more p q rs k l e = e ∙ sym (ap (give_slots p) (take_more rs k 0 l) ∙ give_slots-push p (take k rs) (get_or rs k 0))

pub free_slots_more : (last : List ℕ) (i : ℕ) (p q : Planning) (rs : List ℕ) (k : ℕ) → k < length rs → q ≡ free_slot last i (free_slots last i p (take k rs)) (get_or rs k 0) → q ≡ free_slots last i p (take (k + 1) rs)
free_slots_more last i p q rs k l e = e ∙ sym (ap (free_slots last i p) (take_more rs k 0 l) ∙ free_slots-push last i p (take k rs) (get_or rs k 0))

pub mark_each_more : (i : ℕ) (last new rs : List ℕ) (k : ℕ) → k < length rs → new ≡ set (mark_each i last (take k rs)) (get_or rs k 0) i → new ≡ mark_each i last (take (k + 1) rs)
mark_each_more i last new rs k l e = e ∙ sym (ap (mark_each i last) (take_more rs k 0 l) ∙ mark_each-push i last (take k rs) (get_or rs k 0))

-- the line of an instruction
pub line_at : (instrs : List Instr) (i : ℕ) (x : Instr) → i < length instrs → x ≡ get_or instrs i x → get_or (lines_of_code instrs) i [] ≡ registers_of x
line_at instrs i x l e = get_or-map registers_of instrs i x [] l ∙ ap registers_of (sym e)

-- one instruction more
pub last_uses_more : (count : ℕ) (instrs : List Instr) (i : ℕ) (x : Instr) (last new : List ℕ) → i < length instrs → x ≡ get_or instrs i x → last ≡ last_uses count (lines_of_code instrs) i → new ≡ mark_each i last (registers_of x) → new ≡ last_uses count (lines_of_code instrs) (i + 1)
unfolding last_uses
last_uses_more count instrs i x last new l e f h =
    h ∙ ap₂ (mark_each i) f (sym (line_at instrs i x l e)) ∙ ap (last_uses count (lines_of_code instrs)) (sym (add-one i))

pub last_uses_none : (count : ℕ) (lines : List (List ℕ)) (last : List ℕ) → last ≡ replicate count 0 → last ≡ last_uses count lines 0
unfolding last_uses
last_uses_none count lines last e = e
