-- How the first-fit plan is made in one walk: the slots so far, the numbers that are free again, and how many numbers were used.
use Rattle.std.specs.Prelude.{ℕ, zero, suc, ◌+◌, List, [], ◌∷◌, Option, Some, None, slice_index, slice_index_or, slice_set, replicate, if◌then◌else◌, ◌==◌}
use Rattle.std.specs.Ordering.{nat_cmp}
use Rattle.std.specs.BTreeSet.{insert_key}
use Rattle.om_legs.specs.BranchNodes.{mark_each}
use Rattle.om_emit.specs.declared.planner.Planner.{Planner}
use Rattle.om_emit.specs.declared.slot_plan.SlotPlan.{SlotPlan}

pub record Planning : Type 0 where
  pub slots : List (Option ℕ)
  pub free : List ℕ
  pub count : ℕ

-- no register has a slot
abbrev pub no_slots : ℕ → Planning
no_slots registers = record { slots = replicate registers None; free = []; count = 0 }

-- a planner without where it lies in memory
abbrev pub planning_of : Planner → Planning
planning_of p = record { slots = p.slots.items; free = p.free.keys; count = p.count }

-- a register gets the first free number, or else a new one
abbrev pub new_slot : List (Option ℕ) → List ℕ → ℕ → ℕ → Planning
new_slot slots [] count r = record { slots = slice_set slots r (Some count); free = []; count = count + 1 }
new_slot slots (k ∷ ks) count r = record { slots = slice_set slots r (Some k); free = ks; count = count }

-- unless it has one
abbrev pub slot_given : Planning → ℕ → Option ℕ → Planning
slot_given p r (Some k) = p
slot_given p r None = new_slot p.slots p.free p.count r

unfoldable pub give_slot : Planning → ℕ → Planning
give_slot p r = slot_given p r (slice_index_or p.slots r None)

unfoldable pub give_slots : Planning → List ℕ → Planning
give_slots p [] = p
give_slots p (r ∷ rs) = give_slots (give_slot p r) rs

-- a number that is free again
abbrev pub freed : Planning → Option ℕ → Planning
freed p None = p
freed p (Some k) = record { slots = p.slots; free = insert_key nat_cmp p.free k; count = p.count }

-- the slot of a register is free where its last use is instruction i
unfoldable pub free_slot : List ℕ → ℕ → Planning → ℕ → Planning
free_slot last i p r = if slice_index last r == i then freed p (slice_index_or p.slots r None) else p

unfoldable pub free_slots : List ℕ → ℕ → Planning → List ℕ → Planning
free_slots last i p [] = p
free_slots last i p (r ∷ rs) = free_slots last i (free_slot last i p r) rs

-- after the first n instructions
unfoldable pub planned : List ℕ → List (List ℕ) → Planning → ℕ → Planning
planned last lines p zero = p
planned last lines p (suc n) = let line = slice_index_or lines n [] in free_slots last n (give_slots (planned last lines p n) line) line

-- by register, the last of the first n instructions that names it: each marks the registers that it names
unfoldable pub last_uses : ℕ → List (List ℕ) → ℕ → List ℕ
last_uses count lines zero = replicate count 0
last_uses count lines (suc n) = mark_each n (last_uses count lines n) (slice_index_or lines n [])

-- the slot of a register in a plan, or 0 where it has none
abbrev pub slot_in_plan : SlotPlan → ℕ → ℕ
slot_in_plan plan r = slice_index plan.slots.items r
