-- Instructions as their lines say them.
use Rattle.std.specs.Prelude.{ℕ, Bool, List, [], ◌∷◌, map}
use Rattle.om_code.specs.declared.code.Instr.{Instr}
use Rattle.om_code.specs.declared.code.Instr.TheVariants.{Load, Fuse, Prop, Key}
use Rattle.om_legs.specs.BranchNodes.{nodes_of}
use Rattle.om_code.specs.Registers as step

pub data Op : Type 0 where
  load : (to leg : ℕ) → Op
  fuse : (to : ℕ) (minus : Bool) (vertex choice : ℕ) (branches : List ℕ) → Op
  prop : (of den : ℕ) → Op
  key : (flow : ℕ) (minus : Bool) (vertex choice : ℕ) (branches : List ℕ) → Op

abbrev pub op_of : Instr → Op
op_of (Load to leg) = load to leg
op_of (Fuse to minus vertex choice branches) = fuse to minus vertex choice (nodes_of branches)
op_of (Prop of den) = prop of den
op_of (Key flow minus vertex choice branches) = key flow minus vertex choice (nodes_of branches)

-- the registers that an instruction names, first the one that it writes
abbrev pub named_in : Op → List ℕ
named_in (load to leg) = to ∷ []
named_in (fuse to minus vertex choice branches) = to ∷ branches
named_in (prop of den) = of ∷ []
named_in (key flow minus vertex choice branches) = branches

-- the registers that an instruction of a code names, and those of each of a list
abbrev pub registers_of : Instr → List ℕ
registers_of i = named_in (op_of i)

abbrev pub lines_of_code : List Instr → List (List ℕ)
lines_of_code instrs = map registers_of instrs

-- with slots in place of registers
abbrev pub placed_op : (ℕ → ℕ) → Op → Op
placed_op plan (load to leg) = load (plan to) leg
placed_op plan (fuse to minus vertex choice branches) = fuse (plan to) minus vertex choice (map plan branches)
placed_op plan (prop of den) = prop (plan of) den
placed_op plan (key flow minus vertex choice branches) = key flow minus vertex choice (map plan branches)

-- what instructions mean: the wave of a leg, the signed wave that a vertex makes of its branches, what the propagator of a
-- denominator makes of a wave, and what a keystone adds to the sums
pub record Meaning (W S : Type 0) : Type 0 where
  pub loaded : ℕ → W
  pub fused : Bool → ℕ → ℕ → List W → W
  pub moved : ℕ → W → W
  pub closed : ℕ → Bool → ℕ → ℕ → List W → S → S

abbrev pub step_of : {W S : Type 0} → Meaning W S → Op → step.Step W S
step_of m (load to leg) = step.load to (m.loaded leg)
step_of m (fuse to minus vertex choice branches) = step.fuse to branches (m.fused minus vertex choice)
step_of m (prop of den) = step.prop of (m.moved den)
step_of m (key flow minus vertex choice branches) = step.key branches (m.closed flow minus vertex choice)
