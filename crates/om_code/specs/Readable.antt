-- What the rules ask of a code before they can be tried.
use Rattle.std.specs.Prelude.{◌≡◌, ◌⊎◌, ℕ, ◌+◌, ◌^◌, ◌<◌, ◌≤◌, length, Some, slice_get}
use Rattle.om_legs.specs.declared.leg_set.TheConstants.{MOST_LEGS}
use Rattle.om_model.specs.declared.model.Vertex.{Vertex}
use Rattle.om_code.specs.declared.code.Instr.{Instr}
use Rattle.om_code.specs.declared.code.Instr.TheVariants.{Load, Fuse, Prop, Key}
use Rattle.om_code.specs.declared.code.Code.{Code}

-- each vertex has three or four slots
abbrev pub HasThreeOrFour : Code → Type 0
HasThreeOrFour c = (k : ℕ) (v : Vertex) → slice_get c.model.vertices k ≡ Some v → (length v.fields ≡ 3) ⊎ (length v.fields ≡ 4)

-- a fuse has at most three branches, and a load's leg is at least 1
abbrev pub HasFew : Instr → Type 0
HasFew (Load to leg) = 1 ≤ leg
HasFew (Fuse to minus vertex choice b) = b.count ≤ 3
HasFew (Prop of den) = Unit {0}
HasFew (Key flow minus vertex choice b) = Unit {0}

-- the vertices and instructions have no more slots and branches than a text can have
pub record CanBeRead (c : Code) : Type 0 where
  pub slots : HasThreeOrFour c
  pub instrs : (k : ℕ) (i : Instr) → slice_get c.instrs k ≡ Some i → HasFew i
  pub lines : length c.model.particles + (length c.model.vertices + (length c.legs + (length c.flows + (length c.dens + length c.instrs)))) < 2 ^ 31

-- a load's leg is one that there may be
abbrev pub IsLegOf : Code → Instr → Type 0
IsLegOf c (Load to leg) = leg ≤ MOST_LEGS
IsLegOf c (Fuse to minus vertex choice b) = Unit {0}
IsLegOf c (Prop of den) = Unit {0}
IsLegOf c (Key flow minus vertex choice b) = Unit {0}
