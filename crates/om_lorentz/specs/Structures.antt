-- The slots of the structures: their spins, indices and factors, and the order in which they are read.
use Rattle.std.specs.Prelude.{◌≡◌, ◌≢◌, ℕ, ◌-◌, ◌<◌, ◌≤◌, List, [], ◌∷◌, length, map, slice_index, slice_index_or}
use Rattle.om_lorentz.specs.declared.structures.Spin.{Spin}
use Rattle.om_lorentz.specs.declared.structures.Spin.TheVariants.{Scalar, Dirac, Vector}
use Rattle.om_lorentz.specs.declared.structures.Structure.{Structure}
use Rattle.om_lorentz.specs.declared.structures.Structure.TheVariants.{Sss, Ssss, Vss, Vvs, Vvss, Ffs, Ffv, Vvv, Vvvv, Gluon4}
use Rattle.om_lorentz.specs.declared.structures.Reading.{Reading}

-- the spins of the slots, in order
abbrev pub spins : Structure → List Spin
spins Sss = Scalar ∷ Scalar ∷ Scalar ∷ []
spins Ssss = Scalar ∷ Scalar ∷ Scalar ∷ Scalar ∷ []
spins Vss = Vector ∷ Scalar ∷ Scalar ∷ []
spins Vvs = Vector ∷ Vector ∷ Scalar ∷ []
spins Vvss = Vector ∷ Vector ∷ Scalar ∷ Scalar ∷ []
spins Ffs = Dirac ∷ Dirac ∷ Scalar ∷ []
spins Ffv = Dirac ∷ Dirac ∷ Vector ∷ []
spins Vvv = Vector ∷ Vector ∷ Vector ∷ []
spins Vvvv = Vector ∷ Vector ∷ Vector ∷ Vector ∷ []
spins Gluon4 = Vector ∷ Vector ∷ Vector ∷ Vector ∷ []

-- how many slots a vertex of the structure has
abbrev pub slot_count : Structure → ℕ
slot_count s = length (spins s)

-- how many factors a vertex of the structure has
abbrev pub factor_count : Structure → ℕ
factor_count Ffs = 2
factor_count Ffv = 2
factor_count Vvvv = 3
factor_count _ = 1

-- the indices of a spin
abbrev pub indices_of : Spin → List ℕ
indices_of Scalar = 0 ∷ []
indices_of Dirac = 0 ∷ 1 ∷ 2 ∷ 3 ∷ []
indices_of Vector = 0 ∷ 1 ∷ 2 ∷ 3 ∷ []

-- an index of the spin
abbrev pub IsIndex : Spin → ℕ → Type 0
IsIndex s k = k < length (indices_of s)

-- the indices of a slot, counted from 1; past the last slot there is the index 0 alone
abbrev pub slot_indices : Structure → ℕ → List ℕ
slot_indices s slot = slice_index_or (map indices_of (spins s)) (slot - 1) (0 ∷ [])

-- the index that a list of four gives to a slot
abbrev pub index : List ℕ → ℕ → ℕ
index i slot = slice_index i (slot - 1)

-- a slot of a vertex of four
abbrev pub IsSlot : ℕ → Type 0
IsSlot slot = (1 ≤ slot) × (slot ≤ 4)

-- each slot has an index of its spin, and past the vertex the index is 0
abbrev pub HasIndices : Structure → List ℕ → Type 0
HasIndices s i = (slot : ℕ) → IsSlot slot → index i slot < length (slot_indices s slot)

-- the slot at a place of the reading order, both counted from 1
abbrev pub read : Reading → ℕ → ℕ
read r place = slice_index r.slots (place - 1)

-- the reading names each slot of the vertex once, and 0 past them
pub record IsReading (s : Structure) (r : Reading) : Type 0 where
  pub in_range : (place : ℕ) → 1 ≤ place → place ≤ slot_count s → (1 ≤ read r place) × (read r place ≤ slot_count s)
  pub distinct : (place later : ℕ) → 1 ≤ place → place < later → later ≤ slot_count s → read r place ≢ read r later
  pub past : (place : ℕ) → slot_count s < place → place ≤ 4 → read r place ≡ 0
