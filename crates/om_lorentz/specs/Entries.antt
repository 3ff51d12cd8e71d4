-- The vertex entries. A vertex has, at given indices, the entry i times the line of its structure.
-- Numbers count the slots from 1. All momenta enter the vertex, and the indices of its vectors are lower ones.
use Rattle.std.specs.Prelude.{ℕ, zero, suc, List}
use Rattle.om_ring.specs.Ops.{Ops}
use Rattle.om_lorentz.specs.declared.structures.Factors.{Factors}
use Rattle.om_lorentz.specs.declared.structures.Reading.{Reading}
use Rattle.om_lorentz.specs.declared.structures.Structure.{Structure}
use Rattle.om_lorentz.specs.declared.structures.Structure.TheVariants.{Sss, Ssss, Vss, Vvs, Vvss, Ffs, Ffv, Vvv, Vvvv, Gluon4}
use Rattle.om_lorentz.specs.declared.vectors.Four.{Four}
use Rattle.om_lorentz.specs.declared.vectors.Momenta.{Momenta}
use Rattle.om_lorentz.specs.Matrices.{upper, lower_at, metric, unit, gamma, gamma5, product}
use Rattle.om_lorentz.specs.Structures.{index, read}

-- the momentum that enters through a slot, counted from 1
abbrev pub momentum : {E : Type 0} → Momenta E → ℕ → Four E
momentum p zero = p.first
momentum p (suc zero) = p.first
momentum p (suc (suc zero)) = p.second
momentum p (suc (suc (suc zero))) = p.third
momentum p (suc (suc (suc (suc n)))) = p.fourth

-- the slot that a number in the line of a structure means: `vvv` and `gluon4` count in reading order
abbrev pub slot_of : Structure → Reading → ℕ → ℕ
slot_of Vvv r n = read r n
slot_of Gluon4 r n = read r n
slot_of _ r n = n

module _ {E : Type 0} (o : Ops E) where
  open o use {plus as ◌⊕◌, minus as ⊖◌, times as ◌⊗◌}

  infixl 60 ◌⊕◌
  infix 65 ⊖◌
  infixl 70 ◌⊗◌
  -- g_jk, where i gives the indices
  abbrev pub g : (ℕ → ℕ) → ℕ → ℕ → E
  g i j k = metric o (i j) (i k)

  -- (p_j - p_k)_n, with the lower index of n
  abbrev pub difference : (ℕ → Four E) → (ℕ → ℕ) → ℕ → ℕ → ℕ → E
  difference p i j k n = lower_at o (i n) (upper (p j) (i n) ⊕ ⊖ upper (p k) (i n))

  -- a + b gamma5
  abbrev pub chiral : Factors E → ℕ → ℕ → E
  chiral f row column = f.a ⊗ unit o row column ⊕ f.b ⊗ gamma5 o row column

  -- 2 x
  abbrev pub double : E → E
  double x = x ⊕ x

  -- the table of the structures: f are the factors, p n is the momentum that enters through slot n, i n is its index
  abbrev pub structure_entry : Structure → Factors E → (ℕ → Four E) → (ℕ → ℕ) → E
  structure_entry Sss f p i = f.a
  structure_entry Ssss f p i = f.a
  structure_entry Vss f p i = f.a ⊗ difference p i 2 3 1
  structure_entry Vvs f p i = f.a ⊗ g i 1 2
  structure_entry Vvss f p i = f.a ⊗ g i 1 2
  structure_entry Ffs f p i = chiral f (i 1) (i 2)
  structure_entry Ffv f p i = product o (gamma o (i 3)) (chiral f) (i 1) (i 2)
  structure_entry Vvv f p i = f.a ⊗ (g i 1 2 ⊗ difference p i 1 2 3 ⊕ g i 2 3 ⊗ difference p i 2 3 1 ⊕ g i 3 1 ⊗ difference p i 3 1 2)
  structure_entry Vvvv f p i = f.a ⊗ g i 1 2 ⊗ g i 3 4 ⊕ f.b ⊗ g i 1 3 ⊗ g i 2 4 ⊕ f.c ⊗ g i 1 4 ⊗ g i 2 3
  structure_entry Gluon4 f p i = f.a ⊗ (double (g i 1 3 ⊗ g i 2 4) ⊕ ⊖ (g i 1 2 ⊗ g i 3 4) ⊕ ⊖ (g i 1 4 ⊗ g i 2 3))

  -- the vertex entry at the indices i of the slots, without the leading i
  abbrev pub entry : Structure → Reading → Factors E → Momenta E → List ℕ → E
  entry s r f p i = structure_entry s f (λ n. momentum p (slot_of s r n)) (λ n. index i (slot_of s r n))
