-- What has a key: the sides of edges that may hang from a keystone.
use Rattle.std.specs.Prelude.{◌≡◌, ℕ, ◌+◌, ◌≤◌, Some, List, [], ◌∷◌, map, false, true, ◌↔◌}
use Rattle.om_ring.specs.Members.{In}
use Rattle.om_legs.specs.Legs.{IsLegSet, holds}
use Rattle.om_colour.specs.Fitting.{IsPartialBehind}
use Rattle.om_model.specs.Parts.{within}
use Rattle.om_model.specs.Tree.{Tree, Branches, legs}
use Rattle.om_model.specs.Tree.Branches.{none, and}
use Rattle.om_model.specs.Diagram.{field_of}
use Rattle.om_model.specs.FermionLines.{Kinds, HasFermionLines, is_fermion}
use Rattle.om_model.specs.ColourLines.{Colours, HasColourLines, partial_flow}
use Rattle.om_model.specs.KeystoneForm.{HasFields}
use Rattle.om_model.specs.Keystone.{is_heavy}
use Rattle.om_model.specs.Spelled.{IsSubtree}
use Rattle.om_model.specs.EdgeLaw.{IsProper, is_uncut_in}
use Rattle.om_model.specs.LegSets.{leg_set}
use Rattle.om_graph.specs.declared.Key.{Key}
use Rattle.om_graph.specs.Fusion.{HasKey, IsNode}
use Rattle.om_graph.specs.Vertices.{Reaction, fusion}

-- the colours and the choices of a reaction
abbrev pub colours_in : Reaction → Colours
colours_in r = record { colour = r.colour; choice = r.choice }

-- A reaction as a process over an accepted model has it: the laws of its theory, 3 to 12 legs, named sets of 2 to all but 2 of them,
-- and the legs that are fermions.
pub record IsReaction (r : Reaction) (kinds : Kinds) : Type 0 where
  pub fields : HasFields r.scattering.theory
  pub colours : HasColourLines r.scattering.theory (colours_in r)
  pub lines : HasFermionLines r.scattering.theory kinds
  pub least : 3 ≤ r.scattering.size
  pub most : r.scattering.size ≤ 12
  pub named : r.scattering.edges ≡ map holds r.edges
  pub sets : (e : ℕ) → In e r.edges → IsLegSet e
  pub proper : (e : ℕ) → In e r.edges → IsProper r.scattering.size (holds e)
  pub bounded : (e k : ℕ) → In e r.edges → holds e k ≡ true → within r.scattering.size k ≡ true
  pub fermion_set : IsLegSet r.fermions
  pub fermions : (k : ℕ) → within r.scattering.size k ≡ true → holds r.fermions k ≡ is_fermion kinds (r.scattering.field k)

module _ (r : Reaction) where
  -- the key of what hangs from an edge: its legs, the field that leaves it and its partial flow
  abbrev pub key_of : Tree → Key
  key_of t = record { legs = leg_set t; field = field_of r.scattering t; partial = partial_flow r.scattering (colours_in r) t }

  unfoldable pub keys_of : Branches → List Key
  keys_of none = []
  keys_of (and t bs) = key_of t ∷ keys_of bs

  -- a subtree that may hang from a keystone, and at none of whose vertices a named set is cut
  pub record IsSide (t : Tree) : Type 0 where
    pub subtree : IsSubtree r.scattering t
    pub light : is_heavy r.scattering.size (legs t) ≡ false
    pub uncut : (e : ℕ) → In e r.edges → is_uncut_in r.scattering.size (holds e) t ≡ true

-- just the sides have a key, each its own
abbrev pub SidesHaveKeys : Type 0
SidesHaveKeys = (r : Reaction) (kinds : Kinds) → IsReaction r kinds → (t : Tree) (k : Key) → HasKey (fusion r) t k ↔ (IsSide r t × (k ≡ key_of r t))

-- a key whose lines fit its set and the colour of its field: they start and end at its legs, and over its edge lines go as at a leg of
-- that colour
abbrev pub IsSoundKey : Reaction → Key → Type 0
IsSoundKey r k = IsPartialBehind (λ j. holds k.legs (j + 1)) (r.colour k.field) (Some k.partial)

abbrev pub NodesAreSound : Type 0
NodesAreSound = (r : Reaction) (kinds : Kinds) → IsReaction r kinds → (k : Key) → IsNode (fusion r) k → IsSoundKey r k
