-- The rules of a model, by the keys of what meets.
use Rattle.std.specs.Prelude.{◌≡◌, ℕ, List, ◌∷◌, map, Bool, false, ◌↔◌}
use Rattle.om_ring.specs.Members.{In}
use Rattle.om_ring.specs.Ops.{Ops}
use Rattle.om_model.specs.Theory.{Scattering}
use Rattle.om_model.specs.Tree.{Tree, Branches}
use Rattle.om_model.specs.Tree.Tree.{leaf, join}
use Rattle.om_model.specs.Tree.Branches.{none, and}
use Rattle.om_model.specs.Parts.{Part, part}
use Rattle.om_model.specs.Event.{Event, Balances}
use Rattle.om_model.specs.FeynmanRules.{FeynmanRules}
use Rattle.om_model.specs.Propagator.{EdgeName, inner_edges, edge_name}
use Rattle.om_model.specs.Lines.{Lines}
use Rattle.om_model.specs.Value.{vertex_entry, sum_at_vertex, value}
use Rattle.om_model.specs.Opened.{Opened}
use Rattle.om_model.specs.Inversions.{xor}
use Rattle.om_graph.specs.Fusion.{Fusion, HasKey, HaveKeys}
use Rattle.om_keystone.specs.InDiagrams.{IsOpened}
use Rattle.om_keystone.proofs.Standing.{Stands}
use Rattle.om_keystone.specs.EdgeRules.{opposite, with_indices, propagator_of}
use Rattle.om_keystone.proofs.KeyedWaves.{KeyRules}

-- What a vertex sees of the edge of a node, and the signs of vertices, by keys: whether the sign of a vertex row is -1 at which
-- branches with these keys make a node, and whether that of a keystone is.
pub record KeyView (K : Type 0) : Type 0 where
  pub part : K → Part
  pub minus : ℕ → K → List K → Bool
  pub closed_minus : ℕ → List K → Bool

module _ {E K : Type 0} (o : Ops E) (s : Scattering) (r : FeynmanRules E) (e : Event E) (view : KeyView K) where
  -- the Feynman rules by keys
  abbrev pub model_rules : KeyRules E K
  model_rules = record {
    indices = λ k. r.indices (view.part k).field;
    leg = e.wave;
    fused = λ v c k ks j is. vertex_entry o s r e v c ((opposite s (view.part k), j) ∷ with_indices (map view.part ks) is);
    propagator = λ k. propagator_of o s r e (view.part k);
    closed = λ v c ks is. vertex_entry o s r e v c (with_indices (map view.part ks) is);
    minus = view.minus;
    closed_minus = view.closed_minus;
  }

-- the product of the signs of the vertices of some branches
unfoldable pub odd_all : (Tree → Bool) → Branches → Bool
odd_all odd none = false
odd_all odd (and t bs) = xor (odd t) (odd_all odd bs)

module _ {K F : Type 0} (p : Fusion K F) (view : KeyView K) where
  -- the product of the signs of the vertices of a tree
  pub record AreSigns (odd : Tree → Bool) : Type 0 where
    pub at_leg : (j : ℕ) → odd (leaf j) ≡ false
    pub at_join : (f v c : ℕ) (bs : Branches) (ks : List K) (k : K) → HaveKeys p bs ks → p.fuses f v c ks k → odd (join f v c bs) ≡ xor (view.minus v k ks) (odd_all odd bs)

  -- a key shows what a vertex sees of a tree with that key, and legs have the fields of the process
  abbrev pub ShowsParts : Scattering → Type 0
  ShowsParts s = (t : Tree) (k : K) → HasKey p t k → part s t ≡ view.part k

-- no leaf
pub data IsJoin : Tree → Type 0 where
  is_join : {f v c : ℕ} {bs : Branches} → IsJoin (join f v c bs)

-- an inner edge of a tree has this name
abbrev pub HasEdge : Scattering → Tree → EdgeName → Type 0
HasEdge s t name = (u : Tree) × In u (inner_edges t) × (name ≡ edge_name s u)

-- an inner edge of what hangs from a vertex has this name
abbrev pub HasEdgeBelow : Scattering → Branches → EdgeName → Type 0
HasEdgeBelow s bs name = (u : Tree) × Stands u bs × IsJoin u × (name ≡ edge_name s u)

-- The diagrams of the process, each opened at its keystone: opening is one to one, and there the value, the sign, the flow and
-- the inner edges of the diagram are found.
module _ {E K F : Type 0} (o : Ops E) (s : Scattering) (r : FeynmanRules E) (w : Lines) (e : Event E) (p : Fusion K F) (view : KeyView K) (ends : F → List ℕ) where
  pub record AreOpenedDiagrams (odd : Tree → Bool) (hung : Opened → Tree) (ts : List Tree) : Type 0 where
    pub is_diagram : (a : Opened) (u : F) → IsOpened p a u → In (hung a) ts
    pub has_keystone : (t : Tree) → In t ts → (a : Opened) × (u : F) × IsOpened p a u × (hung a ≡ t)
    pub one_keystone : (a b : Opened) (u v : F) → IsOpened p a u → IsOpened p b v → hung a ≡ hung b → a ≡ b
    pub value : (a : Opened) (u : F) → IsOpened p a u → Balances o e s.size → value o s r e false (hung a) ≡ sum_at_vertex o s r e a.vertex a.choice a.parts
    pub sign : (a : Opened) (u : F) (h : IsOpened p a u) → w.is_odd (hung a) ≡ xor (view.closed_minus a.vertex h.keys) (odd_all odd a.parts)
    pub flow : (a : Opened) (u : F) → IsOpened p a u → w.flow (hung a) ≡ ends u
    pub edges : (a : Opened) (u : F) → IsOpened p a u → (name : EdgeName) → HasEdge s (hung a) name ↔ HasEdgeBelow s a.parts name
