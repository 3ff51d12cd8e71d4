-- What the nodes of a graph hold, whatever that is, and the sums of its keystones: W is what a node holds, S are the sums.
use Rattle.std.specs.Prelude.{◌≡◌, ℕ, suc, List, [], ◌∷◌, map, if◌then◌else◌}
use Rattle.om_legs.specs.Legs.{least}
use Rattle.om_graph.specs.declared.Key.{Key}
use Rattle.om_graph.specs.declared.Term.{Term}
use Rattle.om_graph.specs.declared.KeyTerm.{KeyTerm}
use Rattle.om_keystone.specs.Built.{is_inner, terms_at}
use Rattle.om_legs.specs.BranchNodes.{nodes_of}
use Rattle.om_code.specs.Ops.{Meaning}
use Rattle.om_emit.specs.NodeCode.{gathered}

module _ {W S : Type 0} (plus : W → W → W) (blank : W) (m : Meaning W S) where
  -- what a term makes of what its branches hold
  abbrev pub term_content : (ℕ → W) → Term → W
  term_content held t = m.fused t.minus t.vertex t.choice (map held (nodes_of t.branches))

  -- what a node holds, by what its branches hold: a leg what is loaded; an inner node its terms, added one after the other, and then
  -- propagated
  unfoldable pub node_content : (Key → ℕ) → List Term → (ℕ → W) → ℕ → Key → W
  node_content den terms held k node = if is_inner node
      then m.moved (den node) (gathered plus blank (map (term_content held) (terms_at terms k)))
      else m.loaded (least node.legs)

  -- the nodes from number k on hold this
  abbrev pub AreNodeContents : (Key → ℕ) → List Term → (ℕ → W) → ℕ → List Key → Type 0
  AreNodeContents den terms held k [] = Unit {0}
  AreNodeContents den terms held k (node ∷ nodes) =
      (held k ≡ node_content den terms held k node) × AreNodeContents den terms held (suc k) nodes

-- what the keystones add up to
unfoldable pub closed_sums : {W S : Type 0} → Meaning W S → (ℕ → W) → S → List KeyTerm → S
closed_sums m held sums [] = sums
closed_sums m held sums (t ∷ ts) = closed_sums m held (m.closed t.flow t.minus t.vertex t.choice (map held (nodes_of t.branches)) sums) ts
