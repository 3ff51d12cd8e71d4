-- Laws of the canonical graph, as statements.
use Rattle.std.specs.Prelude.{◌≡◌, ℕ, map, true, ◌↔◌}
use Rattle.om_ring.specs.Members.{In}
use Rattle.om_ring.specs.Ops.{Ops}
use Rattle.om_colour.specs.declared.Flow.{Flow}
use Rattle.om_model.specs.declared.model.Model.{Model}
use Rattle.om_model.specs.declared.process.Process.{Process}
use Rattle.om_model.specs.Model.{scattering_of}
use Rattle.om_model.specs.ModelLines.{colours_of, lines_of}
use Rattle.om_model.specs.FeynmanRules.{Table}
use Rattle.om_model.specs.Entries.{feynman_rules}
use Rattle.om_model.specs.Tree.{Tree}
use Rattle.om_model.specs.Diagrams.{counts}
use Rattle.om_model.specs.Opened.{opened_at_top}
use Rattle.om_model.specs.ColourLines.{flow_at}
use Rattle.om_model.specs.Outward.{IsOutwardEdge}
use Rattle.om_model.specs.Event.{Event}
use Rattle.om_model.specs.Answer.{Answer, IsAnswer}
use Rattle.om_graph.specs.declared.Graph.{Graph}
use Rattle.om_graph.specs.declared.Key.{Key}
use Rattle.om_graph.specs.Graph.{Numbered}
use Rattle.om_graph.specs.Possible.{IsPossible, unsigned, unsigned_key}
use Rattle.om_graph.specs.Reactions.{reaction_of}
use Rattle.om_model.specs.WellFormed.{IsWellFormed}
use Rattle.om_model.specs.ProcessOf.{IsProcessOf}
use Rattle.om_keystone.specs.Built.{IsBuilt}
use Rattle.om_keystone.specs.CanonicalGraph.{IsCanonicalOf}
use Rattle.om_keystone.specs.EdgeRules.{name_of}
use Rattle.om_keystone.specs.NodeWaves.{part_of, AreNodeWaves, GraphAnswers}
use Rattle.om_keystone.specs.PartOf.{IsPartOf}
use Rattle.om_keystone.specs.VertexTerms.{edge_of, IsVertexOf, IsKeystoneOf}
use Rattle.om_keystone.specs.NodeNames.{IsNamed}

module _ (Holds : Model → Process → Graph → Type 0) where
  -- said of the canonical graph of each process over a well-formed model
  abbrev pub OfCanonicalGraphs : Type 0
  OfCanonicalGraphs =
      (m : Model) (p : Process) → IsWellFormed m → IsProcessOf m p → (g : Graph) → IsCanonicalOf (reaction_of m p) g → Holds m p g

-- what the canonical graph has stands in the possible graph
abbrev pub CanonicalIsPartOfPossible : Type 0
CanonicalIsPartOfPossible = OfCanonicalGraphs (λ m p g. (whole : Graph) → IsPossible (reaction_of m p) whole → IsPartOf whole g)

-- its nodes are just the outward edges of the diagrams that count
abbrev pub NodesAreEdges : Type 0
NodesAreEdges = OfCanonicalGraphs (λ m p g. (k : Key)
    → In k g.nodes ↔ ((t : Tree) × (counts (scattering_of m p) t ≡ true) × IsOutwardEdge (scattering_of m p) (colours_of m) t (edge_of k)))

-- its flows are just their flows
abbrev pub FlowsAreTheirs : Type 0
FlowsAreTheirs = OfCanonicalGraphs (λ m p g. let s = scattering_of m p in (w : Flow)
    → In w g.flows ↔ ((t : Tree) × (counts s t ≡ true) × (w ≡ flow_at s (colours_of m) (opened_at_top s t))))

-- its terms are just their vertices other than keystones
abbrev pub TermsAreVertices : Type 0
TermsAreVertices = OfCanonicalGraphs (λ m p g. (x : Numbered) → In x (map unsigned g.terms) ↔ IsVertexOf (reaction_of m p) g x)

-- its keystone terms are just their keystones
abbrev pub KeysAreKeystones : Type 0
KeysAreKeystones = OfCanonicalGraphs (λ m p g. (y : Numbered) → In y (map unsigned_key g.keys) ↔ IsKeystoneOf (reaction_of m p) g y)

-- the edges above its nodes have these names
abbrev pub NodesHaveNames : Type 0
NodesHaveNames = OfCanonicalGraphs (λ m p g. (k : Key)
    → In k g.nodes → IsNamed (scattering_of m p) k (name_of (scattering_of m p) (part_of k)))

-- it can be built node by node
abbrev pub CanonicalIsBuilt : Type 0
CanonicalIsBuilt = OfCanonicalGraphs (λ m p g. IsBuilt g)

-- its nodes have wave functions, with the numbers of any table
abbrev pub NodesHaveWaves : {E : Type 0} → Ops E → Type 0
NodesHaveWaves {E} o = OfCanonicalGraphs (λ m p g. (t : Table E) (e : Event E)
    → (wave : ℕ → ℕ → E) × AreNodeWaves o (scattering_of m p) (feynman_rules o m t) e g wave)

-- The answer of the canonical graph, with the numbers of any table, is the answer to the event: the sum over all diagrams of each flow is
-- the sum over its keystone terms, and the poles of the diagrams are those of the inner nodes.
abbrev pub CanonicalGraphGivesAnswer : {E : Type 0} → Ops E → Type 0
CanonicalGraphGivesAnswer {E} o = OfCanonicalGraphs (λ m p g. (t : Table E) (e : Event E) (wave : ℕ → ℕ → E)
    → AreNodeWaves o (scattering_of m p) (feynman_rules o m t) e g wave
    → (a : Answer E) → GraphAnswers o (scattering_of m p) (feynman_rules o m t) e g wave a
    ↔ IsAnswer o (scattering_of m p) (feynman_rules o m t) (lines_of m p) e a)
