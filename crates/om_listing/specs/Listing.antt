-- The listing of a graph: its lines, each of them words with single spaces between.
use Rattle.std.specs.Prelude.{ℕ, eqb, List, [], ◌∷◌, ◌++◌, length, map, filter, flat_map, decimal, codes}
use Rattle.std.specs.List.{enumerate_from}
use Rattle.om_io.specs.Lines.{Words, lines_text}
use Rattle.om_colour.specs.declared.Flow.{Flow}
use Rattle.om_colour.specs.Texts.{flow_bytes, partial_bytes}
use Rattle.om_model.specs.declared.model.Particle.{Particle}
use Rattle.om_model.specs.declared.model.Model.{Model}
use Rattle.om_model.specs.FieldNames.{field_name}
use Rattle.om_model.specs.LegSetText.{leg_set_word}
use Rattle.om_model.specs.TermText.{place_word, term_words}
use Rattle.om_graph.specs.declared.Graph.{Graph}
use Rattle.om_graph.specs.declared.Key.{Key}
use Rattle.om_graph.specs.declared.KeyTerm.{KeyTerm}
use Rattle.om_graph.specs.declared.Term.{Term}

-- how many of each there are
abbrev pub head_words : Graph → Words
head_words g =
    codes "graph" ∷ codes "nodes" ∷ decimal (length g.nodes)
    ∷ codes "fusions" ∷ decimal (length g.terms)
    ∷ codes "keystones" ∷ decimal (length g.keys) ∷ codes "flows" ∷ decimal (length g.flows) ∷ []

-- the flow that has number j
abbrev pub flow_words : ℕ → Flow → Words
flow_words j w = codes "flow" ∷ place_word j ∷ flow_bytes w ∷ []

-- the node that has number j
abbrev pub node_words : List Particle → ℕ → Key → Words
node_words particles j k =
    codes "node" ∷ place_word j ∷ leg_set_word k.legs ∷ field_name particles k.field ∷ partial_bytes k.partial ∷ []

abbrev pub fusion_words : Term → Words
fusion_words x = codes "fusion" ∷ term_words x.node x.minus x.vertex x.choice x.branches

abbrev pub keystone_words : KeyTerm → Words
keystone_words y = codes "keystone" ∷ term_words y.flow y.minus y.vertex y.choice y.branches

-- the terms that make the node that has number j
abbrev pub fusions_of : List Term → ℕ → List Term
fusions_of terms j = filter (λ (x : Term). eqb x.node j) terms

-- the node that has number j, and then each fusion that makes it
abbrev pub node_lines : List Particle → List Term → ℕ → Key → List Words
node_lines particles terms j k = node_words particles j k ∷ map fusion_words (fusions_of terms j)

-- the head, all flows, each node with its fusions, all keystones
abbrev pub listing_lines : Model → Graph → List Words
listing_lines m g =
    head_words g
    ∷ map (λ (f : ℕ × Flow). flow_words f.0 f.1) (enumerate_from 0 g.flows)
    ++ flat_map (λ (n : ℕ × Key). node_lines m.particles g.terms n.0 n.1) (enumerate_from 0 g.nodes)
    ++ map keystone_words g.keys

abbrev pub listing : Model → Graph → List ℕ
listing m g = lines_text (listing_lines m g)
