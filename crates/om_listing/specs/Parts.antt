-- The parts in which the lines of a listing are written.
use Rattle.std.specs.Prelude.{ℕ, List, [], ◌∷◌, ◌++◌, flat_map}
use Rattle.std.specs.List.{enumerate_from}
use Rattle.om_io.specs.Lines.{line_text}
use Rattle.om_colour.specs.declared.Flow.{Flow}
use Rattle.om_model.specs.declared.model.Particle.{Particle}
use Rattle.om_model.specs.declared.model.Model.{Model}
use Rattle.om_graph.specs.declared.Graph.{Graph}
use Rattle.om_graph.specs.declared.Key.{Key}
use Rattle.om_graph.specs.declared.Term.{Term}
use Rattle.om_listing.specs.Listing.{flow_words, fusion_words, fusions_of, head_words, keystone_words, node_words}

abbrev pub flow_part : ℕ × Flow → List ℕ
flow_part f = line_text (flow_words f.0 f.1)

abbrev pub node_line : List Particle → ℕ → Key → List ℕ
node_line particles j k = line_text (node_words particles j k)

abbrev pub fusion_lines : List Term → List ℕ
fusion_lines terms = flat_map (λ x. line_text (fusion_words x)) terms

abbrev pub node_part : List Particle → List Term → ℕ × Key → List ℕ
node_part particles terms n = node_line particles n.0 n.1 ++ fusion_lines (fusions_of terms n.0)

abbrev pub flow_parts : List Flow → List ℕ
flow_parts flows = flat_map flow_part (enumerate_from 0 flows)

abbrev pub node_parts : List Particle → List Term → List Key → List ℕ
node_parts particles terms nodes = flat_map (node_part particles terms) (enumerate_from 0 nodes)

-- the whole listing
abbrev pub listing_parts : Model → Graph → List (List ℕ)
listing_parts m g =
    line_text (head_words g)
    ∷ flow_parts g.flows
    ∷ node_parts m.particles g.terms g.nodes
    ∷ flat_map (λ y. line_text (keystone_words y)) g.keys ∷ []
