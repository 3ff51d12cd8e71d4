-- The parts of a listing make the listing.
use Rattle.std.proofs.Common.{◌≡◌, ℕ, List, [], ◌∷◌, ◌++◌, map, flat_map, refl, sym, ap, ap₂, ◌∙◌, append_assoc, append-nil}
use Rattle.std.specs.List.{enumerate_from}
use Rattle.std.proofs.lemmas.List.Folds.{flat_map-map}
use Rattle.std.proofs.lemmas.Grind.{flat_map-append}
use Rattle.om_colour.specs.declared.Flow.{Flow}
use Rattle.om_model.specs.declared.model.Particle.{Particle}
use Rattle.om_model.specs.declared.model.Model.{Model}
use Rattle.om_graph.specs.declared.Graph.{Graph}
use Rattle.om_graph.specs.declared.Key.{Key}
use Rattle.om_graph.specs.declared.Term.{Term}
use Rattle.om_io.specs.Lines.{Words, line_text, lines_text}
use Rattle.om_io.specs.Writing.{all_of}
use Rattle.om_listing.specs.Listing.{flow_words, fusion_words, fusions_of, head_words, keystone_words, listing, node_lines, node_words}
use Rattle.om_listing.specs.Parts.{flow_parts, listing_parts, node_part, node_parts}

lines_of : {A : Type 0} (words : A → Words) (xs : List A) → lines_text (map words xs) ≡ flat_map (λ x. line_text (words x)) xs
lines_of words xs = flat_map-map line_text words xs

node_text : (particles : List Particle) (terms : List Term) (n : ℕ × Key) → lines_text (node_lines particles terms n.0 n.1) ≡ node_part particles terms n
node_text particles terms n = ap (λ t. line_text (node_words particles n.0 n.1) ++ t) (lines_of fusion_words (fusions_of terms n.0))

nodes_text : (particles : List Particle) (terms : List Term) (ns : List (ℕ × Key))
    → lines_text (flat_map (λ (n : ℕ × Key). node_lines particles terms n.0 n.1) ns) ≡ flat_map (node_part particles terms) ns
nodes_text particles terms [] = refl
nodes_text particles terms (n ∷ ns) =
    flat_map-append line_text (node_lines particles terms n.0 n.1) (flat_map (λ (m : ℕ × Key). node_lines particles terms m.0 m.1) ns)
    ∙ ap₂ ◌++◌ (node_text particles terms n) (nodes_text particles terms ns)

lines_both : (a b : List Words) (s t : List ℕ) → lines_text a ≡ s → lines_text b ≡ t → lines_text (a ++ b) ≡ s ++ t
lines_both a b s t e f = flat_map-append line_text a b ∙ ap₂ ◌++◌ e f

regroup : (h f n k : List ℕ) → ((h ++ f) ++ n) ++ k ≡ all_of (h ∷ f ∷ n ∷ k ∷ [])
regroup h f n k = simp (append_assoc, append-nil)

pub listing_of_parts : (m : Model) (g : Graph) → all_of (listing_parts m g) ≡ listing m g
listing_of_parts m g =
    let flow_line = λ (f : ℕ × Flow). flow_words f.0 f.1 in
    let head = line_text (head_words g) in
    let flows = head_words g ∷ map flow_line (enumerate_from 0 g.flows) in
    let nodes = flat_map (λ (n : ℕ × Key). node_lines m.particles g.terms n.0 n.1) (enumerate_from 0 g.nodes) in
    let f = ap (λ t. head ++ t) (lines_of flow_line (enumerate_from 0 g.flows)) in
    let n = lines_both flows nodes _ _ f (nodes_text m.particles g.terms (enumerate_from 0 g.nodes)) in
    let k = lines_both (flows ++ nodes) (map keystone_words g.keys) _ _ n (lines_of keystone_words g.keys) in
    sym (k ∙ regroup head (flow_parts g.flows) (node_parts m.particles g.terms g.nodes) (flat_map (λ y. line_text (keystone_words y)) g.keys))
