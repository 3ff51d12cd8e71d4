-- The canonical graph of a process over its model: what pruning leaves, and its answer.
use Rattle.std.proofs.Common.{ℕ, map, ◌↔◌}
use Rattle.om_ring.specs.Ops.{Ops, Laws}
use Rattle.om_legs.specs.Legs as sets
use Rattle.om_model.specs.declared.model.Model.{Model}
use Rattle.om_model.specs.declared.process.Process.{Process}
use Rattle.om_model.specs.Model.{scattering_of}
use Rattle.om_model.specs.ModelLines.{kinds_of, lines_of}
use Rattle.om_model.specs.FermionLines.{Kinds}
use Rattle.om_model.specs.FeynmanRules.{Table}
use Rattle.om_model.specs.Entries.{feynman_rules}
use Rattle.om_model.specs.WellFormed.{IsWellFormed}
use Rattle.om_model.specs.Event.{Event}
use Rattle.om_model.specs.Answer.{Answer, IsAnswer}
use Rattle.om_model.proofs.AllDiagrams.{diagrams, diagrams_are}
use Rattle.om_model.proofs.TwoSided.{models_are_two_sided}
use Rattle.om_graph.specs.declared.Graph.{Graph}
use Rattle.om_graph.specs.declared.Key.{Key}
use Rattle.om_graph.specs.Vertices.{Reaction, fusion}
use Rattle.om_graph.specs.Reactions.{reaction_of}
use Rattle.om_model.specs.ProcessOf.{IsProcessOf}
use Rattle.om_graph.specs.Possible.{key_lt, flow_lt, unsigned, unsigned_key, IsPossible}
use Rattle.om_graph.specs.TreeKeys.{IsReaction}
use Rattle.om_graph.proofs.Orders.{key_order}
use Rattle.om_graph.proofs.HaveReactions.{well_formed_have_reactions}
use Rattle.om_keystone.specs.CanonicalGraph.{IsCanonicalOf}
use Rattle.om_keystone.specs.Pruning.{IsReachedPart}
use Rattle.om_keystone.proofs.ModelRules.{model_rules}
use Rattle.om_keystone.proofs.NumberedAnswer.{AreWavesAt, NumberedAnswers}
use Rattle.om_keystone.proofs.SignsKept as kept
use Rattle.om_keystone.proofs.View.{key_view, flow_ends}
use Rattle.om_keystone.proofs.Settled.{is_settled, branches_first, has_signs}
use Rattle.om_keystone.proofs.Telling.{graph_answers}

pub pruned_is_canonical_of : (r : Reaction) (kinds : Kinds) → IsReaction r kinds → (old new : Graph) → IsPossible r old → IsReachedPart old new → IsCanonicalOf r new
pruned_is_canonical_of r kinds is old new possible reached =
    let settled = is_settled r kinds is in
    record {
      graph = kept.is_canonical (fusion r) key_lt key_order flow_lt (λ (k : Key). sets.size k.legs) settled (branches_first r) (key_view r).minus (key_view r).closed_minus old new reached possible.graph (has_signs r old possible);
      signs = kept.has_signs (fusion r) key_lt key_order flow_lt (λ (k : Key). sets.size k.legs) settled (branches_first r) (key_view r).minus (key_view r).closed_minus old new reached possible.graph (has_signs r old possible);
    }

-- the answer by numbers, with the signs that the keys give, is the answer to the event
pub keyed_answers : {E : Type 0} (o : Ops E) → Laws o → (m : Model) (p : Process) → IsWellFormed m → IsProcessOf m p → (g : Graph) → IsCanonicalOf (reaction_of m p) g → (t : Table E) (e : Event E) (wave : ℕ → ℕ → E)
    → AreWavesAt o (model_rules o (scattering_of m p) (feynman_rules o m t) e (key_view (reaction_of m p))) g.nodes (fusion (reaction_of m p)) (map unsigned g.terms) wave
    → (a : Answer E) → NumberedAnswers o (scattering_of m p) (feynman_rules o m t) e (fusion (reaction_of m p)) (key_view (reaction_of m p)) flow_ends g.nodes (map unsigned_key g.keys) g.flows wave a
    ↔ IsAnswer o (scattering_of m p) (feynman_rules o m t) (lines_of m p) e a
keyed_answers o l m p formed is g graph t e wave waves a =
    graph_answers (reaction_of m p) (kinds_of m.particles) (well_formed_have_reactions m p formed is) o l (feynman_rules o m t) (models_are_two_sided o l m t formed) e
    g.nodes (map unsigned g.terms) (map unsigned_key g.keys) g.flows graph.graph (diagrams (scattering_of m p)) (diagrams_are (scattering_of m p)) wave waves a
