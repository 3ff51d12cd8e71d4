-- What the code of a canonical graph means is the answer to the event.
use Rattle.std.proofs.Common.{◌≡◌, ◌↔◌, ℕ, zero, suc, [], ◌∷◌, length, ◌⊎◌, inl, inr, refl, ap, sym, subst, ◌∙◌}
use Rattle.om_ring.specs.Ops.{Ops, Laws}
use Rattle.om_model.specs.declared.model.Model.{Model}
use Rattle.om_model.specs.declared.process.Process.{Process}
use Rattle.om_model.specs.Answer.{Answer, IsAnswer}
use Rattle.om_model.specs.Answer.Answer.{unbalanced, pole, values}
use Rattle.om_model.specs.Entries.{feynman_rules}
use Rattle.om_model.specs.Event.{Balances}
use Rattle.om_model.specs.FeynmanRules.{Table}
use Rattle.om_model.specs.Model.{scattering_of}
use Rattle.om_model.specs.ModelLines.{lines_of}
use Rattle.om_model.specs.ModelTable.{model_table}
use Rattle.om_model.specs.ProcessOf.{IsProcessOf}
use Rattle.om_model.specs.WellFormed.{IsWellFormed}
use Rattle.om_model.proofs.OneAnswer.{one_answer}
use Rattle.om_graph.specs.declared.Graph.{Graph}
use Rattle.om_graph.specs.Reactions.{reaction_of}
use Rattle.om_keystone.specs.CanonicalGraph.{IsCanonicalOf}
use Rattle.om_keystone.specs.NodeWaves.{AreNodeWaves, GraphAnswers}
use Rattle.om_keystone.proofs.GraphAnswer.{canonical_graph_gives_answer}
use Rattle.om_keystone.proofs.WavesExist.{nodes_have_waves}
use Rattle.om_code.specs.declared.code.Code.{Code}
use Rattle.om_code.specs.Meaning.{MachineAnswer, IsMeaning, IsFirstPole, HaveInverses, sums_of}
use Rattle.om_code.specs.Meaning.MachineAnswer.{unbalanced as machine_unbalanced, pole as machine_pole, values as machine_values}
use Rattle.om_code.specs.Rules.{size_of}
use Rattle.om_code.specs.Waves.{Incoming, event_of}
use Rattle.om_machine.specs.Events.{IsMadeFor}
use Rattle.om_machine.specs.Loaded.{answer_of}
use Rattle.om_machine.proofs.TableMeaning.{same-meaning}
use Rattle.om_emit.specs.EmittedAnswer.{EmittedCodeGivesAnswer, EvaluatedIsAnswer, MeansAnswer, SumsStandAtFlows, answer_with, with_sums}
use Rattle.om_emit.specs.GraphCode.{IsCodeOf}
use Rattle.om_emit.proofs.AnswerPoles.{all-or-first, first-pole, no-pole}
use Rattle.om_emit.proofs.AnswerSums.{flows-are}
use Rattle.om_emit.proofs.GraphHelds.{as_many_legs}

module _ {E : Type 0} (o : Ops E) (l : Laws o) (c : Code) (p : Process) (formed : IsWellFormed c.model) (of : IsProcessOf c.model p) (g : Graph) (canonical : IsCanonicalOf (reaction_of c.model p) g)
    (code : IsCodeOf c.model p g c) (t : Table E) (e : Incoming E) (made : IsMadeFor c e) where
  abbrev IsTheirs : Answer E → Type 0
  IsTheirs a = IsAnswer o (scattering_of c.model p) (feynman_rules o c.model t) (lines_of c.model p) (event_of o e) a

  sized : size_of c ≡ length p.legs
  sized = as_many_legs c.model p formed of g canonical c code

  module _ (wave : ℕ → ℕ → E) (are : AreNodeWaves o (scattering_of c.model p) (feynman_rules o c.model t) (event_of o e) g wave) where
    graph_answers : (a : MachineAnswer E) → IsMeaning o c t e a → GraphAnswers o (scattering_of c.model p) (feynman_rules o c.model t) (event_of o e) g wave (answer_with c.flows a)
    graph_answers machine_unbalanced h = λ balanced. h (subst (Balances o (event_of o e)) (sym sized) balanced)
    graph_answers (machine_pole d) h =
        let first = first-pole o l c p formed of g canonical code t e wave d h.1 in (subst (Balances o (event_of o e)) sized h.0, first.0, first.1)
    graph_answers (machine_values xs) h =
        let balanced = subst (Balances o (event_of o e)) sized h.0 in
        (balanced, no-pole o l c p formed of g canonical code t e wave h.1, ap (λ ys. with_sums c.flows ys) h.2 ∙ flows-are o l c p formed of g canonical code t e wave made are balanced)

    is_answer : (a : MachineAnswer E) → IsMeaning o c t e a → IsTheirs (answer_with c.flows a)
    is_answer a h = (canonical_graph_gives_answer o l c.model p formed of g canonical t (event_of o e) wave are (answer_with c.flows a)).0 (graph_answers a h)

    -- an event that balances has a meaning
    balanced_meaning : Balances o (event_of o e) (size_of c) → (a : MachineAnswer E) × IsMeaning o c t e a
    balanced_meaning balanced = by (all-or-first o c t e c.dens)
      where
        by : HaveInverses o c t e c.dens ⊎ ((d : _) × IsFirstPole o c t e c.dens d) → (a : MachineAnswer E) × IsMeaning o c t e a
        by (inl h) = (machine_values (sums_of o c t e), (balanced, h, refl))
        by (inr h) = (machine_pole h.0, (balanced, h.1))

    balanced_means : (b : Answer E) → Balances o (event_of o e) (size_of c) → IsTheirs b → MeansAnswer o c t e b
    balanced_means b balanced is =
        let m = balanced_meaning balanced in
        (m.0, m.1, one_answer o (scattering_of c.model p) (feynman_rules o c.model t) (lines_of c.model p) (event_of o e) b (answer_with c.flows m.0) is (is_answer m.0 m.1))

    means : (b : Answer E) → GraphAnswers o (scattering_of c.model p) (feynman_rules o c.model t) (event_of o e) g wave b → IsTheirs b → MeansAnswer o c t e b
    means unbalanced h is = (machine_unbalanced, (λ balanced. h (subst (Balances o (event_of o e)) sized balanced)), refl)
    means (pole name) h is = balanced_means (pole name) (subst (Balances o (event_of o e)) (sym sized) h.0) is
    means (values vs) h is = balanced_means (values vs) (subst (Balances o (event_of o e)) (sym sized) h.0) is

  both_ways : (b : Answer E) → MeansAnswer o c t e b ↔ IsTheirs b
  both_ways b =
      let w = nodes_have_waves o c.model p formed of g canonical t (event_of o e) in (
        (λ h. subst IsTheirs (sym h.2) (is_answer w.0 w.1 h.0 h.1)),
        (λ is. means w.0 w.1 b ((canonical_graph_gives_answer o l c.model p formed of g canonical t (event_of o e) w.0 w.1 b).1 is) is),
      )

-- said over the model of the code, and then over the model that it is
pub emitted_code_gives_answer : {E : Type 0} (o : Ops E) → Laws o → EmittedCodeGivesAnswer o
emitted_code_gives_answer {E} o l m p formed of g canonical c code t e made =
    let Said : Model → Type 0 = λ x. IsWellFormed x → IsProcessOf x p → IsCanonicalOf (reaction_of x p) g → IsCodeOf x p g c
    → (b : Answer E) → MeansAnswer o c t e b ↔ IsAnswer o (scattering_of x p) (feynman_rules o x t) (lines_of x p) (event_of o e) b in
    subst Said code.same_model (λ f q n k. both_ways o l c p f q g n k t e made) formed of canonical code

pub evaluated_is_answer : {E : Type 0} (o : Ops E) → Laws o → EvaluatedIsAnswer o
evaluated_is_answer o l m p formed of g canonical c code t e same made outcome sums meaning =
    (emitted_code_gives_answer o l m p formed of g canonical c code (model_table o m) e made (answer_with c.flows (answer_of outcome sums))).0
    (answer_of outcome sums, same-meaning o c t (model_table o m) e same (answer_of outcome sums) meaning, refl)

pub sums_stand_at_flows : {E : Type 0} → SumsStandAtFlows E
sums_stand_at_flows [] sums k w x h g = cc
sums_stand_at_flows (u ∷ us) [] k w x h g = cc
sums_stand_at_flows (u ∷ us) (y ∷ ys) zero w x h g = cc
sums_stand_at_flows (u ∷ us) (y ∷ ys) (suc k) w x h g = sums_stand_at_flows us ys k w x h g
