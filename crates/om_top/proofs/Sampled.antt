-- The code of the process of a sample gives what the diagrams give.
use Rattle.std.proofs.Common.{◌≡◌, ℕ, ◌+◌, ◌*◌, ◌≤◌, List, [], ◌∷◌, length, Option, Some, None, refl, ap, sym, ◌∙◌, arith, subst}
use Rattle.std.proofs.Math.Nat.{mul-le-mul_right}
use Rattle.om_ring.specs.Ops.{Ops, Laws}
use Rattle.om_ring.specs.Sums.{sum_list, sum_over}
use Rattle.om_colour.specs.declared.Flow.{Flow}
use Rattle.om_model.proofs.AcceptedModels.{accepted_are_well_formed}
use Rattle.om_model.proofs.AllDiagrams.{diagrams, diagrams_are}
use Rattle.std.proofs.lemmas.List.{length-map}
use Rattle.om_model.specs.Model.{scattering_of}
use Rattle.om_model.specs.ModelTable.{model_table}
use Rattle.om_model.specs.WellFormed.{IsWellFormed}
use Rattle.om_model.specs.FeynmanRules.{Table}
use Rattle.om_legs.specs.declared.leg_set.TheConstants.{MOST_LEGS}
use Rattle.om_model.specs.declared.limits.TheConstants.{FEWEST_LEGS}
use Rattle.om_code.specs.Meaning.{edge_of_den}
use Rattle.om_code.specs.Waves.{Incoming}
use Rattle.om_code.specs.declared.code.Code.{Code}
use Rattle.om_machine.specs.Events.{IsMadeFor}
use Rattle.om_machine.specs.Machines.{SameTable}
use Rattle.om_machine.specs.declared.answer.Outcome.TheVariants.{Pole, Values}
use Rattle.om_emit.specs.EmittedAnswer.{with_sums}
use Rattle.om_emit.proofs.AnswerFlows.{emitted_flows_are_theirs}
use Rattle.om_emit.proofs.EmittedAnswer.{evaluated_is_answer}
use Rattle.om_sample.specs.Events.{HasScalarLegs, sample_event}
use Rattle.om_sample.specs.Model.{sample_model, sample_process}
use Rattle.om_sample.specs.Sums.{AddUpTo, CodeGives, IsSample, ModelGives}
use Rattle.om_sample.specs.declared.limits.TheConstants.{SAMPLE_EVENTS}
use Rattle.om_sample.proofs.Accepted.{sample_model_accepted}
use Rattle.om_sample.proofs.ByCode.{samples_by_code}
use Rattle.om_sample.proofs.CodeSums.{sum_for_each_flow}
use Rattle.om_sample.proofs.OneFlow.{one_flow}
use Rattle.om_sample.proofs.Process.{code_legs, code_scalars, process_fits}
use Rattle.om_top.specs.Cost.{IsSampleCode}

-- the calls of a sample, whose code has one flow at most
pub calls_within : (old a b loading p legs flows cost : ℕ) → flows ≤ 1 → 1 ≤ legs → a ≤ old + loading * cost → b ≤ a + SAMPLE_EVENTS * ((p + 4 * legs + flows + 1) * cost)
    → b ≤ old + (loading + SAMPLE_EVENTS * (p + 8 * legs)) * cost
calls_within old a b loading p legs flows cost few some ha hb =
    let f : flows * cost ≤ 1 * cost = mul-le-mul_right cost few in
    let g : 1 * cost ≤ legs * cost = mul-le-mul_right cost some in
    omega (arith, ha, hb, f, g)

-- the sum over the flows, by their sums alone
sum_of_flows : {E : Type 0} (o : Ops E) (flows : List Flow) (vs : List E) → length vs ≡ length flows → sum_list o vs ≡ sum_over o (with_sums flows vs) (λ v. v.1)
sum_of_flows o [] [] e = refl
sum_of_flows o [] (v ∷ vs) e = absurd (omega (arith, e))
sum_of_flows o (w ∷ ws) [] e = absurd (omega (arith, e))
sum_of_flows o (w ∷ ws) (v ∷ vs) e = ap (o.plus v) (sum_of_flows o ws vs (omega (arith, e)))

module _ {E : Type 0} (o : Ops E) (l : Laws o) where
  pub sample_model_formed : IsWellFormed sample_model
  sample_model_formed = accepted_are_well_formed o sample_model (sample_model_accepted o l)

  module _ (legs : ℕ) (least : FEWEST_LEGS ≤ legs) (most : legs ≤ MOST_LEGS) (c : Code) (is : IsSampleCode legs c) where
    pub has_legs : length c.legs ≡ legs
    has_legs = code_legs c legs (omega (arith, least)) is.is_code.legs

    pub has_some_legs : 1 ≤ length c.legs
    has_some_legs = omega (arith, has_legs, least)

    pub has_scalar_legs : HasScalarLegs c
    has_scalar_legs = code_scalars c legs (omega (arith, least)) is.is_code.same_model is.is_code.legs

    pub has_one_flow : length c.flows ≤ 1
    has_one_flow =
        let s = scattering_of sample_model (sample_process legs) in
        let flows = emitted_flows_are_theirs sample_model (sample_process legs) sample_model_formed (process_fits legs least most) is.graph is.is_graph.canonical c is.is_code (diagrams s) (diagrams_are s) in
        subst (λ n. n ≤ 1) (sym (ap length flows) ∙ length-map c.flows (λ (w : Flow). w.ends)) (one_flow (sample_process legs) (diagrams s))

    module _ (t : Table E) (same : SameTable o t (model_table o c.model)) where
      gives : (e : Incoming E) (x : Option E) → IsMadeFor c e → CodeGives o c t e x → ModelGives o sample_model (sample_process legs) e x
      gives e None made (d, h) = (
        edge_of_den d,
        evaluated_is_answer o l sample_model (sample_process legs) sample_model_formed (process_fits legs least most) is.graph is.is_graph.canonical c is.is_code t e
            (subst (λ m. SameTable o t (model_table o m)) is.is_code.same_model same) made (Pole d.legs d.field) [] h,
      )
      gives e (Some x) made (vs, h, sum) = (
        with_sums c.flows vs,
        evaluated_is_answer o l sample_model (sample_process legs) sample_model_formed (process_fits legs least most) is.graph is.is_graph.canonical c is.is_code t e
            (subst (λ m. SameTable o t (model_table o m)) is.is_code.same_model same) made Values vs h,
        sum ∙ sum_of_flows o c.flows vs (sum_for_each_flow o c t e vs h.2),
      )

      -- what the machine sums up to is what the diagrams sum up to
      pub sampled : (seed poles : ℕ) (total : E) → AddUpTo o (CodeGives o c t) (sample_event o seed (length c.legs)) SAMPLE_EVENTS poles total → IsSample o seed legs poles total
      sampled seed poles total h =
          subst (λ n. IsSample o seed n poles total) has_legs
          (samples_by_code o c t seed poles total (omega (arith, has_legs, least)) has_scalar_legs (subst (λ n. (e : Incoming E) (x : Option E) → IsMadeFor c e → CodeGives o c t e x → ModelGives o sample_model (sample_process n) e x) (sym has_legs) gives) h)
