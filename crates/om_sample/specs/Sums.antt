-- What some events sum up to: how many have a pole, and the sum of the values of the others.
use Rattle.std.specs.Prelude.{◌≡◌, ℕ, ◌+◌, ◌≤◌, List, [], ◌∷◌, length, filter, is_none, Option, Some, None}
use Rattle.om_ring.specs.Ops.{Ops}
use Rattle.om_ring.specs.Sums.{sum_list, sum_over}
use Rattle.om_model.specs.Answer.Answer.{pole as pole_answer, values as values_answer}
use Rattle.om_model.specs.FeynmanRules.{Table}
use Rattle.om_model.specs.ModelAnswer.{IsModelAnswer}
use Rattle.om_model.specs.Propagator.{EdgeName}
use Rattle.om_model.specs.declared.model.Model.{Model}
use Rattle.om_model.specs.declared.process.Process.{Process}
use Rattle.om_code.specs.Meaning.{IsMeaning}
use Rattle.om_code.specs.Meaning.MachineAnswer.{pole, values}
use Rattle.om_code.specs.Waves.{Incoming, event_of}
use Rattle.om_code.specs.declared.code.Code.{Code}
use Rattle.om_code.specs.declared.code.Den.{Den}
use Rattle.om_machine.specs.Events.{IsMadeFor}
use Rattle.om_sample.specs.Events.{HasScalarLegs, sample_event}
use Rattle.om_sample.specs.Model.{sample_model, sample_process}
use Rattle.om_sample.specs.declared.limits.TheConstants.{SAMPLE_EVENTS}

module _ {E : Type 0} (o : Ops E) where
  -- An event has a value, the sum over all flows, or a pole, which is None. Here as a code answers it,
  abbrev pub CodeGives : Code → Table E → Incoming E → Option E → Type 0
  CodeGives c t e None = (d : Den) × IsMeaning o c t e (pole d)
  CodeGives c t e (Some x) = (vs : List E) × IsMeaning o c t e (values vs) × (x ≡ sum_list o vs)

  -- and here as the diagrams of a process over a model do
  abbrev pub ModelGives : Model → Process → Incoming E → Option E → Type 0
  ModelGives m p e None = (name : EdgeName) × IsModelAnswer o m p (event_of o e) (pole_answer name)
  ModelGives m p e (Some x) = (vs : List (List ℕ × E)) × IsModelAnswer o m p (event_of o e) (values_answer vs) × (x ≡ sum_over o vs (λ v. v.1))

  abbrev pub value_or_none : Option E → E
  value_or_none None = o.zero
  value_or_none (Some x) = x

  module _ (Gives : Incoming E → Option E → Type 0) (event : ℕ → Incoming E) where
    -- what event k and those behind it give
    unfoldable pub AreGiven : ℕ → List (Option E) → Type 0
    AreGiven k [] = Unit {0}
    AreGiven k (x ∷ xs) = Gives (event k) x × AreGiven (k + 1) xs

    -- the first n events sum up to this
    pub record AddUpTo (n : ℕ) (poles : ℕ) (total : E) : Type 0 where
      pub given : List (Option E)
      pub count : length given ≡ n
      pub are_given : AreGiven 0 given
      pub poles_are : poles ≡ length (filter is_none given)
      pub total_is : total ≡ sum_over o given value_or_none

-- the sample of a seed with so many legs sums up to this, by the diagrams of its process
abbrev pub IsSample : {E : Type 0} → Ops E → ℕ → ℕ → ℕ → E → Type 0
IsSample o seed legs poles total = AddUpTo o (ModelGives o sample_model (sample_process legs)) (sample_event o seed legs) SAMPLE_EVENTS poles total

-- A code sums up to it, whose legs are those of scalars and which gives for each event that is made for it what the diagrams of
-- the process do.
abbrev pub SamplesByCode : {E : Type 0} → Ops E → Type 0
SamplesByCode {E} o = (c : Code) (t : Table E) (seed poles : ℕ) (total : E) → 1 ≤ length c.legs → HasScalarLegs c
    → ((e : Incoming E) (x : Option E) → IsMadeFor c e → CodeGives o c t e x → ModelGives o sample_model (sample_process (length c.legs)) e x)
    → AddUpTo o (CodeGives o c t) (sample_event o seed (length c.legs)) SAMPLE_EVENTS poles total
    → IsSample o seed (length c.legs) poles total
