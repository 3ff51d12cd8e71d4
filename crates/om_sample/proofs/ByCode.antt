-- What a code sums up to for a sample is what the diagrams sum up to, where it gives the same as these.
use Rattle.std.proofs.Common.{◌*◌, length}
use Rattle.om_ring.specs.Ops.{Ops}
use Rattle.om_sample.specs.Generator.{state_after}
use Rattle.om_sample.specs.Events.{draws_of_event, sample_event}
use Rattle.om_sample.specs.Model.{sample_model, sample_process}
use Rattle.om_sample.specs.Sums.{CodeGives, ModelGives, SamplesByCode}
use Rattle.om_sample.specs.declared.limits.TheConstants.{SAMPLE_EVENTS}
use Rattle.om_sample.proofs.Adding.{adds_up_to}
use Rattle.om_sample.proofs.Made.{drawn_for}

pub samples_by_code : {E : Type 0} (o : Ops E) → SamplesByCode o
samples_by_code o c t seed poles total some scalars same h =
    let legs = length c.legs in
    let event = sample_event o seed legs in
    adds_up_to o event (CodeGives o c t) (ModelGives o sample_model (sample_process legs)) SAMPLE_EVENTS poles total
    (λ k x gives. same (event k) x (drawn_for o (state_after seed (k * draws_of_event legs)) c some scalars) gives) h
