use Rattle.om_colour.proofs.WorkedVertices.{octets_behind, octets_around}
use Rattle.om_colour.proofs.tests.check_octets.Goals as goal

pub join-requires-clause-fit : goal.join-requires-clause-fit
join-requires-clause-fit g c = rw (c.partial_of_leg.ensures.value, c.partial_of_leg-2.ensures.value) (octets_behind c.args.choice.now c.requires)

pub close-requires : goal.close-requires
close-requires g c = rw (c.partial_of_leg.ensures.value, c.partial_of_leg-2.ensures.value, c.partial_of_leg-3.ensures.value) (octets_around c.args.choice.now c.requires)
