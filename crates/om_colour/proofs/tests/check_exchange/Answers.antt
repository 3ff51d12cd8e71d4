use Rattle.om_colour.proofs.WorkedVertices.{quarks_behind, quarks_around}
use Rattle.om_colour.proofs.tests.check_exchange.Goals as goal

pub join-joined-requires-clause-fit : goal.join-joined-requires-clause-fit
join-joined-requires-clause-fit g c = rw (c.partial_of_leg.ensures.value, c.partial_of_leg-2.ensures.value) (quarks_behind c.args.choice.now c.args.exchanged c.requires.sends c.requires.own)

pub close-requires : goal.close-requires
close-requires g c =
    let o = rw (c.partial_of_leg.ensures.value, c.partial_of_leg-2.ensures.value) at c.join-joined.ensures.onwards in
    rw (c.partial_of_leg-3.ensures.value, c.partial_of_leg-4.ensures.value) (quarks_around c.args.choice.now c.args.exchanged c.requires.sends c.requires.own c.join-joined.result o)
