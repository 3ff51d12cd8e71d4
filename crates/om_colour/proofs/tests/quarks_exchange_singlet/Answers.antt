use Rattle.std.proofs.Common.{refl, inl, rules, [], ◌∷◌}
use Rattle.om_colour.specs.declared.Colour.TheVariants.{One, Three, AntiThree}
use Rattle.om_colour.proofs.WorkedVertices.{sends_by_row}
use Rattle.om_colour.proofs.tests.quarks_exchange_singlet.Goals as goal

pub check_exchange-requires-clause-sends : goal.check_exchange-requires-clause-sends
check_exchange-requires-clause-sends g c = sends_by_row (AntiThree ∷ Three ∷ One ∷ []) (inl refl) c.in-Some.row 0 c.choice.result c.in-Some.ensures (search rules) c.choice.ensures
