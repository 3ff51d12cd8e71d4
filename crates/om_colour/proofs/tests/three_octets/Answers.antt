use Rattle.std.proofs.Common.{refl, inl, rules, [], ◌∷◌}
use Rattle.om_colour.specs.declared.Colour.TheVariants.{Eight}
use Rattle.om_colour.proofs.WorkedVertices.{sends_by_row}
use Rattle.om_colour.proofs.tests.three_octets.Goals as goal

pub check_octets-requires : goal.check_octets-requires
check_octets-requires g c = sends_by_row (Eight ∷ Eight ∷ Eight ∷ []) (inl refl) c.in-Some.row 0 c.choice.result c.in-Some.ensures (search rules) c.choice.ensures

pub check_octets-requires-2 : goal.check_octets-requires-2
check_octets-requires-2 g c = sends_by_row (Eight ∷ Eight ∷ Eight ∷ []) (inl refl) c.in-Some.row 1 c.choice-2.result c.in-Some.ensures (search rules) c.choice-2.ensures
