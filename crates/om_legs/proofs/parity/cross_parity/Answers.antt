use Rattle.std.proofs.Common.{◌≡◌, ◌∙◌, ap₂, sym, subst, bit_and}
use Rattle.om_legs.specs.Legs.{IsLegSet, legs_of, meeting}
use Rattle.om_legs.specs.Crossings.{crossings, is_odd}
use Rattle.om_legs.proofs.Operations.{meeting-bit_and}
use Rattle.om_legs.proofs.Operations.{IsLegSet-meeting}
use Rattle.om_legs.proofs.Crossings.{is_odd-crossings}
use Rattle.om_legs.proofs.parity.cross_parity.Goals as goal

pub returns : goal.returns
returns c =
    let greater : bit_and c.number.result c.number-2.result ≡ meeting c.args.a c.args.fermions = ap₂ bit_and c.number.ensures.same c.number-2.ensures.same ∙ meeting-bit_and c.args.a c.args.fermions c.number.ensures.valid in
    let lesser : bit_and c.number-3.result c.number-4.result ≡ meeting c.args.b c.args.fermions = ap₂ bit_and c.number-3.ensures.same c.number-4.ensures.same ∙ meeting-bit_and c.args.b c.args.fermions c.number-3.ensures.valid in
    is_odd-crossings (bit_and c.number.result c.number-2.result) (bit_and c.number-3.result c.number-4.result) c.odd_below.result (subst IsLegSet (sym greater) (IsLegSet-meeting c.args.a c.args.fermions)) c.odd_below.ensures
    ∙ ap₂ (λ x y. is_odd (crossings (legs_of x) (legs_of y))) greater lesser
