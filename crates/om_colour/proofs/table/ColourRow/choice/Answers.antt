use Rattle.std.proofs.Common.{ap, refl}
use Rattle.om_colour.proofs.Rows.{way_of-seen}
use Rattle.om_colour.proofs.table.ColourRow.choice.Goals as goal

pub returns : goal.returns
returns c =
    let e = way_of-seen c.args.self.now c.self.inside.count c.args.k c.self.inside.ways (ap (λ r. r.ways) c.self.view_is) c.requires in
    rw (c.next_slot.ensures, c.next_slot-2.ensures, c.next_slot-3.ensures, c.next_slot-4.ensures, e) refl
