use Rattle.std.proofs.Common.{arith}
use Rattle.om_event.proofs.LeadingNumbers.{decimal_stopped}
use Rattle.om_event.proofs.written.decimal_before.Goals as goal

pub returns-clause-split : goal.returns-clause-split
returns-clause-split c =
    let e = c.in_ok-value.ensures in
    decimal_stopped c.args.text.now c.in_ok-value.field-0.value c.in_ok-value.field-0.len c.args.stop e.digits e.value (omega arith) e.within e.some e.lead e.stop
