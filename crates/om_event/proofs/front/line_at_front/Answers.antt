use Rattle.std.proofs.Common.{arith, sym}
use Rattle.om_event.specs.Written.{leg_of}
use Rattle.om_event.proofs.Components.{wave_of-kind}
use Rattle.om_event.proofs.WrittenLines.{line_read}
use Rattle.om_event.proofs.front.line_at_front.Goals as goal

pub returns-clause-read : goal.returns-clause-read
returns-clause-read g c =
    let numerals = c.leg_at_front.new.numerals in
    let leg = leg_of c.args.kind numerals.momentum numerals.wave in
    let e = c.in_ok-len.ensures in
    line_read (g.R.Ring.ops c.args.ring.now) c.args.kind c.args.k c.in_ok-len.len c.args.text.now leg _ (omega (arith, c.ranges.k.fits)) e.fits (wave_of-kind c.args.kind numerals.wave) e.read (omega (arith, c.if-len-gt-MOST_LINE_BYTES.false)) (sym c.put_leg-leg.ensures.value)
