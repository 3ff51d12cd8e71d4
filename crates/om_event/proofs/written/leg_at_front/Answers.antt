use Rattle.std.proofs.Common.{length, ap, arith}
use Rattle.om_ring.specs.declared.numeral.Numeral.{Numeral}
use Rattle.om_event.specs.declared.line.Leg.{Leg}
use Rattle.om_event.specs.Written.{leg_of}
use Rattle.om_event.proofs.LeadingNumbers.{leg_joined, leg_shorter}
use Rattle.om_event.proofs.written.leg_at_front.Goals as goal

pub overflow_sub-result : goal.overflow_sub-result
overflow_sub-result c =
    let leg : Leg Numeral = leg_of c.args.kind c.four_before.new.p c.wave_before.new.wave in
    let left = c.in_ok-left.ensures.split in
    let whole = leg_joined c.args.k c.args.text.now c.in_ok-behind_number.behind_number.now c.in_ok-waves.waves.now left.0 leg c.in_ok-behind_number.ensures c.in_ok-waves.ensures.split left.1 in
    let size = ap length whole in
    let more = leg_shorter c.args.k leg left.0 in
    omega (arith, size, more, left.2)

pub overflow_sub-result-2 : goal.overflow_sub-result-2
overflow_sub-result-2 c =
    let leg : Leg Numeral = leg_of c.args.kind c.four_before.new.p c.wave_before.new.wave in
    let left = c.in_ok-left.ensures.split in
    let whole = leg_joined c.args.k c.args.text.now c.in_ok-behind_number.behind_number.now c.in_ok-waves.waves.now left.0 leg c.in_ok-behind_number.ensures c.in_ok-waves.ensures.split left.1 in
    let size = ap length whole in
    let more = leg_shorter c.args.k leg left.0 in
    omega (arith, size, more, left.2)

pub returns-clause-read : goal.returns-clause-read
returns-clause-read c =
    let leg : Leg Numeral = leg_of c.args.kind c.four_before.new.p c.wave_before.new.wave in
    let left = c.in_ok-left.ensures.split in
    let whole = leg_joined c.args.k c.args.text.now c.in_ok-behind_number.behind_number.now c.in_ok-waves.waves.now left.0 leg c.in_ok-behind_number.ensures c.in_ok-waves.ensures.split left.1 in
    let size = ap length whole in
    let more = leg_shorter c.args.k leg left.0 in
    record { rest = left.0; is = whole; size = omega (arith, size, more, left.2) }
