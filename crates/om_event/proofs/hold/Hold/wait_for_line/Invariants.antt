use Rattle.std.proofs.Common.{◌≡◌, ◌≤◌, ◌+◌, ◌-◌, length, drop}
use Rattle.std.specs.Io.{StartsWith, appended_bytes}
use Rattle.om_io.specs.Bytes.{before_told}
use Rattle.om_event.specs.Fronts.{line_len}
use Rattle.om_event.specs.declared.limits.TheConstants.{MOST_HELD_BYTES}
use Rattle.om_event.proofs.hold.Hold.wait_for_line.Given as goal

abbrev pub invariant-waiting : goal.invariant-waiting
invariant-waiting g l =
    let left = g.S.Source.left in
    record {
      starts : StartsWith l.self l.fn.self;
      came : left l.fn.input ≡ before_told (appended_bytes l.fn.self l.self) (left l.input);
      later : g.S.Source.faults l.fn.input ≤ g.S.Source.faults l.input;
      within : l.seen ≤ length l.self;
      seen_so_far : line_len l.self ≡ l.seen + line_len (drop l.seen l.self);
    }

abbrev pub decreases-waiting : goal.decreases-waiting
decreases-waiting g l = MOST_HELD_BYTES - length l.self
