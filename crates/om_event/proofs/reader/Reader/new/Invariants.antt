use Rattle.std.proofs.Common.{◌≡◌, length, map, take}
use Rattle.om_legs.specs.declared.leg_set.TheConstants.{MOST_LEGS}
use Rattle.om_machine.specs.Events.{kind_of_field}
use Rattle.om_event.specs.Kinds.{kind_named}
use Rattle.om_event.proofs.reader.Reader.new.Given as goal

abbrev pub invariant-loop-leg : goal.invariant-loop-leg
invariant-loop-leg l = record {
  many : length l.kinds ≡ MOST_LEGS;
  kinds : map kind_named (take l.leg l.kinds) ≡ map (kind_of_field l.code.model.particles) (take l.leg l.fields);
}
