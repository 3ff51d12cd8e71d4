use Rattle.std.proofs.Common.{◌≡◌, ◌≤◌, ◌-◌, ◌∷◌, replicate}
use Rattle.om_sample.specs.Model.{incoming_leg, outgoing_leg}
use Rattle.om_sample.proofs.model.sample_process.Given as goal

abbrev pub invariant-loop-leg : goal.invariant-loop-leg
invariant-loop-leg l = record {
  low : 1 ≤ l._leg;
  high : l._leg ≤ l.legs;
  all : l.all ≡ incoming_leg ∷ replicate (l._leg - 1) outgoing_leg;
}
