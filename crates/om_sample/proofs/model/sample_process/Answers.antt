use Rattle.std.proofs.Common.{◌≡◌, ◌+◌, ◌-◌, [], ◌∷◌, ◌++◌, replicate, ap, ap₂, ◌∙◌, arith}
use Rattle.std.proofs.lemmas.List.{replicate-append-replicate}
use Rattle.om_sample.specs.Model.{incoming_leg, outgoing_leg}
use Rattle.om_sample.proofs.model.sample_process.Goals as goal

pub loop-leg-init : goal.loop-leg-init
loop-leg-init c = record {
  low = omega arith;
  high = c.requires;
  all = c.in_ok-push.ensures.ok ∙ ap (λ xs. xs ++ incoming_leg ∷ []) c.new-all.ensures;
}

pub loop-leg-preserved : goal.loop-leg-preserved
loop-leg-preserved c =
    let inv = c.loop-leg.invariant in
    let next : c.loop-leg._leg - 1 + 1 ≡ c.loop-leg._leg + 1 - 1 = omega (arith, inv.low) in
    record {
      low = omega (arith, inv.low);
      high = omega (arith, c.loop-leg-test.true);
      all = c.in_ok-push-2.ensures.ok ∙ ap (λ xs. xs ++ outgoing_leg ∷ []) inv.all
          ∙ ap (λ xs. incoming_leg ∷ xs) (replicate-append-replicate (c.loop-leg._leg - 1) 1 outgoing_leg ∙ ap (λ n. replicate n outgoing_leg) next);
    }

pub returns : goal.returns
returns c =
    let inv = c.loop-leg.invariant in
    let end : c.loop-leg._leg ≡ c.args.legs = omega (arith, inv.high, c.loop-leg-test.false) in
    ap₂ (λ legs edges. record { legs = legs; edges = edges }) (inv.all ∙ ap (λ n. incoming_leg ∷ replicate (n - 1) outgoing_leg) end) c.new.ensures
