use Rattle.std.proofs.Common.{◌≡◌, ◌<◌, ◌+◌, [], ◌++◌, length, take, drop, get_or, suc, ◌-◌, subst, refl, ap, sym, ◌∙◌, arith}
use Rattle.std.proofs.Math.Seq.{drop-cons}
use Rattle.std.proofs.lemmas.Grind.{common_steps}
use Rattle.std.proofs.lemmas.List.{length-map}
use Rattle.std.specs.Io.{appended_bytes}
use Rattle.std.specs.Prelude.{Ok, Err, slice_set}
use Rattle.om_event.specs.Fronts.{line_len}
use Rattle.om_event.specs.Lines.{leg_in}
use Rattle.om_event.proofs.reader.read_event.Goals.{else-before-eq0-via-then-before-eq0+else-is_empty, else-before-eq0-via-else-before-eq0}
use Rattle.om_kernel.specs.Waves.{kind_of}
use Rattle.om_event.specs.Kinds.{kind_named}
use Rattle.om_event.specs.declared.kind.WaveKind.TheVariants.{Scalar}
use Rattle.om_event.proofs.EventSteps.{IsReading, kind_stands, starts_reading, no_cut, refused, not_at_end, is_bad, one_line, keeps_kinds, goes_on, told_more, idle_now, not_idle, is_open, is_long, is_whole, some_bytes}
use Rattle.om_event.specs.Written.{leg_of, said, wave_of}
use Rattle.om_event.proofs.Components.{wave_of-kind}
use Rattle.om_event.proofs.Held.{before_told-nil}
use Rattle.om_event.proofs.reader.read_event.Goals as goal

pub loop-kind-init : goal.loop-kind-init
loop-kind-init g c = record {
  leg_is = refl;
  made = c.requires.made;
  later = omega arith;
  at_most = omega arith;
  read = ([], sym (before_told-nil _), starts_reading _ _ _ _, λ _. refl);
}

pub returns-in-Err-clause-end : goal.returns-in-Err-clause-end
returns-in-Err-clause-end g c =
    let values = c.next_line.new.scratch.values in
    let kind = get_or c.args.kinds.now c.loop-kind.kind-index Scalar in
    let told = ap (λ r. said r (leg_of kind values.momentum values.wave)) c.in-Err.is in
    not_at_end c.args.number (c.loop-kind.leg + 1) c.in-Err.cause _ (no_cut (g.R.Ring.ops c.args.ring.now) _ _ _ c.in-Err.cause (c.in-Line.ensures.stands.read ∙ told))

pub returns-in-Err-clause-gives : goal.returns-in-Err-clause-gives
returns-in-Err-clause-gives g c =
    let o = g.R.Ring.ops c.args.ring.now in
    let kinds = c.args.kinds.now in
    let old = c.args.hold.now in
    let held = c.loop-kind.hold in
    let now = c.next_line.new.hold in
    let i = c.loop-kind.kind-index in
    let inv = c.loop-kind.invariant in
    let kind = get_or kinds i Scalar in
    let came = inv.read.0 ++ appended_bytes held now in
    let r = goes_on o kinds old held i c.loop-kind.event inv.read.0 now inv.read.2 c.next_line.ensures.more in
    let here = drop-cons kinds i Scalar c.loop-kind-test.true in
    let stands = c.in-Line.ensures.stands in
    let values = c.next_line.new.scratch.values in
    let f : leg_in o kind (c.loop-kind.leg + 1) (take (line_len now) now) ≡ Err c.in-Err.cause = ap (λ n. leg_in o kind (c.loop-kind.leg + 1) (take n now)) (sym stands.len)
    ∙ stands.read ∙ ap (λ r. said r (leg_of kind values.momentum values.wave)) c.in-Err.is in
    let front = is_bad o kinds old now i c.loop-kind.event came kind _ here (c.loop-kind.leg + 1) (omega (arith, inv.leg_is)) r (omega (arith, stands.len, stands.more)) (omega (arith, stands.len, stands.few)) c.in-Err.cause f in (
      came,
      told_more inv.read.0 (appended_bytes held now) _ _ _ inv.read.1 c.next_line.ensures.left,
      (refl, refused o kinds (old ++ came) (c.loop-kind.leg + 1) c.in-Err.cause (no_cut o kind (c.loop-kind.leg + 1) (take (line_len now) now) c.in-Err.cause f) front),
      not_idle o kinds old now i c.loop-kind.event came r (omega (arith, stands.more)),
    )

pub set_leg-requires-clause-kind : goal.set_leg-requires-clause-kind
set_leg-requires-clause-kind g c =
    let kind = get_or c.args.kinds.now c.loop-kind.kind-index Scalar in
    let wave = c.next_line.new.scratch.values.wave in
    kind_stands c.args.kinds.now c.loop-kind.event c.loop-kind.kind-index (c.loop-kind.leg + 1 - 1) Scalar (wave_of kind wave) c.loop-kind.invariant.made (omega (arith, c.loop-kind.invariant.leg_is)) c.loop-kind-test.true (wave_of-kind kind wave)

pub loop-kind-preserved : goal.loop-kind-preserved
loop-kind-preserved g c =
    let o = g.R.Ring.ops c.args.ring.now in
    let kinds = c.args.kinds.now in
    let old = c.args.hold.now in
    let held = c.loop-kind.hold in
    let now = c.next_line.new.hold in
    let i = c.loop-kind.kind-index in
    let inv = c.loop-kind.invariant in
    let kind = get_or kinds i Scalar in
    let came = inv.read.0 ++ appended_bytes held now in
    let r = goes_on o kinds old held i c.loop-kind.event inv.read.0 now inv.read.2 c.next_line.ensures.more in
    let here = drop-cons kinds i Scalar c.loop-kind-test.true in
    let stands = c.in-Line.ensures.stands in
    let values = c.next_line.new.scratch.values in
    let leg = leg_of kind values.momentum values.wave in
    let its_kind : kind_of leg.wave ≡ kind_named kind = wave_of-kind kind values.wave in
    let e = c.loop-kind.event in
    let place : c.loop-kind.leg + 1 - 1 ≡ i = omega (arith, inv.leg_is) in
    let same : i + 1 ≡ c.loop-kind.leg + 1 = omega (arith, inv.leg_is) in
    let many : length e.waves ≡ length kinds = sym (length-map e.waves kind_of) ∙ ap length inv.made.waves ∙ length-map kinds kind_named in
    let f : leg_in o kind (i + 1) (take (line_len now) now) ≡ Ok leg = ap (λ n. leg_in o kind n (take (line_len now) now)) same
    ∙ ap (λ n. leg_in o kind (c.loop-kind.leg + 1) (take n now)) (sym stands.len) ∙ stands.read ∙ ap (λ r. said r leg) c.in-Ok.is in
    let m : c.set_leg.new.event.momenta ≡ slice_set e.momenta i leg.momentum = c.set_leg.ensures.momenta
    ∙ ap (λ n. slice_set e.momenta n leg.momentum) place in
    let w : c.set_leg.new.event.waves ≡ slice_set e.waves i leg.wave = c.set_leg.ensures.waves ∙ ap (λ n. slice_set e.waves n leg.wave) place in
    let within : i < length kinds = c.loop-kind-test.true in
    let next : i + 1 ≡ suc i = omega arith in
    let read = one_line o kinds old now i e came kind _ here r (omega (arith, stands.len, stands.more)) (omega (arith, stands.len, stands.few)) leg c.set_leg.new.event f (omega (arith, within, inv.made.momenta)) (omega (arith, within, many)) m w (ap (λ n. drop n kinds) next) in
    let dropped : drop (line_len now + 1) now ≡ c.drop_front.new.self = ap (λ n. drop (n + 1) now) (sym stands.len) ∙ sym c.drop_front.ensures in
    record {
      leg_is = ap (λ n. n + 1) inv.leg_is;
      made = keeps_kinds kinds e c.set_leg.new.event i kind Scalar leg.momentum leg.wave inv.made m w within refl its_kind;
      later = omega (arith, inv.later, c.next_line.ensures.later);
      at_most = omega (arith, inv.at_most, c.next_line.ensures.at_most);
      read = (
        came,
        told_more inv.read.0 (appended_bytes held now) _ _ _ inv.read.1 c.next_line.ensures.left,
        subst (λ t. IsReading o kinds old t (i + 1) c.set_leg.new.event came) dropped read,
        λ z. absurd (omega (arith, z)),
      );
    }

pub returns-in-TooLong-clause-gives : goal.returns-in-TooLong-clause-gives
returns-in-TooLong-clause-gives g c =
    let o = g.R.Ring.ops c.args.ring.now in
    let kinds = c.args.kinds.now in
    let old = c.args.hold.now in
    let held = c.loop-kind.hold in
    let now = c.next_line.new.hold in
    let i = c.loop-kind.kind-index in
    let inv = c.loop-kind.invariant in
    let came = inv.read.0 ++ appended_bytes held now in
    let r = goes_on o kinds old held i c.loop-kind.event inv.read.0 now inv.read.2 c.next_line.ensures.more in
    let here = drop-cons kinds i Scalar c.loop-kind-test.true in (
      came,
      told_more inv.read.0 (appended_bytes held now) _ _ _ inv.read.1 c.next_line.ensures.left,
      (refl, is_long o kinds old now i c.loop-kind.event came _ _ here (c.loop-kind.leg + 1) (omega (arith, inv.leg_is)) r c.in-TooLong.ensures.stands),
      idle_now o kinds old now i c.loop-kind.event came r (λ z. c.in-TooLong.ensures.idle ∙ inv.read.3 z),
    )

pub returns-else-before-eq0-clause-gives : goal.returns-else-before-eq0-clause-gives
returns-else-before-eq0-clause-gives g c =
    let o = g.R.Ring.ops c.args.ring.now in
    let kinds = c.args.kinds.now in
    let old = c.args.hold.now in
    let held = c.loop-kind.hold in
    let now = c.next_line.new.hold in
    let i = c.loop-kind.kind-index in
    let inv = c.loop-kind.invariant in
    let came = inv.read.0 ++ appended_bytes held now in
    let r = goes_on o kinds old held i c.loop-kind.event inv.read.0 now inv.read.2 c.next_line.ensures.more in
    let here = drop-cons kinds i Scalar c.loop-kind-test.true in (
      came,
      told_more inv.read.0 (appended_bytes held now) _ _ _ inv.read.1 c.next_line.ensures.left,
      (
        refl,
        (
          elim c.else-before-eq0.branch [
            | else-before-eq0-via-then-before-eq0+else-is_empty w ↦ some_bytes o kinds old now i c.loop-kind.event came r (grind (arith, common_steps, w.bytes.ensures, w.is_empty.ensures, w.if-is_empty.false))
            | else-before-eq0-via-else-before-eq0 w ↦ some_bytes o kinds old now i c.loop-kind.event came r (omega (arith, inv.leg_is, w.if-before-eq0.false))
          ],
          is_open o kinds old now i c.loop-kind.event came _ _ here (c.loop-kind.leg + 1) (omega (arith, inv.leg_is)) r c.in-Ended.ensures.stands,
        ),
      ),
      idle_now o kinds old now i c.loop-kind.event came r (λ z. c.in-Ended.ensures.idle ∙ inv.read.3 z),
    )

pub returns-in-Failed-clause-gives : goal.returns-in-Failed-clause-gives
returns-in-Failed-clause-gives g c =
    let o = g.R.Ring.ops c.args.ring.now in
    let kinds = c.args.kinds.now in
    let old = c.args.hold.now in
    let held = c.loop-kind.hold in
    let now = c.next_line.new.hold in
    let i = c.loop-kind.kind-index in
    let inv = c.loop-kind.invariant in
    let came = inv.read.0 ++ appended_bytes held now in
    let r = goes_on o kinds old held i c.loop-kind.event inv.read.0 now inv.read.2 c.next_line.ensures.more in
    let here = drop-cons kinds i Scalar c.loop-kind-test.true in (
      came,
      told_more inv.read.0 (appended_bytes held now) _ _ _ inv.read.1 c.next_line.ensures.left,
      (i + 1, is_open o kinds old now i c.loop-kind.event came _ _ here (i + 1) refl r c.in-Failed.ensures.stands),
      idle_now o kinds old now i c.loop-kind.event came r (λ z. c.in-Failed.ensures.idle ∙ inv.read.3 z),
    )

pub returns-clause-gives : goal.returns-clause-gives
returns-clause-gives g c =
    let o = g.R.Ring.ops c.args.ring.now in
    let kinds = c.args.kinds.now in
    let old = c.args.hold.now in
    let e = c.loop-kind.event in
    let inv = c.loop-kind.invariant in
    let i = c.loop-kind.kind-index in
    let many : length e.waves ≡ length kinds = sym (length-map e.waves kind_of) ∙ ap length inv.made.waves ∙ length-map kinds kind_named in (
      inv.read.0,
      inv.read.1,
      is_whole o kinds old c.loop-kind.hold i e inv.read.0 inv.read.2 (grind (arith, common_steps, c.loop-kind-test.false)) inv.made.momenta many,
      idle_now o kinds old c.loop-kind.hold i e inv.read.0 inv.read.2 inv.read.3,
    )
