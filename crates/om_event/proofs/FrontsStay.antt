-- What stands at the front of some bytes stays there, whatever follows them.
use Rattle.std.proofs.Common.{◌≡◌, ℕ, ◌+◌, ◌==◌, Bool, true, false, List, [], ◌∷◌, ◌++◌, length, refl, ap, cond}
use Rattle.std.specs.Prelude.{nat_le, Result, Ok, Err}
use Rattle.om_ring.specs.Ops.{Ops}
use Rattle.om_event.specs.declared.cause.Cause.{Cause}
use Rattle.om_event.specs.declared.cause.Cause.TheVariants.{TooLong}
use Rattle.om_event.specs.declared.kind.WaveKind.{WaveKind}
use Rattle.om_event.specs.declared.line.Leg.{Leg}
use Rattle.om_event.specs.declared.limits.TheConstants.{MOST_LINE_BYTES}
use Rattle.om_event.specs.Lines.{leg_in}
use Rattle.om_event.specs.Fronts.{Front, whole, bad_line, begun, with_leg, after_line, front_from}

-- a whole event or a bad line stands at the front of more bytes too
abbrev pub Stays : {E : Type 0} → List ℕ → Front E → Front E → Type 0
Stays more (whole legs rest) now = now ≡ whole legs (rest ++ more)
Stays more (bad_line k cause) now = now ≡ bad_line k cause
Stays more (begun k line) now = Unit {0}

module _ {E : Type 0} (more : List ℕ) where
  with_one : (leg : Leg E) (f g : Front E) → Stays more f g → Stays more (with_leg leg f) (with_leg leg g)
  with_one leg (whole legs rest) g h = ap (with_leg leg) h
  with_one leg (bad_line k cause) g h = ap (with_leg leg) h
  with_one leg (begun k line) g h = tt

  after_one : (k : ℕ) (r : Result (Leg E) Cause) (f g : Front E) → Stays more f g → Stays more (after_line k r f) (after_line k r g)
  after_one k (Ok leg) f g h = with_one leg f g h
  after_one k (Err cause) f g h = refl

  by_tests : (a b : Bool) (f f' g g' : Front E) (k : ℕ) → Stays more f f' → Stays more g g'
      → Stays more (cond a f (cond b (bad_line k TooLong) g)) (cond a f' (cond b (bad_line k TooLong) g'))
  by_tests true b f f' g g' k p q = p
  by_tests false true f f' g g' k p q = refl
  by_tests false false f f' g g' k p q = q

  pub stays : (o : Ops E) (kinds : List WaveKind) (k : ℕ) (line bytes : List ℕ) → Stays more (front_from o kinds k line bytes) (front_from o kinds k line (bytes ++ more))
  stays o [] k line bytes = refl
  stays o (kind ∷ kinds) k line [] = tt
  stays o (kind ∷ kinds) k line (b ∷ bs) =
      by_tests (b == 10) (nat_le MOST_LINE_BYTES (length line))
      (after_line k (leg_in o kind k line) (front_from o kinds (k + 1) [] bs)) (after_line k (leg_in o kind k line) (front_from o kinds (k + 1) [] (bs ++ more)))
      (front_from o (kind ∷ kinds) k (line ++ b ∷ []) bs) (front_from o (kind ∷ kinds) k (line ++ b ∷ []) (bs ++ more)) k
      (after_one k (leg_in o kind k line) (front_from o kinds (k + 1) [] bs) (front_from o kinds (k + 1) [] (bs ++ more)) (stays o kinds (k + 1) [] bs))
      (stays o (kind ∷ kinds) k (line ++ b ∷ []) bs)
