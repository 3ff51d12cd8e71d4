-- What stands at the front of some bytes, line by line.
use Rattle.std.proofs.Common.{◌≡◌, ℕ, suc, ◌+◌, ◌<◌, ◌≤◌, nat_eq, true, false, List, [], ◌∷◌, ◌++◌, length, take, drop, refl, ap, sym, ◌∙◌, arith, inl, inr}
use Rattle.std.specs.Prelude.{nat_le}
use Rattle.std.proofs.lemmas.Bool.{cases_Bool, lt-leb, le-leb, leb-false}
use Rattle.std.proofs.lemmas.List.{append_assoc, append-nil}
use Rattle.om_ring.specs.Ops.{Ops}
use Rattle.om_event.specs.declared.cause.Cause.{Cause}
use Rattle.om_event.specs.declared.cause.Cause.TheVariants.{TooLong}
use Rattle.om_event.specs.declared.kind.WaveKind.{WaveKind}
use Rattle.om_event.specs.declared.line.Leg.{Leg}
use Rattle.om_event.specs.Lines.{leg_in}
use Rattle.om_event.specs.declared.limits.TheConstants.{MOST_LINE_BYTES}
use Rattle.om_event.specs.Fronts.{Front, whole, bad_line, begun, with_leg, with_legs, after_line, line_len, front_from}

take-more : (n b : ℕ) (bs : List ℕ) → take (1 + n) (b ∷ bs) ≡ b ∷ take n bs
take-more n b bs = (let e : 1 + n ≡ suc n = omega arith in rw e refl)

drop-more : (n b : ℕ) (bs : List ℕ) → drop (1 + n + 1) (b ∷ bs) ≡ drop (n + 1) bs
drop-more n b bs = (let e : 1 + n + 1 ≡ suc (n + 1) = omega arith in rw e refl)

length-one : (line : List ℕ) (b : ℕ) → length (line ++ b ∷ []) ≡ length line + 1
length-one [] b = refl
length-one (x ∷ xs) b = (let e = length-one xs b in omega (arith, e))

room : (m : ℕ) → m < MOST_LINE_BYTES → nat_le MOST_LINE_BYTES m ≡ false
room m h = lt-leb MOST_LINE_BYTES m h

full : (m : ℕ) → MOST_LINE_BYTES ≤ m → nat_le MOST_LINE_BYTES m ≡ true
full m h = le-leb MOST_LINE_BYTES m h

module _ {E : Type 0} (o : Ops E) where
  -- a whole line
  pub line_whole : (kind : WaveKind) (kinds : List WaveKind) (k : ℕ) (pre bytes : List ℕ) → line_len bytes < length bytes
      → length pre + line_len bytes ≤ MOST_LINE_BYTES
      → front_from o (kind ∷ kinds) k pre bytes ≡ after_line k (leg_in o kind k (pre ++ take (line_len bytes) bytes)) (front_from o kinds (k + 1) [] (drop (line_len bytes + 1) bytes))
  line_whole kind kinds k pre [] h g = absurd (omega (arith, h))
  line_whole kind kinds k pre (b ∷ bs) h g = elim (cases_Bool (nat_eq b 10)) [
    | inl e ↦ rw e (ap (λ (t : List ℕ). after_line k (leg_in o kind k t) (front_from o kinds (k + 1) [] bs)) (sym (append-nil pre)))
    | inr e ↦ (
        let s : 1 + line_len bs < length (b ∷ bs) = rw e at h in
        let l : length pre + (1 + line_len bs) ≤ MOST_LINE_BYTES = rw e at g in
        let one = length-one pre b in
        let next = line_whole kind kinds k (pre ++ b ∷ []) bs (omega (arith, s)) (omega (arith, l, one)) in
        let fits : nat_le MOST_LINE_BYTES (length pre) ≡ false = room (length pre) (omega (arith, l)) in
        let t : (pre ++ b ∷ []) ++ take (line_len bs) bs ≡ pre ++ take (1 + line_len bs) (b ∷ bs) = append_assoc pre (b ∷ []) (take (line_len bs) bs) ∙ ap (λ (t : List ℕ). pre ++ t) (sym (take-more (line_len bs) b bs)) in
        rw e (rw fits (next ∙ ap (λ (t : List ℕ). after_line k (leg_in o kind k t) (front_from o kinds (k + 1) [] (drop (line_len bs + 1) bs))) t
        ∙ ap (λ (r : List ℕ). after_line k (leg_in o kind k (pre ++ take (1 + line_len bs) (b ∷ bs))) (front_from o kinds (k + 1) [] r)) (sym (drop-more (line_len bs) b bs))))
        )
  ]

  -- more bytes than a line has
  pub line_long : (kind : WaveKind) (kinds : List WaveKind) (k : ℕ) (pre bytes : List ℕ) → length pre ≤ MOST_LINE_BYTES
      → MOST_LINE_BYTES < length pre + line_len bytes → front_from o (kind ∷ kinds) k pre bytes ≡ bad_line k TooLong
  line_long kind kinds k pre [] h g = absurd (omega (arith, h, g))
  line_long kind kinds k pre (b ∷ bs) h g = elim (cases_Bool (nat_eq b 10)) [
    | inl e ↦ (let l : MOST_LINE_BYTES < length pre + 0 = rw e at g in absurd (omega (arith, h, l)))
    | inr e ↦ (
        let l : MOST_LINE_BYTES < length pre + (1 + line_len bs) = rw e at g in
        elim (cases_Bool (nat_le MOST_LINE_BYTES (length pre))) [
          | inl f ↦ rw e (rw f refl)
          | inr f ↦ (
              let one = length-one pre b in
              let less : length pre < MOST_LINE_BYTES = leb-false MOST_LINE_BYTES (length pre) f in
              rw e (rw f (line_long kind kinds k (pre ++ b ∷ []) bs (omega (arith, one, less)) (omega (arith, one, l))))
              )
        ]
        )
  ]

  -- less than a line
  pub line_short : (kind : WaveKind) (kinds : List WaveKind) (k : ℕ) (pre bytes : List ℕ) → line_len bytes ≡ length bytes
      → length pre + length bytes ≤ MOST_LINE_BYTES → front_from o (kind ∷ kinds) k pre bytes ≡ begun k (pre ++ bytes)
  line_short kind kinds k pre [] h g = ap (begun k) (sym (append-nil pre))
  line_short kind kinds k pre (b ∷ bs) h g = elim (cases_Bool (nat_eq b 10)) [
    | inl e ↦ (let l : 0 ≡ length (b ∷ bs) = rw e at h in absurd (omega (arith, l)))
    | inr e ↦ (
        let l : 1 + line_len bs ≡ length (b ∷ bs) = rw e at h in
        let one = length-one pre b in
        let fits : nat_le MOST_LINE_BYTES (length pre) ≡ false = room (length pre) (omega (arith, g)) in
        rw e (rw fits (line_short kind kinds k (pre ++ b ∷ []) bs (omega (arith, l)) (omega (arith, one, g))
        ∙ ap (begun k) (append_assoc pre (b ∷ []) bs)))
        )
  ]

  -- one leg more
  pub legs_more : (legs : List (Leg E)) (leg : Leg E) (front : Front E) → with_legs (legs ++ leg ∷ []) front ≡ with_legs legs (with_leg leg front)
  legs_more [] leg front = refl
  legs_more (x ∷ xs) leg front = ap (with_leg x) (legs_more xs leg front)

  -- legs before a whole event, a bad line and the begin of a line
  pub legs_whole : (legs : List (Leg E)) (bytes : List ℕ) → with_legs legs (whole [] bytes) ≡ whole legs bytes
  legs_whole [] bytes = refl
  legs_whole (x ∷ xs) bytes = ap (with_leg x) (legs_whole xs bytes)

  pub legs_bad : (legs : List (Leg E)) (k : ℕ) (cause : Cause) → with_legs legs (bad_line k cause) ≡ bad_line k cause
  legs_bad [] k cause = refl
  legs_bad (x ∷ xs) k cause = ap (with_leg x) (legs_bad xs k cause)

  pub legs_begun : (legs : List (Leg E)) (k : ℕ) (line : List ℕ) → with_legs legs (begun k line) ≡ begun k line
  legs_begun [] k line = refl
  legs_begun (x ∷ xs) k line = ap (with_leg x) (legs_begun xs k line)
