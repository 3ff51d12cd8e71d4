-- Reading an event line by line.
use Rattle.std.proofs.Common.{◌≡◌, ℕ, ◌+◌, ◌<◌, ◌≤◌, nat_eq, Bool, true, false, List, [], ◌∷◌, ◌++◌, length, take, drop, map, refl, ap, sym, ◌∙◌, arith, bytes_eq, decimal}
use Rattle.std.specs.Prelude.{Option, Some, None, Result, Ok, Err, slice_get, slice_set, get_or, if◌then◌else◌}
use Rattle.std.specs.Io.{StartsWith, appended_bytes}
use Rattle.std.proofs.Math.Seq.{map-set_same}
use Rattle.std.proofs.lemmas.Option.{slice_get-get_or}
use Rattle.std.proofs.lemmas.Bool.{ne_eqb}
use Rattle.std.proofs.lemmas.List.{append_assoc, append-nil, take-append-le, drop-append-le, take-append-drop, take_more_set, length-append, length-drop, length-map, map-append, take_all, drop_all, length-set, get_or-map}
use Rattle.std.proofs.lemmas.List.Folds.{prefix_len-append}
use Rattle.om_ring.specs.Ops.{Ops}
use Rattle.om_ring.specs.ResultSteps.{◌>>=◌}
use Rattle.om_io.specs.Bytes.{before_told}
use Rattle.om_lorentz.specs.declared.vectors.Four.{Four}
use Rattle.om_kernel.specs.Waves.{kind_of}
use Rattle.om_kernel.specs.declared.waves.Wave.{Wave}
use Rattle.om_event.specs.declared.cause.Cause.{Cause}
use Rattle.om_event.specs.declared.cause.Cause.TheVariants.{TooLong, Count, LegNumber, BadNumeral, NoInverse, Cut}
use Rattle.om_event.specs.declared.kind.WaveKind.{WaveKind}
use Rattle.om_event.specs.declared.line.Leg.{Leg}
use Rattle.om_event.specs.Lines.{wave_size, valued, value_read, value_in, values_in, leg_from, leg_of_pieces, leg_in}
use Rattle.om_event.specs.declared.limits.TheConstants.{MOST_LINE_BYTES}
use Rattle.om_event.specs.Fronts.{whole, bad_line, with_leg, with_legs, after_line, in_line, line_len, front_from, front_of}
use Rattle.om_code.specs.Waves.{Incoming}
use Rattle.om_machine.specs.Events.{HasKindAt}
use Rattle.om_event.specs.Kinds.{HasKinds, kind_named}
use Rattle.om_event.specs.declared.reader.Next.TheVariants as next
use Rattle.om_event.specs.Next.{IsOpen, Refuses, Enters, AtEnd}
use Rattle.om_event.specs.Waits.{IsShort}
use Rattle.om_event.specs.Pieces.{pieces}
use Rattle.om_ring.specs.Products.{value_of}
use Rattle.om_ring.specs.NumeralOf.{numeral_of}
use Rattle.om_ring.specs.declared.numeral.Numeral.{Numeral}
use Rattle.om_ring.specs.declared.numeral.NumeralFault.{NumeralFault}
use Rattle.om_event.proofs.Held.{before_told-append}
use Rattle.om_event.proofs.FrontSteps.{line_whole, line_long, line_short, legs_more, legs_whole, legs_bad, legs_begun}

-- the first line, whatever follows it
line_before : (bytes more : List ℕ) → line_len bytes < length bytes → line_len (bytes ++ more) ≡ line_len bytes
line_before bytes more h =
    let differ : nat_eq (line_len bytes) (length bytes) ≡ false = ne_eqb (line_len bytes) (length bytes) (λ e. omega (arith, h, e)) in
    (let e = prefix_len-append in_line bytes more in rw differ at e)

-- What was read of an event. old: the bytes held at first; came: those that came since; held: those that are held now, behind
-- the lines of the first i legs.
pub record IsReading {E : Type 0} (o : Ops E) (kinds : List WaveKind) (old held : List ℕ) (i : ℕ) (e : Incoming E) (came : List ℕ) : Type 0 where
  pub legs : List (Leg E)
  pub momenta : take i e.momenta ≡ map (λ leg. leg.momentum) legs
  pub waves : take i e.waves ≡ map (λ leg. leg.wave) legs
  pub follows : (more : List ℕ) → front_of o kinds (old ++ (came ++ more)) ≡ with_legs legs (front_from o (drop i kinds) (i + 1) [] (held ++ more))
  pub within : length held + i ≤ length (old ++ came)
  pub first : i ≡ 0 → old ++ came ≡ held

-- no line has the cause Cut
module _ {E : Type 0} (o : Ops E) where
  valued_no_cut : (x : Option E) → valued o x ≡ Err Cut → ⊥
  valued_no_cut None h = cc
  valued_no_cut (Some x) h = cc

  read_no_cut : (x : Result Numeral NumeralFault) → value_read o x ≡ Err Cut → ⊥
  read_no_cut (Ok x) h = valued_no_cut (value_of o x) h
  read_no_cut (Err fault) h = cc

  value_no_cut : (piece : List ℕ) → value_in o piece ≡ Err Cut → ⊥
  unfolding value_in
  value_no_cut piece h = read_no_cut (numeral_of piece) h

  first_no_cut : (r : Result E Cause) (rs : Result (List E) Cause) → (r ≡ Err Cut → ⊥) → (rs ≡ Err Cut → ⊥)
      → (r >>= λ x. (rs >>= λ xs. Ok (x ∷ xs))) ≡ Err Cut → ⊥
  first_no_cut (Err c) rs m n h = m (let e : c ≡ Cut = cc in ap Err e)
  first_no_cut (Ok x) (Err c) m n h = n (let e : c ≡ Cut = cc in ap Err e)
  first_no_cut (Ok x) (Ok xs) m n h = cc

  values_no_cut : (ps : List (List ℕ)) → values_in o ps ≡ Err Cut → ⊥
  values_no_cut [] h = cc
  values_no_cut (p ∷ ps) h = first_no_cut (value_in o p) (values_in o ps) (value_no_cut p) (values_no_cut ps) h

  leg_no_cut : (kind : WaveKind) (r : Result (List E) Cause) → (r ≡ Err Cut → ⊥) → (r >>= λ xs. Ok (leg_from o kind xs)) ≡ Err Cut → ⊥
  leg_no_cut kind (Err c) m h = m (let e : c ≡ Cut = cc in ap Err e)
  leg_no_cut kind (Ok xs) m h = cc

  chosen_no_cut : (a b : Bool) (kind : WaveKind) (r : Result (List E) Cause) → (r ≡ Err Cut → ⊥)
      → (if a then (if b then (r >>= λ xs. Ok (leg_from o kind xs)) else Err LegNumber) else Err Count) ≡ Err Cut → ⊥
  chosen_no_cut true true kind r m h = leg_no_cut kind r m h
  chosen_no_cut true false kind r m h = cc
  chosen_no_cut false b kind r m h = cc

  pieces_no_cut : (kind : WaveKind) (k : ℕ) (ps : List (List ℕ)) → leg_of_pieces o kind k ps ≡ Err Cut → ⊥
  pieces_no_cut kind k [] h = cc
  pieces_no_cut kind k (p ∷ ps) h = chosen_no_cut (nat_eq (length ps) (4 + wave_size kind)) (bytes_eq p (decimal k)) kind (values_in o ps) (values_no_cut ps) h

  pub no_cut : (kind : WaveKind) (k : ℕ) (line : List ℕ) (cause : Cause) → leg_in o kind k line ≡ Err cause → cause ≡ Cut → ⊥
  unfolding leg_in
  no_cut kind k line cause h e = pieces_no_cut kind k (pieces line) (h ∙ ap Err e)

  pub refused : (kinds : List WaveKind) (bytes : List ℕ) (k : ℕ) (cause : Cause) → (cause ≡ Cut → ⊥) → front_of o kinds bytes ≡ bad_line k cause
      → Refuses o kinds bytes k cause
  refused kinds bytes k TooLong m h = h
  refused kinds bytes k Count m h = h
  refused kinds bytes k LegNumber m h = h
  refused kinds bytes k BadNumeral m h = h
  refused kinds bytes k NoInverse m h = h
  refused kinds bytes k Cut m h = absurd (m refl)

pub not_at_end : (n k : ℕ) (cause : Cause) (left : Option (List ℕ)) → (cause ≡ Cut → ⊥) → AtEnd (next.Bad n k cause) left
not_at_end n k TooLong left m = tt
not_at_end n k Count left m = tt
not_at_end n k LegNumber left m = tt
not_at_end n k BadNumeral left m = tt
not_at_end n k NoInverse left m = tt
not_at_end n k Cut left m = absurd (m refl)

-- what was told, and then more
pub told_more : (came new : List ℕ) (first second third : Option (List ℕ)) → first ≡ before_told came second → second ≡ before_told new third
    → first ≡ before_told (came ++ new) third
told_more came new first second third p q = p ∙ ap (before_told came) q ∙ before_told-append came new third

-- a wave of a leg's kind is put where one of that kind stands
pub kind_stands : {E : Type 0} (kinds : List WaveKind) (e : Incoming E) (i k : ℕ) (d : WaveKind) (wave : Wave E) → HasKinds kinds e → k ≡ i
    → i < length kinds → kind_of wave ≡ kind_named (get_or kinds i d) → HasKindAt e.waves k wave
kind_stands kinds e i k d wave m same l h =
    let many : length e.waves ≡ length kinds = sym (length-map e.waves kind_of) ∙ ap length m.waves ∙ length-map kinds kind_named in
    let there : kind_of (get_or e.waves i wave) ≡ kind_named (get_or kinds i d) = sym (get_or-map kind_of e.waves i wave (kind_of wave) (omega (arith, many, l))) ∙ ap (λ ks. get_or ks i (kind_of wave)) m.waves ∙ get_or-map kind_named kinds i d (kind_of wave) l in
    (get_or e.waves i wave, ap (slice_get e.waves) same ∙ slice_get-get_or e.waves i wave (omega (arith, many, l)), h ∙ sym there)

-- an event keeps the kinds of its waves
pub keeps_kinds : {E : Type 0} (kinds : List WaveKind) (e now : Incoming E) (i : ℕ) (kind d : WaveKind) (momentum : Four E) (wave : Wave E)
    → HasKinds kinds e → now.momenta ≡ slice_set e.momenta i momentum → now.waves ≡ slice_set e.waves i wave
    → i < length kinds → kind ≡ get_or kinds i d → kind_of wave ≡ kind_named kind → HasKinds kinds now
keeps_kinds kinds e now i kind d momentum wave m p q l g h = record {
  momenta = ap length p ∙ length-set e.momenta i momentum ∙ m.momenta;
  waves = (
      let many : length e.waves ≡ length kinds = sym (length-map e.waves kind_of) ∙ ap length m.waves ∙ length-map kinds kind_named in
      let there : kind_of (get_or e.waves i wave) ≡ kind_named (get_or kinds i d) = sym (get_or-map kind_of e.waves i wave (kind_of wave) (omega (arith, many, l))) ∙ ap (λ ks. get_or ks i (kind_of wave)) m.waves ∙ get_or-map kind_named kinds i d (kind_of wave) l in
      ap (map kind_of) q ∙ map-set_same kind_of e.waves i wave wave (h ∙ ap kind_named g ∙ sym there) ∙ m.waves);
}

module _ {E : Type 0} (o : Ops E) (kinds : List WaveKind) where
  -- nothing was read
  pub starts_reading : (old : List ℕ) (e : Incoming E) → IsReading o kinds old old 0 e []
  starts_reading old e = record {
    legs = [];
    momenta = refl;
    waves = refl;
    follows = λ more. refl;
    within = (let l : length (old ++ []) ≡ length old = ap length (append-nil old) in omega (arith, l));
    first = λ _. append-nil old;
  }

  module _ (old held : List ℕ) (i : ℕ) (e : Incoming E) (came : List ℕ) where
    -- more bytes came
    pub goes_on : (now : List ℕ) → IsReading o kinds old held i e came → StartsWith now held
        → IsReading o kinds old now i e (came ++ appended_bytes held now)
    goes_on now r s =
        let new = drop (length held) now in
        let joined : held ++ new ≡ now = ap (λ (t : List ℕ). t ++ new) (sym s) ∙ take-append-drop (length held) now in
        record {
          legs = r.legs;
          momenta = r.momenta;
          waves = r.waves;
          follows = λ more. ap (λ (t : List ℕ). front_of o kinds (old ++ t)) (append_assoc came new more) ∙ r.follows (new ++ more)
              ∙ ap (λ (t : List ℕ). with_legs r.legs (front_from o (drop i kinds) (i + 1) [] t)) (sym (append_assoc held new more)
              ∙ ap (λ (t : List ℕ). t ++ more) joined);
          within = (
              let a : length (old ++ (came ++ new)) ≡ length (old ++ came) + length new = ap length (sym (append_assoc old came new))
              ∙ length-append (old ++ came) new in
              let b : length held + length new ≡ length now = sym (length-append held new) ∙ ap length joined in
              let w = r.within in
              omega (arith, a, b, w));
          first = λ z. sym (append_assoc old came new) ∙ ap (λ (t : List ℕ). t ++ new) (r.first z) ∙ joined;
        }

    -- what stands at the front now
    pub stands_now : IsReading o kinds old held i e came
        → (legs : List (Leg E)) × (front_of o kinds (old ++ came) ≡ with_legs legs (front_from o (drop i kinds) (i + 1) [] held)) × (map (λ leg. leg.momentum) legs ≡ take i e.momenta) × (map (λ leg. leg.wave) legs ≡ take i e.waves)
    stands_now r = (
      r.legs,
      ap (λ (t : List ℕ). front_of o kinds (old ++ t)) (sym (append-nil came)) ∙ r.follows []
          ∙ ap (λ (t : List ℕ). with_legs r.legs (front_from o (drop i kinds) (i + 1) [] t)) (append-nil held),
      sym r.momenta,
      sym r.waves,
    )

    module _ (kind : WaveKind) (later : List WaveKind) (here : drop i kinds ≡ kind ∷ later) where
      -- a line that isn't whole
      pub is_open : (k : ℕ) → k ≡ i + 1 → IsReading o kinds old held i e came → IsShort held → IsOpen o kinds (old ++ came) k
      is_open k same r h = rw same (let s = stands_now r in (
        held,
        s.1 ∙ ap (λ ks. with_legs s.0 (front_from o ks (i + 1) [] held)) here
            ∙ ap (with_legs s.0) (line_short o kind later (i + 1) [] held h.0 (omega (arith, h.1))) ∙ legs_begun o s.0 (i + 1) held,
      ))

      -- a line with more bytes than a line has
      pub is_long : (k : ℕ) → k ≡ i + 1 → IsReading o kinds old held i e came → MOST_LINE_BYTES < line_len held
          → front_of o kinds (old ++ came) ≡ bad_line k TooLong
      is_long k same r h = rw same (let s = stands_now r in s.1 ∙ ap (λ ks. with_legs s.0 (front_from o ks (i + 1) [] held)) here
          ∙ ap (with_legs s.0) (line_long o kind later (i + 1) [] held (omega arith) (omega (arith, h))) ∙ legs_bad o s.0 (i + 1) TooLong)

      -- a faulty line
      pub is_bad : (k : ℕ) → k ≡ i + 1 → IsReading o kinds old held i e came → line_len held < length held → line_len held ≤ MOST_LINE_BYTES
          → (cause : Cause) → leg_in o kind k (take (line_len held) held) ≡ Err cause → front_of o kinds (old ++ came) ≡ bad_line k cause
      is_bad k same r h g cause f0 = rw same (let f = rw same at f0 in let s = stands_now r in s.1
          ∙ ap (λ ks. with_legs s.0 (front_from o ks (i + 1) [] held)) here
          ∙ ap (with_legs s.0) (line_whole o kind later (i + 1) [] held h (omega (arith, g))
          ∙ ap (λ x. after_line (i + 1) x (front_from o later (i + 1 + 1) [] (drop (line_len held + 1) held))) f)
          ∙ legs_bad o s.0 (i + 1) cause)

      -- the line of a leg
      pub one_line : IsReading o kinds old held i e came → line_len held < length held → line_len held ≤ MOST_LINE_BYTES
          → (leg : Leg E) (now : Incoming E) → leg_in o kind (i + 1) (take (line_len held) held) ≡ Ok leg
          → i < length e.momenta → i < length e.waves → now.momenta ≡ slice_set e.momenta i leg.momentum → now.waves ≡ slice_set e.waves i leg.wave
          → drop (i + 1) kinds ≡ later → IsReading o kinds old (drop (line_len held + 1) held) (i + 1) now came
      one_line r h g leg now f lm lw m w d = record {
        legs = r.legs ++ leg ∷ [];
        momenta = ap (take (i + 1)) m ∙ take_more_set e.momenta i leg.momentum lm ∙ ap (λ (t : List (Four E)). t ++ leg.momentum ∷ []) r.momenta
            ∙ sym (map-append (λ (leg : Leg E). leg.momentum) r.legs (leg ∷ []));
        waves = ap (take (i + 1)) w ∙ take_more_set e.waves i leg.wave lw ∙ ap (λ (t : List (Wave E)). t ++ leg.wave ∷ []) r.waves
            ∙ sym (map-append (λ (leg : Leg E). leg.wave) r.legs (leg ∷ []));
        follows = λ more. (
            let len = line_before held more h in
            let all : length (held ++ more) ≡ length held + length more = length-append held more in
            let s : line_len (held ++ more) < length (held ++ more) = omega (arith, len, all, h) in
            let text : take (line_len (held ++ more)) (held ++ more) ≡ take (line_len held) held = ap (λ n. take n (held ++ more)) len
            ∙ take-append-le (line_len held) held more (omega (arith, h)) in
            let rest : drop (line_len (held ++ more) + 1) (held ++ more) ≡ drop (line_len held + 1) held ++ more = ap (λ n. drop (n + 1) (held ++ more)) len ∙ drop-append-le (line_len held + 1) held more (omega (arith, h)) in
            r.follows more ∙ ap (λ ks. with_legs r.legs (front_from o ks (i + 1) [] (held ++ more))) here
            ∙ ap (with_legs r.legs) (line_whole o kind later (i + 1) [] (held ++ more) s (omega (arith, len, g))
            ∙ ap (λ x. after_line (i + 1) x (front_from o later (i + 1 + 1) [] (drop (line_len (held ++ more) + 1) (held ++ more)))) (ap (leg_in o kind (i + 1)) text ∙ f)
            ∙ ap (λ t. with_leg leg (front_from o later (i + 1 + 1) [] t)) rest
            ∙ ap (λ ks. with_leg leg (front_from o ks (i + 1 + 1) [] (drop (line_len held + 1) held ++ more))) (sym d))
            ∙ sym (legs_more o r.legs leg (front_from o (drop (i + 1) kinds) (i + 1 + 1) [] (drop (line_len held + 1) held ++ more))));
        within = (let w = r.within in let l = length-drop (line_len held + 1) held in omega (arith, w, l, h));
        first = λ z. absurd (omega (arith, z));
      }

    -- all legs
    pub is_whole : IsReading o kinds old held i e came → length kinds ≤ i → length e.momenta ≡ length kinds → length e.waves ≡ length kinds
        → (legs : List (Leg E)) × (front_of o kinds (old ++ came) ≡ whole legs held) × Enters legs e
    is_whole r h m w =
        let s = stands_now r in
        let none : drop i kinds ≡ [] = drop_all i kinds h in (
          s.0,
          s.1 ∙ ap (λ ks. with_legs s.0 (front_from o ks (i + 1) [] held)) none ∙ legs_whole o s.0 held,
          record {
            momenta = sym (take_all i e.momenta (omega (arith, h, m))) ∙ sym s.2;
            waves = sym (take_all i e.waves (omega (arith, h, w)))
                ∙ sym s.3;
          },
        )

-- nothing was held and nothing came: then no line was read
pub idle_now : {E A : Type 0} (o : Ops E) (kinds : List WaveKind) (old held : List ℕ) (i : ℕ) (e : Incoming E) (came : List ℕ)
    → IsReading o kinds old held i e came → (i ≡ 0 → A) → old ++ came ≡ [] → A
idle_now o kinds old held i e came r f h = f (let w = r.within in let l : length (old ++ came) ≡ 0 = ap length h in omega (arith, w, l))

-- a byte was held or came
pub some_bytes : {E : Type 0} (o : Ops E) (kinds : List WaveKind) (old held : List ℕ) (i : ℕ) (e : Incoming E) (came : List ℕ)
    → IsReading o kinds old held i e came → 0 < length held + i → old ++ came ≡ [] → ⊥
some_bytes o kinds old held i e came r f h = (let w = r.within in let l : length (old ++ came) ≡ 0 = ap length h in omega (arith, w, l, f))

pub not_idle : {E A : Type 0} (o : Ops E) (kinds : List WaveKind) (old held : List ℕ) (i : ℕ) (e : Incoming E) (came : List ℕ)
    → IsReading o kinds old held i e came → 0 < length held + i → old ++ came ≡ [] → A
not_idle o kinds old held i e came r f h = absurd (some_bytes o kinds old held i e came r f h)
