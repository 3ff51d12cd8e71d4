-- What the line of a leg that is written out of numerals says.
use Rattle.std.proofs.Common.{cond, ◌≡◌, ℕ, ◌+◌, ◌≤◌, ◌<◌, ◌^◌, nat_eq, bytes_eq, decimal, Bool, true, false, List, [], ◌∷◌, ◌++◌, length, take, refl, ap, sym, ◌∙◌, arith}
use Rattle.std.specs.Prelude.{Result, Ok, Err}
use Rattle.std.proofs.lemmas.Bool.{eq-eqb}
use Rattle.std.proofs.lemmas.List.{length-append}
use Rattle.std.proofs.lemmas.Slice.Eq.{bytes_eq-Decides}
use Rattle.om_ring.specs.Ops.{Laws, Ops, number_of, signed}
use Rattle.om_ring.proofs.ProductLemmas.{quotient-one}
use Rattle.om_ring.specs.ResultSteps.{◌>>=◌}
use Rattle.om_ring.specs.Numerals.{NumeralFits, mark_text, numeral_text, shown_den, sign_text}
use Rattle.om_ring.specs.declared.numeral.Numeral.{Numeral}
use Rattle.om_ring.proofs.NumeralTexts.{IsDigits-decimal, all_digits, numeral_of-shown}
use Rattle.om_lorentz.specs.declared.vectors.Four.{Four}
use Rattle.om_kernel.specs.Waves.{kind_of}
use Rattle.om_kernel.specs.declared.waves.Wave.{Wave}
use Rattle.om_kernel.specs.declared.waves.Wave.TheVariants as wave
use Rattle.om_event.specs.declared.cause.Cause.{Cause}
use Rattle.om_event.specs.declared.kind.WaveKind.{WaveKind}
use Rattle.om_event.specs.declared.kind.WaveKind.TheVariants.{Scalar, Row, Column, Vector}
use Rattle.om_event.specs.declared.limits.TheConstants.{MOST_LINE_BYTES}
use Rattle.om_event.specs.declared.line.Leg.{Leg}
use Rattle.om_event.specs.Fronts.{line_len}
use Rattle.om_event.specs.Kinds.{kind_named}
use Rattle.om_event.specs.Pieces.{front_piece, behind_piece}
use Rattle.om_event.specs.Lines.{value_in, leg_in, wave_size}
use Rattle.om_event.specs.LineScan.{number_at, four_in, wave_in, wave_of_four, wave_of_one, numbers_in}
use Rattle.om_event.specs.LineFronts.{line_of, spaces}
use Rattle.om_event.specs.Written.{number_before, four_before, wave_before, leg_before, FourFits, WaveFits, LegFits, IsWritten, IsLineOf, value_at, four_value, value_as, scalar_value, wave_value, leg_value}
use Rattle.om_event.proofs.LineReads.{numbered}
use Rattle.om_event.proofs.LeadingNumbers.{Solid, digits_solid, line-leading, line-closing, len-leading, len-closing, front-leading, front-closing, behind-leading, behind-closing, spaces-leading, spaces-closing}

solid-append : (p q : List ℕ) → Solid p → Solid q → Solid (p ++ q)
solid-append [] q s t = t
solid-append (b ∷ p) q s t = (s.0, solid-append p q s.1 t)

solid_decimal : (n : ℕ) → n < 2 ^ 64 → Solid (decimal n)
solid_decimal n h = digits_solid (decimal n) (all_digits (decimal n) (IsDigits-decimal n h))

solid_sign : (neg : Bool) → Solid (sign_text neg)
solid_sign true = (omega arith, tt)
solid_sign false = tt

solid_mark : (imag : Bool) → Solid (mark_text imag)
solid_mark true = (omega arith, tt)
solid_mark false = tt

solid_den : (d : ℕ) → d < 2 ^ 64 → Solid (shown_den d)
solid_den d h = by (nat_eq d 1)
  where
    by : (b : Bool) → Solid (cond b [] (47 ∷ decimal d))
    by true = tt
    by false = (omega arith, solid_decimal d h)

solid_numeral : (x : Numeral) → NumeralFits x → Solid (numeral_text x)
solid_numeral x h = solid-append (sign_text x.neg) _ (solid_sign x.neg) (solid-append (decimal x.num) _ (solid_decimal x.num h.0) (solid-append (shown_den x.den) _ (solid_den x.den h.1) (solid_mark x.imag)))

-- some numbers lead the line: so many spaces with them
record Leads (n : ℕ) (text rest : List ℕ) : Type 0 where
  spaces : spaces (line_of text) ≡ n + spaces (line_of rest)
  len : line_len text + length rest ≡ length text + line_len rest

-- some numbers are the line
record Closes (n : ℕ) (text rest : List ℕ) : Type 0 where
  spaces : spaces (line_of text) ≡ n
  len : line_len text + 1 + length rest ≡ length text

piece_leads : (p rest : List ℕ) → Solid p → Leads 1 (p ++ 32 ∷ rest) rest
piece_leads p rest s = record {
  spaces = ap spaces (line-leading p rest s) ∙ spaces-leading p (line_of rest) s;
  len = (let a = len-leading p rest s in let b = length-append p (32 ∷ rest) in omega (arith, a, b));
}

piece_closes : (p rest : List ℕ) → Solid p → Closes 0 (p ++ 10 ∷ rest) rest
piece_closes p rest s = record {
  spaces = ap spaces (line-closing p rest s) ∙ spaces-closing p s;
  len = (let a = len-closing p rest s in let b = length-append p (10 ∷ rest) in omega (arith, a, b));
}

both_lead : (n m : ℕ) (text next rest : List ℕ) → Leads n text next → Leads m next rest → Leads (n + m) text rest
both_lead n m text next rest h k = record { spaces = omega (arith, h.spaces, k.spaces); len = omega (arith, h.len, k.len) }

then_closes : (n m : ℕ) (text next rest : List ℕ) → Leads n text next → Closes m next rest → Closes (n + m) text rest
then_closes n m text next rest h k = record { spaces = omega (arith, h.spaces, k.spaces); len = omega (arith, h.len, k.len) }

three_lead : (p : Four Numeral) (stop : ℕ) (rest : List ℕ) → FourFits p → Leads 3 (four_before p stop rest) (number_before p.z stop rest)
three_lead p stop rest h =
    let z = number_before p.z stop rest in
    let y = number_before p.y 32 z in
    let x = number_before p.x 32 y in
    let t = number_before p.t 32 x in
    both_lead 2 1 t y z (both_lead 1 1 t x y (piece_leads (numeral_text p.t) x (solid_numeral p.t h.t)) (piece_leads (numeral_text p.x) y (solid_numeral p.x h.x))) (piece_leads (numeral_text p.y) z (solid_numeral p.y h.y))

four_lead : (p : Four Numeral) (rest : List ℕ) → FourFits p → Leads 4 (four_before p 32 rest) rest
four_lead p rest h = both_lead 3 1 (four_before p 32 rest) (number_before p.z 32 rest) rest (three_lead p 32 rest h) (piece_leads (numeral_text p.z) rest (solid_numeral p.z h.z))

four_close : (p : Four Numeral) (rest : List ℕ) → FourFits p → Closes 3 (four_before p 10 rest) rest
four_close p rest h = then_closes 3 0 (four_before p 10 rest) (number_before p.z 10 rest) rest (three_lead p 10 rest h) (piece_closes (numeral_text p.z) rest (solid_numeral p.z h.z))

module _ {E : Type 0} (o : Ops E) where
  value_of_text : (x : Numeral) → NumeralFits x → value_in o (numeral_text x) ≡ value_at o x
  unfolding value_in value_at
  value_of_text x h = rw (numeral_of-shown x h.0 h.1) refl

  number_leads : (x : Numeral) (rest : List ℕ) → NumeralFits x → number_at o (line_of (number_before x 32 rest)) ≡ (value_at o x >>= λ v. Ok (v, line_of rest))
  unfolding number_at
  number_leads x rest h =
      let s = solid_numeral x h in
      rw (line-leading (numeral_text x) rest s) (rw (front-leading (numeral_text x) (line_of rest) s, behind-leading (numeral_text x) (line_of rest) s) (rw (value_of_text x h) refl))

  number_closes : (x : Numeral) (rest : List ℕ) → NumeralFits x → number_at o (line_of (number_before x 10 rest)) ≡ (value_at o x >>= λ v. Ok (v, []))
  unfolding number_at
  number_closes x rest h =
      let s = solid_numeral x h in
      rw (line-closing (numeral_text x) rest s) (rw (front-closing (numeral_text x) s, behind-closing (numeral_text x) s) (rw (value_of_text x h) refl))

  -- four numbers, one after the other
  four_steps : (p : Four Numeral) (text a b c d : List ℕ) (r s t u : Result E Cause)
      → value_at o p.t ≡ r → value_at o p.x ≡ s → value_at o p.y ≡ t → value_at o p.z ≡ u
      → number_at o text ≡ (r >>= λ v. Ok (v, a)) → number_at o a ≡ (s >>= λ v. Ok (v, b)) → number_at o b ≡ (t >>= λ v. Ok (v, c)) → number_at o c ≡ (u >>= λ v. Ok (v, d))
      → four_in o text ≡ (four_value o p >>= λ q. Ok (q, d))
  unfolding four_in four_value
  four_steps p text a b c d (Err cause) s t u vr vs vt vu e f g h = rw (vr, e) refl
  four_steps p text a b c d (Ok w) (Err cause) t u vr vs vt vu e f g h = rw (vr, vs, e, f) refl
  four_steps p text a b c d (Ok w) (Ok x) (Err cause) u vr vs vt vu e f g h = rw (vr, vs, vt, e, f, g) refl
  four_steps p text a b c d (Ok w) (Ok x) (Ok y) (Err cause) vr vs vt vu e f g h = rw (vr, vs, vt, vu, e, f, g, h) refl
  four_steps p text a b c d (Ok w) (Ok x) (Ok y) (Ok z) vr vs vt vu e f g h = rw (vr, vs, vt, vu, e, f, g, h) refl

  four_leads : (p : Four Numeral) (rest : List ℕ) → FourFits p → four_in o (line_of (four_before p 32 rest)) ≡ (four_value o p >>= λ q. Ok (q, line_of rest))
  four_leads p rest h = four_steps p _ _ _ _ _ _ _ _ _ refl refl refl refl (number_leads p.t _ h.t) (number_leads p.x _ h.x) (number_leads p.y _ h.y) (number_leads p.z rest h.z)

  four_closes : (p : Four Numeral) (rest : List ℕ) → FourFits p → four_in o (line_of (four_before p 10 rest)) ≡ (four_value o p >>= λ q. Ok (q, []))
  four_closes p rest h = four_steps p _ _ _ _ _ _ _ _ _ refl refl refl refl (number_leads p.t _ h.t) (number_leads p.x _ h.x) (number_leads p.y _ h.y) (number_closes p.z rest h.z)

  one_wave : (x : Numeral) (text : List ℕ) (r : Result E Cause) → value_at o x ≡ r → number_at o text ≡ (r >>= λ v. Ok (v, [])) → wave_of_one o text ≡ scalar_value o x
  unfolding wave_of_one scalar_value
  one_wave x text (Err cause) v e = rw (v, e) refl
  one_wave x text (Ok w) v e = rw (v, e) refl

  four_wave : (made : Four E → Wave E) (p : Four Numeral) (text : List ℕ) (r : Result (Four E) Cause) → four_value o p ≡ r → four_in o text ≡ (r >>= λ q. Ok (q, [])) → wave_of_four o made text ≡ value_as o made p
  unfolding wave_of_four value_as
  four_wave made p text (Err cause) v e = rw (v, e) refl
  four_wave made p text (Ok q) v e = rw (v, e) refl

  wave_closes : (kind : WaveKind) (w : Wave Numeral) (rest : List ℕ) → WaveFits w → kind_of w ≡ kind_named kind → wave_in o kind (line_of (wave_before w rest)) ≡ wave_value o w
  wave_closes Scalar (wave.Scalar x) rest h k = one_wave x _ _ refl (number_closes x rest h)
  wave_closes Row (wave.Row p) rest h k = four_wave wave.Row p _ _ refl (four_closes p rest h)
  wave_closes Column (wave.Column p) rest h k = four_wave wave.Column p _ _ refl (four_closes p rest h)
  wave_closes Vector (wave.Vector p) rest h k = four_wave wave.Vector p _ _ refl (four_closes p rest h)
  wave_closes Scalar (wave.Row p) rest h k = cc
  wave_closes Scalar (wave.Column p) rest h k = cc
  wave_closes Scalar (wave.Vector p) rest h k = cc
  wave_closes Row (wave.Scalar x) rest h k = cc
  wave_closes Row (wave.Column p) rest h k = cc
  wave_closes Row (wave.Vector p) rest h k = cc
  wave_closes Column (wave.Scalar x) rest h k = cc
  wave_closes Column (wave.Row p) rest h k = cc
  wave_closes Column (wave.Vector p) rest h k = cc
  wave_closes Vector (wave.Scalar x) rest h k = cc
  wave_closes Vector (wave.Row p) rest h k = cc
  wave_closes Vector (wave.Column p) rest h k = cc

  numbers_by : (kind : WaveKind) (leg : Leg Numeral) (text rest : List ℕ) (r : Result (Four E) Cause) → four_value o leg.momentum ≡ r → four_in o text ≡ (r >>= λ q. Ok (q, rest))
      → wave_in o kind rest ≡ wave_value o leg.wave → numbers_in o kind text ≡ leg_value o leg
  unfolding numbers_in leg_value
  numbers_by kind leg text rest (Err cause) v e w = rw (v, e) refl
  numbers_by kind leg text rest (Ok q) v e w = rw (v, e) (rw w refl)

wave_close : (kind : WaveKind) (w : Wave Numeral) (rest : List ℕ) → WaveFits w → kind_of w ≡ kind_named kind → (n : ℕ) × (n + 1 ≡ wave_size kind) × Closes n (wave_before w rest) rest
wave_close Scalar (wave.Scalar x) rest h k = (0, refl, piece_closes (numeral_text x) rest (solid_numeral x h))
wave_close Row (wave.Row p) rest h k = (3, refl, four_close p rest h)
wave_close Column (wave.Column p) rest h k = (3, refl, four_close p rest h)
wave_close Vector (wave.Vector p) rest h k = (3, refl, four_close p rest h)
wave_close Scalar (wave.Row p) rest h k = cc
wave_close Scalar (wave.Column p) rest h k = cc
wave_close Scalar (wave.Vector p) rest h k = cc
wave_close Row (wave.Scalar x) rest h k = cc
wave_close Row (wave.Column p) rest h k = cc
wave_close Row (wave.Vector p) rest h k = cc
wave_close Column (wave.Scalar x) rest h k = cc
wave_close Column (wave.Row p) rest h k = cc
wave_close Column (wave.Vector p) rest h k = cc
wave_close Vector (wave.Scalar x) rest h k = cc
wave_close Vector (wave.Row p) rest h k = cc
wave_close Vector (wave.Column p) rest h k = cc

module _ {E : Type 0} (o : Ops E) where
  -- a whole number without mark
  pub plain_value : Laws o → (x : Numeral) → x.den ≡ 1 → x.imag ≡ false → value_at o x ≡ Ok (signed o x.neg (number_of o x.num))
  unfolding value_at
  plain_value l x whole bare = rw (whole, bare, quotient-one o l x.num) refl

  -- the line of a leg says the values of its numerals
  pub line_said : (kind : WaveKind) (k : ℕ) (leg : Leg Numeral) (rest : List ℕ) → k < 2 ^ 64 → LegFits leg → kind_of leg.wave ≡ kind_named kind
      → leg_in o kind k (line_of (leg_before k leg rest)) ≡ leg_value o leg
  unfolding spaces
  line_said kind k leg rest h fits same =
      let waves = wave_before leg.wave rest in
      let numerals = four_before leg.momentum 32 waves in
      let s = solid_decimal k h in
      let wave = wave_close kind leg.wave rest fits.wave same in
      let line : line_of (leg_before k leg rest) ≡ decimal k ++ 32 ∷ line_of numerals = line-leading (decimal k) numerals s in
      let one = piece_leads (decimal k) numerals s in
      let four = four_lead leg.momentum waves fits.momentum in
      let count : 4 + wave_size kind ≡ spaces (line_of (leg_before k leg rest)) = omega (arith, one.spaces, four.spaces, wave.2.spaces, wave.1) in
      let front : front_piece (line_of (leg_before k leg rest)) ≡ decimal k = ap front_piece line ∙ front-leading (decimal k) (line_of numerals) s in
      let behind : behind_piece (line_of (leg_before k leg rest)) ≡ line_of numerals = ap behind_piece line ∙ behind-leading (decimal k) (line_of numerals) s in
      numbered o kind k (4 + wave_size kind) (line_of (leg_before k leg rest)) count (eq-eqb _ _ refl) (ap (λ t. bytes_eq t (decimal k)) front ∙ (bytes_eq-Decides (decimal k) (decimal k)).1 refl)
      ∙ ap (numbers_in o kind) behind
      ∙ numbers_by o kind leg (line_of numerals) (line_of waves) _ refl (four_leads o leg.momentum waves fits.momentum) (wave_closes o kind leg.wave rest fits.wave same)

  line_size : (kind : WaveKind) (k : ℕ) (leg : Leg Numeral) (rest : List ℕ) → k < 2 ^ 64 → LegFits leg → kind_of leg.wave ≡ kind_named kind
      → line_len (leg_before k leg rest) + 1 + length rest ≡ length (leg_before k leg rest)
  line_size kind k leg rest h fits same =
      let waves = wave_before leg.wave rest in
      let numerals = four_before leg.momentum 32 waves in
      let wave = wave_close kind leg.wave rest fits.wave same in
      let one = piece_leads (decimal k) numerals (solid_decimal k h) in
      let four = four_lead leg.momentum waves fits.momentum in
      omega (arith, one.len, four.len, wave.2.len)

  -- the line at the front of a text
  pub line_read : (kind : WaveKind) (k len : ℕ) (text : List ℕ) (leg : Leg Numeral) (said : Result (Leg E) Cause) → k < 2 ^ 64 → LegFits leg → kind_of leg.wave ≡ kind_named kind
      → IsWritten k text leg len → len ≤ MOST_LINE_BYTES → said ≡ leg_value o leg → IsLineOf o kind k text said len
  unfolding line_of
  line_read kind k len text leg said h fits same w few v =
      let size = line_size kind k leg w.rest h fits same in
      let a = ap length w.is in
      let b = ap line_len w.is in
      let l : len ≡ line_len text = omega (arith, size, a, b, w.size) in
      record {
        read = ap (λ n. leg_in o kind k (take n text)) l ∙ ap (λ t. leg_in o kind k (line_of t)) w.is ∙ line_said kind k leg w.rest h fits same ∙ sym v;
        len = l;
        few = few;
        more = omega (arith, w.size);
      }
