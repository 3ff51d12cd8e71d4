-- Numbers at the front of a line.
use Rattle.std.proofs.Common.{◌≡◌, ℕ, zero, suc, ◌+◌, ◌-◌, ◌*◌, ◌≤◌, ◌<◌, ◌^◌, nat_eq, decimal, Bool, false, List, [], ◌∷◌, ◌++◌, length, take, drop, get_or, refl, ap, sym, subst, ◌∙◌, arith, inl, inr}
use Rattle.std.specs.List.{prefix_len}
use Rattle.std.proofs.Math.Seq.{drop-append_seam, drop-cons, take-add}
use Rattle.std.proofs.lemmas.Bool.{cases_Bool, eqb-true}
use Rattle.std.proofs.lemmas.Bool.Decides.{nat_tests}
use Rattle.std.proofs.lemmas.List.{append_assoc, length-append, take-append-drop, take_all, length-drop, length-take-le, get_or-take}
use Rattle.om_ring.specs.Numerals.{AllDigits, digits_value, digits_value_from, mark_text, numeral_text, shown_den, sign_text}
use Rattle.om_ring.specs.declared.numeral.Numeral.{Numeral}
use Rattle.om_ring.proofs.NumeralTexts.{decimal-digits_value_of}
use Rattle.om_event.specs.Fronts.{line_len}
use Rattle.om_event.specs.Pieces.{in_piece, front_piece, behind_piece}
use Rattle.om_event.specs.LineFronts.{line_of, spaces}
use Rattle.om_event.specs.Written.{number_before, four_before, leg_before, wave_before}
use Rattle.om_lorentz.specs.declared.vectors.Four.{Four}
use Rattle.om_kernel.specs.declared.waves.Wave.{Wave}
use Rattle.om_kernel.specs.declared.waves.Wave.TheVariants as wave
use Rattle.om_event.specs.declared.line.Leg.{Leg}
use Rattle.om_event.proofs.EightDigits.{value_below}
use Rattle.om_event.proofs.LineReads.{no_length}

-- neither a space nor a line feed
abbrev pub Solid : List ℕ → Type 0
Solid [] = Unit {0}
Solid (b ∷ bs) = (33 ≤ b) × Solid bs

pub digits_solid : (ds : List ℕ) → AllDigits ds → Solid ds
digits_solid [] d = tt
digits_solid (d ∷ ds) h = (omega (arith, h.0.0), digits_solid ds h.1)

no_feed : (b : ℕ) → 33 ≤ b → nat_eq b 10 ≡ false
no_feed b h = grind (arith, nat_tests)

no_space : (b : ℕ) → 33 ≤ b → nat_eq b 32 ≡ false
no_space b h = grind (arith, nat_tests)

take-more : (n b : ℕ) (bs : List ℕ) → take (1 + n) (b ∷ bs) ≡ b ∷ take n bs
take-more n b bs = (let e : 1 + n ≡ suc n = omega arith in rw e refl)

drop-more : (n b : ℕ) (bs : List ℕ) → drop (1 + n + 1) (b ∷ bs) ≡ drop (n + 1) bs
drop-more n b bs = (let e : 1 + n + 1 ≡ suc (n + 1) = omega arith in rw e refl)

pub line-leading : (p rest : List ℕ) → Solid p → line_of (p ++ 32 ∷ rest) ≡ p ++ 32 ∷ line_of rest
unfolding line_of
line-leading [] rest s = take-more (line_len rest) 32 rest
line-leading (b ∷ p) rest s = rw (no_feed b s.0) (take-more (line_len (p ++ 32 ∷ rest)) b (p ++ 32 ∷ rest) ∙ ap (λ (t : List ℕ). b ∷ t) (line-leading p rest s.1))

pub line-closing : (p rest : List ℕ) → Solid p → line_of (p ++ 10 ∷ rest) ≡ p
unfolding line_of
line-closing [] rest s = refl
line-closing (b ∷ p) rest s = rw (no_feed b s.0) (take-more (line_len (p ++ 10 ∷ rest)) b (p ++ 10 ∷ rest) ∙ ap (λ (t : List ℕ). b ∷ t) (line-closing p rest s.1))

pub len-leading : (p rest : List ℕ) → Solid p → line_len (p ++ 32 ∷ rest) ≡ length p + 1 + line_len rest
len-leading [] rest s = omega arith
len-leading (b ∷ p) rest s = rw (no_feed b s.0) (let e = len-leading p rest s.1 in omega arith)

pub len-closing : (p rest : List ℕ) → Solid p → line_len (p ++ 10 ∷ rest) ≡ length p
len-closing [] rest s = refl
len-closing (b ∷ p) rest s = rw (no_feed b s.0) (let e = len-closing p rest s.1 in omega arith)

pub front-leading : (p line : List ℕ) → Solid p → front_piece (p ++ 32 ∷ line) ≡ p
front-leading [] line s = refl
front-leading (b ∷ p) line s = rw (no_space b s.0) (take-more (prefix_len in_piece (p ++ 32 ∷ line)) b (p ++ 32 ∷ line) ∙ ap (λ (t : List ℕ). b ∷ t) (front-leading p line s.1))

pub front-closing : (p : List ℕ) → Solid p → front_piece p ≡ p
front-closing [] s = refl
front-closing (b ∷ p) s = rw (no_space b s.0) (take-more (prefix_len in_piece p) b p ∙ ap (λ (t : List ℕ). b ∷ t) (front-closing p s.1))

pub behind-leading : (p line : List ℕ) → Solid p → behind_piece (p ++ 32 ∷ line) ≡ line
behind-leading [] line s = refl
behind-leading (b ∷ p) line s = rw (no_space b s.0) (drop-more (prefix_len in_piece (p ++ 32 ∷ line)) b (p ++ 32 ∷ line) ∙ behind-leading p line s.1)

pub behind-closing : (p : List ℕ) → Solid p → behind_piece p ≡ []
behind-closing [] s = refl
behind-closing (b ∷ p) s = rw (no_space b s.0) (drop-more (prefix_len in_piece p) b p ∙ behind-closing p s.1)

pub spaces-leading : (p line : List ℕ) → Solid p → spaces (p ++ 32 ∷ line) ≡ 1 + spaces line
unfolding spaces
spaces-leading [] line s = omega arith
spaces-leading (b ∷ p) line s = rw (no_space b s.0) (spaces-leading p line s.1)

pub spaces-closing : (p : List ℕ) → Solid p → spaces p ≡ 0
unfolding spaces
spaces-closing [] s = refl
spaces-closing (b ∷ p) s = rw (no_space b s.0) (spaces-closing p s.1)

-- digits that are a decimal are that of their number
pub decimal_of_digits : (ds : List ℕ) (n : ℕ) → AllDigits ds → n ≡ digits_value ds → n < 2 ^ 64 → 0 < length ds → (get_or ds 0 0 ≡ 48 → length ds ≡ 1) → ds ≡ decimal n
decimal_of_digits [] n d e h some lead = absurd (omega arith)
decimal_of_digits (c ∷ cs) n d e h some lead = sym (ap decimal e ∙ decimal-digits_value_of (c ∷ cs) (elim (cases_Bool (nat_eq c 48)) [
  | inl z ↦ inl (eqb-true c 48 z, no_length cs (let k = lead (eqb-true c 48 z) in omega (arith, k)))
  | inr z ↦ inr ((grind (arith, nat_tests), d.0.1), d.1)
]) (omega (arith, e, h)))

-- what stands behind the first bytes
pub rest_of : (text : List ℕ) (k : ℕ) → take (length text - k) (drop k text) ≡ drop k text
rest_of text k = take_all _ _ (let l = length-drop k text in omega (arith, l))

-- the decimal at the front of a text
pub decimal_at : (text : List ℕ) (n k : ℕ) → AllDigits (take k text) → n ≡ digits_value (take k text) → n < 2 ^ 64 → k < length text
    → (0 < k) × (get_or text 0 0 ≡ 48 → k ≡ 1) → text ≡ decimal n ++ take (length text - k) (drop k text)
decimal_at text n k d e h within lead =
    let size : length (take k text) ≡ k = length-take-le k text (omega (arith, within)) in
    let first : get_or (take k text) 0 0 ≡ get_or text 0 0 = get_or-take k text 0 0 lead.0 in
    let c = decimal_of_digits (take k text) n d e h (omega (arith, size, lead.0)) (λ z. size ∙ lead.1 (sym first ∙ z)) in
    sym (take-append-drop k text) ∙ ap (λ (t : List ℕ). t ++ drop k text) c ∙ ap (λ (t : List ℕ). decimal n ++ t) (sym (rest_of text k))

-- the decimal at the front of a text, before a byte
pub decimal_stopped : (text : List ℕ) (n k stop : ℕ) → AllDigits (take k text) → n ≡ digits_value (take k text) → n < 2 ^ 64 → k < length text
    → 0 < k → (get_or text 0 0 ≡ 48 → k ≡ 1) → get_or text k 0 ≡ stop → text ≡ decimal n ++ stop ∷ take (length text - (k + 1)) (drop (k + 1) text)
decimal_stopped text n k stop d e h within some lead s =
    let next : suc k ≡ k + 1 = omega arith in
    let behind : drop k text ≡ stop ∷ drop (suc k) text = drop-cons text k 0 within ∙ ap (λ (b : ℕ). b ∷ drop (suc k) text) s in
    decimal_at text n k d e h within (some, lead) ∙ ap (λ (t : List ℕ). decimal n ++ t) (rest_of text k ∙ behind
    ∙ ap (λ (m : ℕ). stop ∷ drop m text) next ∙ ap (λ (t : List ℕ). stop ∷ t) (sym (rest_of text (k + 1))))

-- more than one digit with a zero in front write less than as many digits without
zero_in_front : (text : List ℕ) (k : ℕ) → AllDigits (take (k + 2) text) → k + 2 < length text → get_or text 0 0 ≡ 48 → digits_value (take (k + 2) text) < 10 ^ (k + 1)
zero_in_front [] k d l z = absurd (omega (arith, l))
zero_in_front (b ∷ bs) k d l z =
    let size : length (take (k + 1) bs) ≡ k + 1 = length-take-le (k + 1) bs (omega (arith, l)) in
    let one : k + 2 ≡ suc (k + 1) = omega arith in
    let ds : AllDigits (b ∷ take (k + 1) bs) = subst (λ (m : ℕ). AllDigits (take m (b ∷ bs))) one d in
    let few = value_below 0 (take (k + 1) bs) ds.1 in
    let scale : 10 ^ length (take (k + 1) bs) ≡ 10 ^ (k + 1) = ap (λ (m : ℕ). 10 ^ m) size in
    let same : digits_value (take (k + 2) (b ∷ bs)) ≡ digits_value (take (k + 1) bs) = rw one (rw z refl) in
    omega (arith, few, scale, same)

-- so a number that isn't less has no zero in front
pub no_zero_in_front : (text : List ℕ) (n k : ℕ) → AllDigits (take k text) → n ≡ digits_value (take k text) → k < length text
    → 0 < k → (1 < k → 10 ^ (k - 1) ≤ n) → get_or text 0 0 ≡ 48 → k ≡ 1
no_zero_in_front text n zero d e l some least z = absurd (omega (arith, some))
no_zero_in_front text n (suc zero) d e l some least z = refl
no_zero_in_front text n (suc (suc k)) d e l some least z =
    let two : suc (suc k) ≡ k + 2 = omega arith in
    let less : suc (suc k) - 1 ≡ k + 1 = omega arith in
    let below = zero_in_front text k (subst (λ (m : ℕ). AllDigits (take m text)) two d) (omega (arith, l)) z in
    let scale : 10 ^ (suc (suc k) - 1) ≡ 10 ^ (k + 1) = ap (λ (m : ℕ). 10 ^ m) less in
    let same : digits_value (take (suc (suc k)) text) ≡ digits_value (take (k + 2) text) = ap (λ (m : ℕ). digits_value (take m text)) two in
    let most = least (omega arith) in
    absurd (omega (arith, below, scale, same, most, e))

AllDigits-append : (xs ys : List ℕ) → AllDigits xs → AllDigits ys → AllDigits (xs ++ ys)
AllDigits-append [] ys p q = q
AllDigits-append (x ∷ xs) ys p q = (p.0, AllDigits-append xs ys p.1 q)

digits_value_from-append : (n : ℕ) (xs ys : List ℕ) → digits_value_from n (xs ++ ys) ≡ digits_value_from (digits_value_from n xs) ys
digits_value_from-append n [] ys = refl
digits_value_from-append n (x ∷ xs) ys = digits_value_from-append (10 * n + (x - 48)) xs ys

-- digits, and more behind them
pub digits_more : (text : List ℕ) (k m : ℕ) → AllDigits (take k text) → AllDigits (take m (drop k text)) → AllDigits (take (k + m) text)
digits_more text k m p q = subst AllDigits (sym (take-add k m text)) (AllDigits-append (take k text) (take m (drop k text)) p q)

pub value_more : (text : List ℕ) (k m : ℕ) → digits_value (take (k + m) text) ≡ digits_value_from (digits_value (take k text)) (take m (drop k text))
value_more text k m = ap digits_value (take-add k m text) ∙ digits_value_from-append 0 (take k text) (take m (drop k text))

-- the parts of a numeral, and what follows it
pub numeral_joined : (neg imag : Bool) (num den stop : ℕ) (text unsigned behind_num behind_den behind rest : List ℕ) (x : Numeral)
    → text ≡ sign_text neg ++ unsigned → unsigned ≡ decimal num ++ behind_num → behind_num ≡ shown_den den ++ behind_den → behind_den ≡ mark_text imag ++ behind
    → behind ≡ stop ∷ rest → x.neg ≡ neg → x.num ≡ num → x.den ≡ den → x.imag ≡ imag → text ≡ number_before x stop rest
numeral_joined neg imag num den stop text unsigned behind_num behind_den behind rest x a b c d e p q r s =
    let whole : text ≡ sign_text neg ++ (decimal num ++ (shown_den den ++ (mark_text imag ++ stop ∷ rest))) = a
    ∙ ap (λ (t : List ℕ). sign_text neg ++ t) (b ∙ ap (λ (t : List ℕ). decimal num ++ t) (c ∙ ap (λ (t : List ℕ). shown_den den ++ t) (d ∙ ap (λ (t : List ℕ). mark_text imag ++ t) e))) in
    rw (p, q, r, s) (whole ∙ sym (append_assoc (sign_text neg) (decimal num ++ (shown_den den ++ mark_text imag)) (stop ∷ rest)
    ∙ ap (λ (t : List ℕ). sign_text neg ++ t) (append_assoc (decimal num) (shown_den den ++ mark_text imag) (stop ∷ rest)
    ∙ ap (λ (t : List ℕ). decimal num ++ t) (append_assoc (shown_den den) (mark_text imag) (stop ∷ rest)))))

tail_of : (front rest text : List ℕ) → text ≡ front ++ rest → drop (length text - length rest) text ≡ rest
tail_of front rest text e =
    let l : length text ≡ length front + length rest = ap length e ∙ length-append front rest in
    let k : length text - length rest ≡ length front = omega (arith, l) in
    ap (λ (n : ℕ). drop n text) k ∙ ap (drop (length front)) e ∙ drop-append_seam front rest

-- what follows a numeral, found by its length
pub numeral_ahead : (neg imag : Bool) (num den stop : ℕ) (unsigned behind_num behind_den behind rest : List ℕ) (x : Numeral)
    → unsigned ≡ decimal num ++ behind_num → behind_num ≡ shown_den den ++ behind_den → behind_den ≡ mark_text imag ++ behind → behind ≡ stop ∷ rest
    → x.neg ≡ neg → x.num ≡ num → x.den ≡ den → x.imag ≡ imag → sign_text neg ++ unsigned ≡ number_before x stop (drop (length unsigned - length rest) unsigned)
numeral_ahead neg imag num den stop unsigned behind_num behind_den behind rest x b c d e p q r s =
    let end : List ℕ = mark_text imag ++ stop ∷ [] in
    let front : List ℕ = decimal num ++ (shown_den den ++ end) in
    let parts : unsigned ≡ decimal num ++ (shown_den den ++ (mark_text imag ++ stop ∷ rest)) = b
    ∙ ap (λ (t : List ℕ). decimal num ++ t) (c ∙ ap (λ (t : List ℕ). shown_den den ++ t) (d ∙ ap (λ (t : List ℕ). mark_text imag ++ t) e)) in
    let joined : front ++ rest ≡ decimal num ++ (shown_den den ++ (mark_text imag ++ stop ∷ rest)) = append_assoc (decimal num) (shown_den den ++ end) rest
    ∙ ap (λ (t : List ℕ). decimal num ++ t) (append_assoc (shown_den den) end rest ∙ ap (λ (t : List ℕ). shown_den den ++ t) (append_assoc (mark_text imag) (stop ∷ []) rest)) in
    numeral_joined neg imag num den stop (sign_text neg ++ unsigned) unsigned behind_num behind_den behind rest x refl b c d e p q r s
    ∙ ap (number_before x stop) (sym (tail_of front rest unsigned (parts ∙ sym joined)))

-- the parts of a whole numeral without mark
pub whole_joined : (neg : Bool) (num stop : ℕ) (text unsigned rest : List ℕ) (x : Numeral) → text ≡ sign_text neg ++ unsigned
    → unsigned ≡ decimal num ++ stop ∷ rest → x.neg ≡ neg → x.num ≡ num → x.den ≡ 1 → x.imag ≡ false → text ≡ number_before x stop rest
whole_joined neg num stop text unsigned rest x a b p q r s =
    numeral_joined neg false num 1 stop text unsigned (stop ∷ rest) (stop ∷ rest) (stop ∷ rest) rest x a b refl refl refl p q r s

-- one digit is the decimal of its value
pub one_digit : (k : ℕ) → k < 10 → (48 + k) ∷ [] ≡ decimal k
one_digit k h = decimal_of_digits ((48 + k) ∷ []) k ((omega arith, omega (arith, h)), tt) (omega arith) (omega (arith, h)) (omega arith) (λ z. refl)

-- the parts of a line, and what follows it
pub leg_joined : (k : ℕ) (text numerals waves rest : List ℕ) (leg : Leg Numeral) → text ≡ decimal k ++ 32 ∷ numerals
    → numerals ≡ four_before leg.momentum 32 waves → waves ≡ wave_before leg.wave rest → text ≡ leg_before k leg rest
leg_joined k text numerals waves rest leg e b c =
    e ∙ ap (λ (t : List ℕ). decimal k ++ 32 ∷ t) (b ∙ ap (four_before leg.momentum 32) c)

-- what follows is shorter
number_shorter : (x : Numeral) (stop : ℕ) (rest : List ℕ) → length rest < length (number_before x stop rest)
number_shorter x stop rest = (let l = length-append (numeral_text x) (stop ∷ rest) in omega (arith, l))

four_shorter : (p : Four Numeral) (stop : ℕ) (rest : List ℕ) → length rest < length (four_before p stop rest)
four_shorter p stop rest =
    let z = number_before p.z stop rest in
    let y = number_before p.y 32 z in
    let x = number_before p.x 32 y in
    let a = number_shorter p.t 32 x in
    let b = number_shorter p.x 32 y in
    let c = number_shorter p.y 32 z in
    let d = number_shorter p.z stop rest in
    omega (arith, a, b, c, d)

wave_shorter : (w : Wave Numeral) (rest : List ℕ) → length rest < length (wave_before w rest)
wave_shorter (wave.Scalar x) rest = number_shorter x 10 rest
wave_shorter (wave.Row p) rest = four_shorter p 10 rest
wave_shorter (wave.Column p) rest = four_shorter p 10 rest
wave_shorter (wave.Vector p) rest = four_shorter p 10 rest

pub leg_shorter : (k : ℕ) (leg : Leg Numeral) (rest : List ℕ) → length rest + 1 ≤ length (leg_before k leg rest)
leg_shorter k leg rest =
    let a = wave_shorter leg.wave rest in
    let b = four_shorter leg.momentum 32 (wave_before leg.wave rest) in
    let c = length-append (decimal k) (32 ∷ four_before leg.momentum 32 (wave_before leg.wave rest)) in
    omega (arith, a, b, c)
