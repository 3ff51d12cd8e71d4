-- Reading a line piece by piece gives what its pieces say.
use Rattle.std.proofs.Common.{◌≡◌, ℕ, suc, ◌+◌, nat_eq, bytes_eq, decimal, true, false, List, [], ◌∷◌, length, take, drop, refl, ap, sym, ◌∙◌, arith, inl, inr}
use Rattle.std.specs.Prelude.{if◌then◌else◌, ◌==◌, Result, Ok, Err}
use Rattle.std.specs.List.{prefix_len, filter}
use Rattle.std.proofs.lemmas.Bool.{cases_Bool, eqb-true}
use Rattle.om_ring.specs.Ops.{Ops}
use Rattle.om_ring.specs.ResultSteps.{◌>>=◌}
use Rattle.om_lorentz.specs.declared.vectors.Four.{Four}
use Rattle.om_kernel.specs.declared.waves.Wave.{Wave}
use Rattle.om_kernel.specs.declared.waves.Wave.TheVariants as wave
use Rattle.om_event.specs.declared.cause.Cause.{Cause}
use Rattle.om_event.specs.declared.cause.Cause.TheVariants.{Count, LegNumber}
use Rattle.om_event.specs.declared.kind.WaveKind.{WaveKind}
use Rattle.om_event.specs.declared.kind.WaveKind.TheVariants.{Scalar, Row, Column, Vector}
use Rattle.om_event.specs.declared.line.Leg.{Leg}
use Rattle.om_event.specs.Pieces.{pieces, onto_first, is_space, in_piece, front_piece, behind_piece}
use Rattle.om_event.specs.Lines.{wave_size, value_in, values_in, four_at, leg_from, leg_in}
use Rattle.om_event.specs.LineScan.{number_at, four_in, wave_of_one, wave_of_four, numbers_in}

length-onto : (b : ℕ) (ps : List (List ℕ)) (n : ℕ) → length ps ≡ suc n → length (onto_first b ps) ≡ suc n
length-onto b [] n h = cc
length-onto b (p ∷ ps) n h = h

-- one piece more than there are spaces
pub count_pieces : (line : List ℕ) → length (pieces line) ≡ suc (length (filter is_space line))
count_pieces [] = refl
count_pieces (b ∷ bs) = elim (cases_Bool (nat_eq b 32)) [
  | inl e ↦ rw e (ap suc (count_pieces bs))
  | inr e ↦ rw e (length-onto b (pieces bs) (length (filter is_space bs)) (count_pieces bs))
]

-- the pieces behind the first
abbrev pub later : List ℕ → List (List ℕ)
later [] = []
later (b ∷ bs) = if b == 32 then pieces bs else later bs

take-more : (n b : ℕ) (bs : List ℕ) → take (1 + n) (b ∷ bs) ≡ b ∷ take n bs
take-more n b bs = (let e : 1 + n ≡ suc n = omega arith in rw e refl)

-- the first piece and the later ones
pub first_later : (line : List ℕ) → pieces line ≡ front_piece line ∷ later line
first_later [] = refl
first_later (b ∷ bs) = elim (cases_Bool (nat_eq b 32)) [
  | inl e ↦ rw e refl
  | inr e ↦ rw e (ap (onto_first b) (first_later bs) ∙ ap (λ (p : List ℕ). p ∷ later bs) (sym (take-more (prefix_len in_piece bs) b bs)))
]

drop-more : (n b : ℕ) (bs : List ℕ) → drop (1 + n + 1) (b ∷ bs) ≡ drop (n + 1) bs
drop-more n b bs = (let e : 1 + n + 1 ≡ suc (n + 1) = omega arith in rw e refl)

-- where there are later pieces, they are those of what follows the space
later_pieces : (line : List ℕ) (n : ℕ) → length (later line) ≡ suc n → later line ≡ pieces (behind_piece line)
later_pieces [] n h = absurd (let e : 0 ≡ suc n = h in omega (arith, e))
later_pieces (b ∷ bs) n h = elim (cases_Bool (nat_eq b 32)) [
  | inl e ↦ rw e refl
  | inr e ↦ (let k = later_pieces bs n (rw e at h) in rw e (k ∙ ap pieces (sym (drop-more (prefix_len in_piece bs) b bs))))
]

-- one piece, and more
pub one_more : (line : List ℕ) (n : ℕ) → length (pieces line) ≡ suc (suc n)
    → (pieces line ≡ front_piece line ∷ pieces (behind_piece line)) × (length (pieces (behind_piece line)) ≡ suc n)
one_more line n h =
    let e = first_later line in
    let l : length (later line) ≡ suc n = (let k : suc (length (later line)) ≡ suc (suc n) = sym (ap length e) ∙ h in omega arith) in
    let r = later_pieces line n l in
    (e ∙ ap (λ (ps : List (List ℕ)). front_piece line ∷ ps) r, sym (ap length r) ∙ l)

pub no_length : {A : Type 0} (xs : List A) → length xs ≡ 0 → xs ≡ []
no_length [] h = refl
no_length (x ∷ xs) h = cc

pub last_one : (line : List ℕ) → length (pieces line) ≡ 1 → pieces line ≡ front_piece line ∷ []
last_one line h =
    let e = first_later line in
    let k : suc (length (later line)) ≡ 1 = sym (ap length e) ∙ h in
    e ∙ ap (λ (ps : List (List ℕ)). front_piece line ∷ ps) (no_length (later line) (omega arith))

module _ {E : Type 0} (o : Ops E) where
  abbrev leg_with : Four E → Wave E → Leg E
  leg_with p w = record { momentum = p; wave = w }

  abbrev leg_made : (Four E → Wave E) → List E → Leg E
  leg_made made xs = leg_with (four_at o xs 0) (made (four_at o xs 4))

  -- five pieces are read as the numbers of a leg of one component
  five : (text : List ℕ) (r0 r1 r2 r3 r4 : Result E Cause)
      (e0 : value_in o (front_piece text) ≡ r0)
      (e1 : value_in o (front_piece (behind_piece text)) ≡ r1)
      (e2 : value_in o (front_piece (behind_piece (behind_piece text))) ≡ r2)
      (e3 : value_in o (front_piece (behind_piece (behind_piece (behind_piece text)))) ≡ r3)
      (e4 : value_in o (front_piece (behind_piece (behind_piece (behind_piece (behind_piece text))))) ≡ r4)
      → (values_in o (front_piece text ∷ front_piece (behind_piece text) ∷ front_piece (behind_piece (behind_piece text))
      ∷ front_piece (behind_piece (behind_piece (behind_piece text)))
      ∷ front_piece (behind_piece (behind_piece (behind_piece (behind_piece text))))
      ∷ []) >>= λ xs. Ok (leg_from o Scalar xs)) ≡ numbers_in o Scalar text
  unfolding numbers_in four_in wave_of_one number_at
  five text (Err c) r1 r2 r3 r4 e0 e1 e2 e3 e4 = rw e0 refl
  five text (Ok x0) (Err c) r2 r3 r4 e0 e1 e2 e3 e4 = rw (e0, e1) refl
  five text (Ok x0) (Ok x1) (Err c) r3 r4 e0 e1 e2 e3 e4 = rw (e0, e1, e2) refl
  five text (Ok x0) (Ok x1) (Ok x2) (Err c) r4 e0 e1 e2 e3 e4 = rw (e0, e1, e2, e3) refl
  five text (Ok x0) (Ok x1) (Ok x2) (Ok x3) (Err c) e0 e1 e2 e3 e4 = rw (e0, e1, e2, e3, e4) refl
  five text (Ok x0) (Ok x1) (Ok x2) (Ok x3) (Ok x4) e0 e1 e2 e3 e4 = rw (e0, e1, e2, e3, e4) refl

  -- eight pieces are read as the numbers of a leg of four components
  eight : (text : List ℕ) (made : Four E → Wave E) (r0 r1 r2 r3 r4 r5 r6 r7 : Result E Cause)
      (e0 : value_in o (front_piece text) ≡ r0)
      (e1 : value_in o (front_piece (behind_piece text)) ≡ r1)
      (e2 : value_in o (front_piece (behind_piece (behind_piece text))) ≡ r2)
      (e3 : value_in o (front_piece (behind_piece (behind_piece (behind_piece text)))) ≡ r3)
      (e4 : value_in o (front_piece (behind_piece (behind_piece (behind_piece (behind_piece text))))) ≡ r4)
      (e5 : value_in o (front_piece (behind_piece (behind_piece (behind_piece (behind_piece (behind_piece text)))))) ≡ r5)
      (e6 : value_in o (front_piece (behind_piece (behind_piece (behind_piece (behind_piece (behind_piece (behind_piece text))))))) ≡ r6)
      (e7 : value_in o (front_piece (behind_piece (behind_piece (behind_piece (behind_piece (behind_piece (behind_piece (behind_piece text)))))))) ≡ r7)
      → (values_in o (front_piece text ∷ front_piece (behind_piece text) ∷ front_piece (behind_piece (behind_piece text))
      ∷ front_piece (behind_piece (behind_piece (behind_piece text)))
      ∷ front_piece (behind_piece (behind_piece (behind_piece (behind_piece text))))
      ∷ front_piece (behind_piece (behind_piece (behind_piece (behind_piece (behind_piece text)))))
      ∷ front_piece (behind_piece (behind_piece (behind_piece (behind_piece (behind_piece (behind_piece text))))))
      ∷ front_piece (behind_piece (behind_piece (behind_piece (behind_piece (behind_piece (behind_piece (behind_piece text)))))))
      ∷ []) >>= λ xs. Ok (leg_made made xs)) ≡ (four_in o text >>= λ p. (wave_of_four o made p.1 >>= λ w. Ok (leg_with p.0 w)))
  unfolding four_in wave_of_four number_at
  eight text made (Err c) r1 r2 r3 r4 r5 r6 r7 e0 e1 e2 e3 e4 e5 e6 e7 = rw e0 refl
  eight text made (Ok x0) (Err c) r2 r3 r4 r5 r6 r7 e0 e1 e2 e3 e4 e5 e6 e7 = rw (e0, e1) refl
  eight text made (Ok x0) (Ok x1) (Err c) r3 r4 r5 r6 r7 e0 e1 e2 e3 e4 e5 e6 e7 = rw (e0, e1, e2) refl
  eight text made (Ok x0) (Ok x1) (Ok x2) (Err c) r4 r5 r6 r7 e0 e1 e2 e3 e4 e5 e6 e7 = rw (e0, e1, e2, e3) refl
  eight text made (Ok x0) (Ok x1) (Ok x2) (Ok x3) (Err c) r5 r6 r7 e0 e1 e2 e3 e4 e5 e6 e7 = rw (e0, e1, e2, e3, e4) refl
  eight text made (Ok x0) (Ok x1) (Ok x2) (Ok x3) (Ok x4) (Err c) r6 r7 e0 e1 e2 e3 e4 e5 e6 e7 = rw (e0, e1, e2, e3, e4, e5) refl
  eight text made (Ok x0) (Ok x1) (Ok x2) (Ok x3) (Ok x4) (Ok x5) (Err c) r7 e0 e1 e2 e3 e4 e5 e6 e7 = rw (e0, e1, e2, e3, e4, e5, e6) refl
  eight text made (Ok x0) (Ok x1) (Ok x2) (Ok x3) (Ok x4) (Ok x5) (Ok x6) (Err c) e0 e1 e2 e3 e4 e5 e6 e7 = rw (e0, e1, e2, e3, e4, e5, e6, e7) refl
  eight text made (Ok x0) (Ok x1) (Ok x2) (Ok x3) (Ok x4) (Ok x5) (Ok x6) (Ok x7) e0 e1 e2 e3 e4 e5 e6 e7 = rw (e0, e1, e2, e3, e4, e5, e6, e7) refl

  reads_five : (text : List ℕ) → length (pieces text) ≡ 5 → (values_in o (pieces text) >>= λ xs. Ok (leg_from o Scalar xs)) ≡ numbers_in o Scalar text
  reads_five text h0 =
      let a = one_more text 3 h0 in
      let b = one_more (behind_piece text) 2 a.1 in
      let c = one_more (behind_piece (behind_piece text)) 1 b.1 in
      let d = one_more (behind_piece (behind_piece (behind_piece text))) 0 c.1 in
      let e = last_one (behind_piece (behind_piece (behind_piece (behind_piece text)))) d.1 in
      rw (a.0, b.0, c.0, d.0, e) (five text _ _ _ _ _ refl refl refl refl refl)

  reads_eight : (text : List ℕ) (made : Four E → Wave E) → length (pieces text) ≡ 8
      → (values_in o (pieces text) >>= λ xs. Ok (leg_made made xs)) ≡ (four_in o text >>= λ p. (wave_of_four o made p.1 >>= λ w. Ok (leg_with p.0 w)))
  reads_eight text made h0 =
      let a = one_more text 6 h0 in
      let b = one_more (behind_piece text) 5 a.1 in
      let c = one_more (behind_piece (behind_piece text)) 4 b.1 in
      let d = one_more (behind_piece (behind_piece (behind_piece text))) 3 c.1 in
      let e = one_more (behind_piece (behind_piece (behind_piece (behind_piece text)))) 2 d.1 in
      let f = one_more (behind_piece (behind_piece (behind_piece (behind_piece (behind_piece text))))) 1 e.1 in
      let g = one_more (behind_piece (behind_piece (behind_piece (behind_piece (behind_piece (behind_piece text)))))) 0 f.1 in
      let last = last_one (behind_piece (behind_piece (behind_piece (behind_piece (behind_piece (behind_piece (behind_piece text))))))) g.1 in
      rw (a.0, b.0, c.0, d.0, e.0, f.0, g.0, last) (eight text made _ _ _ _ _ _ _ _ refl refl refl refl refl refl refl refl)

  -- as many pieces as the leg asks are read as its numbers
  reads_numbers : (kind : WaveKind) (text : List ℕ) → length (pieces text) ≡ 4 + wave_size kind
      → (values_in o (pieces text) >>= λ xs. Ok (leg_from o kind xs)) ≡ numbers_in o kind text
  unfolding numbers_in
  reads_numbers Scalar text h = reads_five text h
  reads_numbers Row text h = reads_eight text wave.Row h
  reads_numbers Column text h = reads_eight text wave.Column h
  reads_numbers Vector text h = reads_eight text wave.Vector h

  spaces : (line : List ℕ) → length (filter is_space line) ≡ length (later line)
  spaces line = (let e : suc (length (filter is_space line)) ≡ suc (length (later line)) = sym (count_pieces line)
      ∙ ap length (first_later line) in omega (arith, e))

  -- another number of pieces
  pub miscounted : (kind : WaveKind) (k n : ℕ) (line : List ℕ) → n ≡ length (filter is_space line) → nat_eq n (4 + wave_size kind) ≡ false
      → leg_in o kind k line ≡ Err Count
  unfolding leg_in
  miscounted kind k n line e h = (let f : nat_eq (length (later line)) (4 + wave_size kind) ≡ false = ap (λ (m : ℕ). nat_eq m (4 + wave_size kind)) (sym (e ∙ spaces line)) ∙ h in rw (first_later line) (rw f refl))

  -- the first piece isn't the number of the leg
  pub misnumbered : (kind : WaveKind) (k n : ℕ) (line : List ℕ) → n ≡ length (filter is_space line) → nat_eq n (4 + wave_size kind) ≡ true
      → bytes_eq (front_piece line) (decimal k) ≡ false → leg_in o kind k line ≡ Err LegNumber
  unfolding leg_in
  misnumbered kind k n line e h g = (let f : nat_eq (length (later line)) (4 + wave_size kind) ≡ true = ap (λ (m : ℕ). nat_eq m (4 + wave_size kind)) (sym (e ∙ spaces line)) ∙ h in rw (first_later line) (rw (f, g) refl))

  some_wave : (kind : WaveKind) → 4 + wave_size kind ≡ suc (3 + wave_size kind)
  some_wave kind = omega arith

  -- the numerals
  pub numbered : (kind : WaveKind) (k n : ℕ) (line : List ℕ) → n ≡ length (filter is_space line) → nat_eq n (4 + wave_size kind) ≡ true
      → bytes_eq (front_piece line) (decimal k) ≡ true → leg_in o kind k line ≡ numbers_in o kind (behind_piece line)
  unfolding leg_in
  numbered kind k n line e h g =
      let f : nat_eq (length (later line)) (4 + wave_size kind) ≡ true = ap (λ (m : ℕ). nat_eq m (4 + wave_size kind)) (sym (e ∙ spaces line)) ∙ h in
      let l : length (later line) ≡ 4 + wave_size kind = eqb-true _ _ f in
      let p = later_pieces line (3 + wave_size kind) (l ∙ some_wave kind) in
      rw (first_later line) (rw (f, g) (ap (λ (ps : List (List ℕ)). values_in o ps >>= λ xs. Ok (leg_from o kind xs)) p
      ∙ reads_numbers kind (behind_piece line) (sym (ap length p) ∙ l)))

pub ruleset line_rules = (miscounted, misnumbered, numbered)
