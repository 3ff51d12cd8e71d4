-- The text of a set of legs, leg by leg.
use Rattle.std.proofs.Common.{◌≡◌, ℕ, zero, suc, ◌+◌, ◌-◌, ◌*◌, ◌<◌, ◌≤◌, Bool, true, false, cond, List, [], ◌∷◌, ◌++◌, length, map, filter, decimal, refl, sym, ap, ◌∙◌, arith, append_assoc, append-nil, add-zero}
use Rattle.std.specs.List.{join_with_byte, range_with_len}
use Rattle.std.proofs.lemmas.List.{map-append, length-append}
use Rattle.std.proofs.lemmas.List.Elements.{filter-append}
use Rattle.om_legs.specs.Legs.{holds, legs_of}
use Rattle.om_model.specs.LegSetText.{leg_set_word}

join_push : (c : ℕ) (x : List ℕ) (xs : List (List ℕ)) (y : List ℕ) → join_with_byte c (x ∷ xs ++ y ∷ []) ≡ join_with_byte c (x ∷ xs) ++ c ∷ y
join_push c x [] y = refl
join_push c x (z ∷ zs) y = ap (λ t. x ++ c ∷ t) (join_push c z zs y) ∙ sym (append_assoc x (c ∷ join_with_byte c (z ∷ zs)) (c ∷ y))

range_more : (a n : ℕ) → range_with_len a (suc n) ≡ range_with_len a n ++ (a + n) ∷ []
range_more a zero = ap (λ k. k ∷ []) (sym (add-zero a))
range_more a (suc n) = let e : a + 1 + n ≡ a + suc n = omega arith in ap (λ ks. a ∷ ks) (range_more (a + 1) n ∙ ap (λ k. range_with_len (a + 1) n ++ k ∷ []) e)

-- the legs below a number that are chosen
abbrev pub legs_below : (ℕ → Bool) → ℕ → List ℕ
legs_below chosen leg = filter chosen (range_with_len 1 (leg - 1))

-- one leg more
pub legs_more : (chosen : ℕ → Bool) (leg : ℕ) → 1 ≤ leg → legs_below chosen (leg + 1) ≡ legs_below chosen leg ++ cond (chosen leg) (leg ∷ []) []
legs_more chosen leg h =
    let e : leg + 1 - 1 ≡ suc (leg - 1) = omega arith in
    let f : 1 + (leg - 1) ≡ leg = omega arith in
    ap (λ n. filter chosen (range_with_len 1 n)) e
    ∙ ap (filter chosen) (range_more 1 (leg - 1) ∙ ap (λ k. range_with_len 1 (leg - 1) ++ k ∷ []) f)
    ∙ filter-append chosen (range_with_len 1 (leg - 1)) (leg ∷ [])

abbrev pub joined_legs : List ℕ → List ℕ
joined_legs legs = join_with_byte 43 (map decimal legs)

joined_more : (legs : List ℕ) (leg : ℕ) → 0 < length legs → joined_legs (legs ++ leg ∷ []) ≡ joined_legs legs ++ 43 ∷ decimal leg
joined_more [] leg h = absurd (omega arith)
joined_more (k ∷ legs) leg h = ap (join_with_byte 43) (map-append decimal (k ∷ legs) (leg ∷ [])) ∙ join_push 43 (decimal k) (map decimal legs) (decimal leg)

-- the line after the first legs
pub record LegsIn (chosen : ℕ → Bool) (leg : ℕ) (before line : List ℕ) (count : ℕ) : Type 0 where
  pub text : line ≡ before ++ joined_legs (legs_below chosen leg)
  pub counted : count ≡ length (legs_below chosen leg)
  pub few : count ≤ leg - 1
  pub short : length line ≤ length before + 3 * count

no_leg : (b : Bool) (legs : List ℕ) (leg : ℕ) → b ≡ false → legs ++ cond b (leg ∷ []) [] ≡ legs
no_leg true legs leg e = cc
no_leg false legs leg e = append-nil legs

a_leg : (b : Bool) (legs : List ℕ) (leg : ℕ) → b ≡ true → legs ++ cond b (leg ∷ []) [] ≡ legs ++ leg ∷ []
a_leg true legs leg e = refl
a_leg false legs leg e = cc

pub leg_passed : (chosen : ℕ → Bool) (leg : ℕ) (before line now : List ℕ) (count same : ℕ) → 1 ≤ leg → chosen leg ≡ false → same ≡ count → now ≡ line → LegsIn chosen leg before line count → LegsIn chosen (leg + 1) before now same
leg_passed chosen leg before line now count same h out o e i =
    let kept : legs_below chosen (leg + 1) ≡ legs_below chosen leg = legs_more chosen leg h ∙ no_leg (chosen leg) (legs_below chosen leg) leg out in
    record {
      text = e ∙ i.text ∙ ap (λ ls. before ++ joined_legs ls) (sym kept);
      counted = o ∙ i.counted ∙ ap length (sym kept);
      few = omega (arith, i.few);
      short = omega (arith, i.short, ap length e);
    }

first_leg : (legs before line : List ℕ) (leg : ℕ) → length legs ≡ 0 → line ≡ before ++ joined_legs legs → line ++ decimal leg ≡ before ++ joined_legs (legs ++ leg ∷ [])
first_leg [] before line leg h e = ap (λ t. t ++ decimal leg) (e ∙ append-nil before)
first_leg (k ∷ legs) before line leg h e = absurd (omega arith)

pub leg_first : (chosen : ℕ → Bool) (leg : ℕ) (before line now : List ℕ) (count one : ℕ) → 1 ≤ leg → chosen leg ≡ true → count ≡ 0 → one ≡ count + 1 → now ≡ line ++ decimal leg → length now ≤ length line + 2 → LegsIn chosen leg before line count → LegsIn chosen (leg + 1) before now one
leg_first chosen leg before line now count one h has none o e short i =
    let more : legs_below chosen (leg + 1) ≡ legs_below chosen leg ++ leg ∷ [] = legs_more chosen leg h ∙ a_leg (chosen leg) (legs_below chosen leg) leg has in
    record {
      text = e ∙ first_leg (legs_below chosen leg) before line leg (sym i.counted ∙ none) i.text ∙ ap (λ ls. before ++ joined_legs ls) (sym more);
      counted = omega (arith, i.counted, ap length more, length-append (legs_below chosen leg) (leg ∷ []));
      few = omega (arith, i.few);
      short = omega (arith, i.short);
    }

pub leg_next : (chosen : ℕ → Bool) (leg : ℕ) (before line now : List ℕ) (count one : ℕ) → 1 ≤ leg → chosen leg ≡ true → 0 < count → one ≡ count + 1 → now ≡ (line ++ 43 ∷ []) ++ decimal leg → length now ≤ length line + 3 → LegsIn chosen leg before line count → LegsIn chosen (leg + 1) before now one
leg_next chosen leg before line now count one h has some o e short i =
    let legs = legs_below chosen leg in
    let more : legs_below chosen (leg + 1) ≡ legs ++ leg ∷ [] = legs_more chosen leg h ∙ a_leg (chosen leg) legs leg has in
    let grown : now ≡ before ++ joined_legs (legs ++ leg ∷ []) =
    e ∙ append_assoc line (43 ∷ []) (decimal leg) ∙ ap (λ t. t ++ 43 ∷ decimal leg) i.text ∙ append_assoc before (joined_legs legs) (43 ∷ decimal leg)
    ∙ ap (λ t. before ++ t) (sym (joined_more legs leg (omega (arith, i.counted)))) in
    record {
      text = grown ∙ ap (λ ls. before ++ joined_legs ls) (sym more);
      counted = omega (arith, i.counted, ap length more, length-append legs (leg ∷ []));
      few = omega (arith, i.few);
      short = omega (arith, i.short);
    }

-- all legs
pub legs_all : (set leg : ℕ) (before line : List ℕ) (count : ℕ) → 13 ≤ leg → leg ≤ 13 → LegsIn (holds set) leg before line count → line ≡ before ++ leg_set_word set
unfolding legs_of
legs_all set leg before line count least most i = i.text ∙ ap (λ n. before ++ joined_legs (filter (holds set) (range_with_len 1 n))) (let e : leg - 1 ≡ 12 = omega arith in e)
