-- One more line in a text.
use Rattle.std.proofs.Common.{◌≡◌, ◌≢◌, ℕ, suc, ◌+◌, ◌<◌, List, [], ◌∷◌, ◌++◌, length, take, get_or, Bool, true, false, cond, eqb, flat_map, codes, refl, ap, ap₂, sym, ◌∙◌, append_assoc, append-nil, length-append, arith, add-zero}
use Rattle.std.proofs.lemmas.Bool.Decides.{nat_tests}
use Rattle.std.proofs.lemmas.List.{take_more, length-take-le}
use Rattle.om_colour.specs.declared.texts.Extent.{Extent}
use Rattle.om_colour.specs.Texts.{line_item, line_items, with_commas, one_more}

line_items-push : (x : Extent) (s : ℕ) (ends : List ℕ) (e : ℕ) → line_items x s (ends ++ e ∷ []) ≡ line_items x s ends ++ cond (eqb e 0) [] (line_item x (s + length ends) e ∷ [])
line_items-push x s [] e = ap (λ n. cond (eqb e 0) [] (line_item x n e ∷ [])) (sym (add-zero s))
line_items-push x s (d ∷ ends) e = by (eqb d 0) _ _ _ (line_items-push x (s + 1) ends e ∙ ap (λ n. line_items x (s + 1) ends ++ cond (eqb e 0) [] (line_item x n e ∷ [])) same_leg)
  where
    same_leg : s + 1 + length ends ≡ s + suc (length ends)
    same_leg = omega arith

    by : (b : Bool) (a c z : List (List ℕ)) → a ≡ c ++ z → cond b a (line_item x s d ∷ a) ≡ cond b c (line_item x s d ∷ c) ++ z
    by true a c z e = e
    by false a c z e = ap (λ w. line_item x s d ∷ w) e

abbrev behind_comma : List ℕ → List ℕ
behind_comma y = codes "," ++ y

behind_commas-push : (xs : List (List ℕ)) (y : List ℕ) → flat_map behind_comma (xs ++ y ∷ []) ≡ flat_map behind_comma xs ++ behind_comma y
behind_commas-push [] y = append-nil (behind_comma y)
behind_commas-push (x ∷ xs) y = ap (λ w. behind_comma x ++ w) (behind_commas-push xs y) ∙ sym (append_assoc (behind_comma x) (flat_map behind_comma xs) (behind_comma y))

with_commas-push : (xs : List (List ℕ)) (y : List ℕ) → with_commas (xs ++ y ∷ []) ≡ with_commas xs ++ one_more (length xs) y
with_commas-push [] y = append-nil y
with_commas-push (x ∷ xs) y =
    let t : eqb (suc (length xs)) 0 ≡ false = grind (arith, nat_tests) in
    rw t (ap (λ w. x ++ w) (behind_commas-push xs y) ∙ sym (append_assoc x (flat_map behind_comma xs) (behind_comma y)))

-- the items of one leg more
line_items-take : (x : Extent) (ends : List ℕ) (k : ℕ) → k < length ends → line_items x 1 (take (k + 1) ends) ≡ line_items x 1 (take k ends) ++ cond (eqb (get_or ends k 0) 0) [] (line_item x (k + 1) (get_or ends k 0) ∷ [])
line_items-take x ends k l =
    ap (line_items x 1) (take_more ends k 0 l) ∙ line_items-push x 1 (take k ends) (get_or ends k 0)
    ∙ ap (λ n. line_items x 1 (take k ends) ++ cond (eqb (get_or ends k 0) 0) [] (line_item x n (get_or ends k 0) ∷ [])) leg
  where
    leg : 1 + length (take k ends) ≡ k + 1
    leg = omega (arith, length-take-le k ends (omega arith))

-- where no line starts
pub line_items-none : (x : Extent) (ends : List ℕ) (k : ℕ) → k < length ends → get_or ends k 0 ≡ 0 → line_items x 1 (take (k + 1) ends) ≡ line_items x 1 (take k ends)
line_items-none x ends k l e = let t : eqb (get_or ends k 0) 0 ≡ true = grind (arith, nat_tests) in line_items-take x ends k l ∙ rw t (append-nil (line_items x 1 (take k ends)))

-- where one starts
pub line_items-one : (x : Extent) (ends : List ℕ) (k : ℕ) → k < length ends → get_or ends k 0 ≢ 0 → line_items x 1 (take (k + 1) ends) ≡ line_items x 1 (take k ends) ++ line_item x (k + 1) (get_or ends k 0) ∷ []
line_items-one x ends k l n = let t : eqb (get_or ends k 0) 0 ≡ false = grind (arith, nat_tests) in line_items-take x ends k l ∙ rw t refl

pub text_of_one : (items more : List (List ℕ)) (item start before now : List ℕ) (count : ℕ) → more ≡ items ++ item ∷ [] → before ≡ start ++ with_commas items → count ≡ length items → now ≡ before ++ one_more count item
    → now ≡ start ++ with_commas more
text_of_one items more item start before now count m b c n =
    n ∙ ap₂ (λ t k. t ++ one_more k item) b c ∙ append_assoc start (with_commas items) (one_more (length items) item)
    ∙ ap (λ t. start ++ t) (sym (with_commas-push items item) ∙ ap with_commas (sym m))

pub count_of_one : (items more : List (List ℕ)) (item : List ℕ) (count : ℕ) → more ≡ items ++ item ∷ [] → count ≡ length items → count + 1 ≡ length more
count_of_one items more item count m c = omega (arith, ap length m, length-append items (item ∷ []))
