-- The slots of the colours, and the ways of a row.
use Rattle.std.proofs.Common.{◌≡◌, ℕ, ◌+◌, ◌<◌, ◌≤◌, Bool, true, false, cond, List, [], ◌∷◌, ◌++◌, length, take, get_or, refl, ap, ap₂, sym, ◌∙◌, arith}
use Rattle.std.proofs.lemmas.List.{get_or-take, take_more, length-take-le, length-take}
use Rattle.om_colour.specs.declared.Colour.{Colour}
use Rattle.om_colour.specs.declared.Colour.TheVariants.{One, Three, AntiThree, Eight}
use Rattle.om_colour.specs.Table.{Row, same_colour, slots_from, way_of}

slots_from-push : (s : ℕ) (k : Colour) (cs : List Colour) (c : Colour) → slots_from s k (cs ++ c ∷ []) ≡ slots_from s k cs ++ cond (same_colour c k) ((s + length cs) ∷ []) []
slots_from-push s k [] c = by (same_colour c k)
  where
    by : (b : Bool) → cond b (s ∷ []) [] ≡ cond b ((s + 0) ∷ []) []
    by true = ap (λ n. n ∷ []) (omega arith)
    by false = refl
slots_from-push s k (d ∷ cs) c = by (same_colour d k) _ _ _ (slots_from-push (s + 1) k cs c ∙ ap (λ n. slots_from (s + 1) k cs ++ cond (same_colour c k) (n ∷ []) []) same_slot)
  where
    same_slot : s + 1 + length cs ≡ s + length (d ∷ cs)
    same_slot = omega arith

    by : (b : Bool) (a c z : List ℕ) → a ≡ c ++ z → cond b (s ∷ a) a ≡ cond b (s ∷ c) c ++ z
    by true a c z e = ap (λ w. s ∷ w) e
    by false a c z e = e

-- one slot more
pub slots_from-take : (k : Colour) (cs : List Colour) (n : ℕ) (d : Colour) → n < length cs
    → slots_from 1 k (take (n + 1) cs) ≡ slots_from 1 k (take n cs) ++ cond (same_colour (get_or cs n d) k) ((n + 1) ∷ []) []
slots_from-take k cs n d l =
    ap (slots_from 1 k) (take_more cs n d l) ∙ slots_from-push 1 k (take n cs) (get_or cs n d)
    ∙ ap (λ m. slots_from 1 k (take n cs) ++ cond (same_colour (get_or cs n d) k) (m ∷ []) []) number
  where
    number : 1 + length (take n cs) ≡ n + 1
    number = omega (arith, length-take-le n cs (omega arith))

pub one_more : (k : Colour) (cs : List Colour) (n : ℕ) (d : Colour) (before now : List ℕ) (has : Bool) → n < length cs
    → before ≡ slots_from 1 k (take n cs) → has ≡ same_colour (get_or cs n d) k → now ≡ before ++ cond has ((n + 1) ∷ []) [] → now ≡ slots_from 1 k (take (n + 1) cs)
one_more k cs n d before now has l b h e =
    e ∙ ap₂ (λ found more. found ++ cond more ((n + 1) ∷ []) []) b h ∙ sym (slots_from-take k cs n d l)

-- no slot has two colours
pub coloured_count : (s : ℕ) (cs : List Colour) → length (slots_from s Three cs) + length (slots_from s AntiThree cs) + length (slots_from s Eight cs) ≤ length cs
coloured_count s [] = omega arith
coloured_count s (One ∷ cs) = let h = coloured_count (s + 1) cs in omega arith
coloured_count s (Three ∷ cs) = let h = coloured_count (s + 1) cs in omega arith
coloured_count s (AntiThree ∷ cs) = let h = coloured_count (s + 1) cs in omega arith
coloured_count s (Eight ∷ cs) = let h = coloured_count (s + 1) cs in omega arith

-- a way of the row, in a longer list of ways
pub way_of-seen : (r : Row) (n k : ℕ) (ways : List (List ℕ)) → take n ways ≡ r.ways → k < length r.ways → get_or ways k [] ≡ way_of r k
way_of-seen r n k ways e l = sym (get_or-take n ways k [] below) ∙ ap (λ ws. get_or ws k []) e
  where
    below : k < n
    below = omega (arith, length-take n ways, ap length e)
