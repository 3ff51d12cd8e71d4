-- One step of each loop of pruning, and its end.
use Rattle.std.proofs.Common.{append-nil, ◌≡◌, ℕ, zero, suc, ◌+◌, ◌<◌, ◌≤◌, List, [], ◌∷◌, ◌++◌, map, filter, length, drop, replicate, get_or, Bool, true, false, cond, refl, ap, ap₂, sym, subst, ◌∙◌, arith, length-set}
use Rattle.std.proofs.lemmas.List.{drop_more, length-replicate, map-append}
use Rattle.std.proofs.Math.ListN.{drop_of_length-le}
use Rattle.std.specs.Prelude.{slice_index, slice_set}
use Rattle.om_graph.specs.Graph.{Numbered}
use Rattle.om_graph.specs.declared.KeyTerm.{KeyTerm}
use Rattle.om_graph.specs.declared.Term.{Term}
use Rattle.om_legs.proofs.Marks.{length-mark_each}
use Rattle.om_legs.specs.BranchNodes.{mark_each}
use Rattle.om_keystone.specs.Pruning.{is_marked, mark_keys, mark_terms, marks_of, marked_of, numbers_from, AreLow, renumbered, kept_terms, kept_signs}
use Rattle.om_graph.specs.Possible.{unsigned, unsigned_key}

append_more : {A : Type 0} (xs : List A) (y : A) (ys : List A) → xs ++ (y ∷ ys) ≡ (xs ++ y ∷ []) ++ ys
append_more [] y ys = refl
append_more (x ∷ xs) y ys = ap (λ zs. x ∷ zs) (append_more xs y ys)

pub mark_keys_step : (whole now new : List Bool) (ys : List KeyTerm) (y : KeyTerm) (i : ℕ) → i < length ys → y ≡ get_or ys i y → whole ≡ mark_keys now (map unsigned_key (drop i ys)) → new ≡ mark_each true now (unsigned_key y).branches → whole ≡ mark_keys new (map unsigned_key (drop (i + 1) ys))
unfolding mark_keys
mark_keys_step whole now new ys y i h q e g =
    e ∙ ap (λ zs. mark_keys now (map unsigned_key zs)) (drop_more ys i y h ∙ ap (λ z. z ∷ drop (i + 1) ys) (sym q)) ∙ ap (λ m. mark_keys m (map unsigned_key (drop (i + 1) ys))) (sym g)

pub mark_keys_end : (whole now : List Bool) (ys : List KeyTerm) (i : ℕ) → length ys ≤ i → whole ≡ mark_keys now (map unsigned_key (drop i ys)) → now ≡ whole
unfolding mark_keys
mark_keys_end whole now ys i h e = sym (e ∙ ap (λ zs. mark_keys now (map unsigned_key zs)) (drop_of_length-le ys h))

-- the next term to the front
pub mark_terms_more : (old now new : List Bool) (xs : List Term) (x : Term) (i : ℕ) → i < length xs → x ≡ get_or xs i x → now ≡ mark_terms old (map unsigned (drop (i + 1) xs)) → is_marked now x.node ≡ true → new ≡ mark_each true now (unsigned x).branches → new ≡ mark_terms old (map unsigned (drop i xs))
unfolding mark_terms
mark_terms_more old now new xs x i h q e m g =
    let there : List Bool = mark_terms old (map unsigned (drop (i + 1) xs)) in
    let marked : is_marked there x.node ≡ true = ap (λ k. is_marked k x.node) (sym e) ∙ m in
    g ∙ ap (λ k. mark_each true k (unsigned x).branches) e
    ∙ ap (λ b. cond b (mark_each true there (unsigned x).branches) there) (sym marked)
    ∙ sym (ap (λ zs. mark_terms old (map unsigned zs)) (drop_more xs i x h ∙ ap (λ z. z ∷ drop (i + 1) xs) (sym q)))

pub mark_terms_same : (old now : List Bool) (xs : List Term) (x : Term) (i : ℕ) → i < length xs → x ≡ get_or xs i x → now ≡ mark_terms old (map unsigned (drop (i + 1) xs)) → is_marked now x.node ≡ false → now ≡ mark_terms old (map unsigned (drop i xs))
unfolding mark_terms
mark_terms_same old now xs x i h q e m =
    let there : List Bool = mark_terms old (map unsigned (drop (i + 1) xs)) in
    let marked : is_marked there x.node ≡ false = ap (λ k. is_marked k x.node) (sym e) ∙ m in
    e
    ∙ ap (λ b. cond b (mark_each true there (unsigned x).branches) there) (sym marked)
    ∙ sym (ap (λ zs. mark_terms old (map unsigned zs)) (drop_more xs i x h ∙ ap (λ z. z ∷ drop (i + 1) xs) (sym q)))

pub numbers_step : (whole now new : List ℕ) (c d : ℕ) (ms : List Bool) (i : ℕ) → i < length ms → whole ≡ now ++ numbers_from c (drop i ms) → new ≡ now ++ c ∷ [] → d ≡ c + cond (get_or ms i false) 1 0 → whole ≡ new ++ numbers_from d (drop (i + 1) ms)
unfolding numbers_from
numbers_step whole now new c d ms i h e g k =
    e ∙ ap (λ xs. now ++ numbers_from c xs) (drop_more ms i false h)
    ∙ append_more now c (numbers_from (c + cond (get_or ms i false) 1 0) (drop (i + 1) ms))
    ∙ ap₂ (λ xs n. xs ++ numbers_from n (drop (i + 1) ms)) (sym g) (sym k)

pub numbers_end : (whole now : List ℕ) (c : ℕ) (ms : List Bool) (i : ℕ) → length ms ≤ i → whole ≡ now ++ numbers_from c (drop i ms) → now ≡ whole
unfolding numbers_from
numbers_end whole now c ms i h e = sym (e ∙ ap (λ xs. now ++ numbers_from c xs) (drop_of_length-le ms h) ∙ append-nil now)

-- no new number is greater than the old one
numbers_low : (c : ℕ) (ms : List Bool) (n : ℕ) → slice_index (numbers_from c ms) n ≤ c + n
unfolding numbers_from
numbers_low c [] zero = omega arith
numbers_low c [] (suc n) = omega arith
numbers_low c (b ∷ ms) zero = omega arith
numbers_low c (b ∷ ms) (suc n) = by b (numbers_low (c + cond b 1 0) ms n)
  where
    by : (b : Bool) → slice_index (numbers_from (c + cond b 1 0) ms) n ≤ c + cond b 1 0 + n → slice_index (numbers_from (c + cond b 1 0) ms) n ≤ c + suc n
    by true h = omega (arith, h)
    by false h = omega (arith, h)

pub low_numbers : (numbers : List ℕ) (marks : List Bool) → numbers ≡ numbers_from 0 marks → AreLow numbers
low_numbers numbers marks e n = subst (λ ns. slice_index ns n ≤ n) (sym e) (let low = numbers_low 0 marks n in omega (arith, low))

pub kept_more : {A : Type 0} (whole now new : List A) (ms : List Bool) (xs : List A) (x : A) (i : ℕ) → i < length ms → i < length xs → x ≡ get_or xs i x → get_or ms i false ≡ true → whole ≡ now ++ marked_of (drop i ms) (drop i xs) → new ≡ now ++ x ∷ [] → whole ≡ new ++ marked_of (drop (i + 1) ms) (drop (i + 1) xs)
unfolding marked_of
kept_more whole now new ms xs x i h k q b e g =
    e ∙ ap₂ (λ us vs. now ++ marked_of us vs) (drop_more ms i false h ∙ ap (λ z. z ∷ drop (i + 1) ms) b) (drop_more xs i x k ∙ ap (λ z. z ∷ drop (i + 1) xs) (sym q))
    ∙ append_more now x (marked_of (drop (i + 1) ms) (drop (i + 1) xs)) ∙ ap (λ us. us ++ marked_of (drop (i + 1) ms) (drop (i + 1) xs)) (sym g)

marked_without : {A : Type 0} (ms : List Bool) (xs : List A) (i : ℕ) → i < length ms → i < length xs → get_or ms i false ≡ false → marked_of (drop i ms) (drop i xs) ≡ marked_of (drop (i + 1) ms) (drop (i + 1) xs)
unfolding marked_of
marked_without [] xs i h k b = absurd (omega arith)
marked_without (b ∷ ms) [] i h k e = absurd (omega arith)
marked_without (b ∷ ms) (x ∷ xs) i h k e =
    ap₂ marked_of (drop_more (b ∷ ms) i false h ∙ ap (λ z. z ∷ drop (i + 1) (b ∷ ms)) e) (drop_more (x ∷ xs) i x k)

pub kept_same : {A : Type 0} (whole now : List A) (ms : List Bool) (xs : List A) (i : ℕ) → i < length ms → i < length xs → get_or ms i false ≡ false → whole ≡ now ++ marked_of (drop i ms) (drop i xs) → whole ≡ now ++ marked_of (drop (i + 1) ms) (drop (i + 1) xs)
kept_same whole now ms xs i h k b e = e ∙ ap (λ us. now ++ us) (marked_without ms xs i h k b)

pub kept_end : {A : Type 0} (whole now : List A) (ms : List Bool) (xs : List A) (i : ℕ) → length ms ≤ i → whole ≡ now ++ marked_of (drop i ms) (drop i xs) → now ≡ whole
unfolding marked_of
kept_end whole now ms xs i h e = sym (e ∙ ap (λ us. now ++ marked_of us (drop i xs)) (drop_of_length-le ms h) ∙ append-nil now)

pub terms_more : (whole : List Numbered) (now new : List Term) (ms : List Bool) (ns : List ℕ) (xs : List Term) (x y : Term) (i : ℕ) → i < length xs → x ≡ get_or xs i x → is_marked ms x.node ≡ true → unsigned y ≡ renumbered ns (unsigned x)
    → whole ≡ map unsigned now ++ kept_terms ms ns (map unsigned (drop i xs)) → new ≡ now ++ y ∷ [] → whole ≡ map unsigned new ++ kept_terms ms ns (map unsigned (drop (i + 1) xs))
unfolding kept_terms
terms_more whole now new ms ns xs x y i h q b u e g =
    let rest : List Numbered = filter (λ (z : Numbered). is_marked ms z.made) (map unsigned (drop (i + 1) xs)) in
    e ∙ ap (λ zs. map unsigned now ++ kept_terms ms ns (map unsigned zs)) (drop_more xs i x h ∙ ap (λ z. z ∷ drop (i + 1) xs) (sym q))
    ∙ ap (λ t. map unsigned now ++ map (renumbered ns) (cond t (unsigned x ∷ rest) rest)) b
    ∙ append_more (map unsigned now) (renumbered ns (unsigned x)) (map (renumbered ns) rest)
    ∙ ap (λ z. (map unsigned now ++ z ∷ []) ++ map (renumbered ns) rest) (sym u)
    ∙ ap (λ zs. zs ++ map (renumbered ns) rest) (sym (map-append unsigned now (y ∷ [])) ∙ ap (map unsigned) (sym g))

pub terms_same : (whole : List Numbered) (now : List Term) (ms : List Bool) (ns : List ℕ) (xs : List Term) (x : Term) (i : ℕ) → i < length xs → x ≡ get_or xs i x → is_marked ms x.node ≡ false
    → whole ≡ map unsigned now ++ kept_terms ms ns (map unsigned (drop i xs)) → whole ≡ map unsigned now ++ kept_terms ms ns (map unsigned (drop (i + 1) xs))
unfolding kept_terms
terms_same whole now ms ns xs x i h q b e =
    let rest : List Numbered = filter (λ (z : Numbered). is_marked ms z.made) (map unsigned (drop (i + 1) xs)) in
    e ∙ ap (λ zs. map unsigned now ++ kept_terms ms ns (map unsigned zs)) (drop_more xs i x h ∙ ap (λ z. z ∷ drop (i + 1) xs) (sym q))
    ∙ ap (λ t. map unsigned now ++ map (renumbered ns) (cond t (unsigned x ∷ rest) rest)) b

pub terms_end : (whole : List Numbered) (now : List Term) (ms : List Bool) (ns : List ℕ) (xs : List Term) (i : ℕ) → length xs ≤ i → whole ≡ map unsigned now ++ kept_terms ms ns (map unsigned (drop i xs)) → map unsigned now ≡ whole
unfolding kept_terms
terms_end whole now ms ns xs i h e = sym (e ∙ ap (λ zs. map unsigned now ++ kept_terms ms ns (map unsigned zs)) (drop_of_length-le xs h) ∙ append-nil (map unsigned now))

abbrev minus_of : Term → Bool
minus_of x = x.minus

pub signs_more : (whole : List Bool) (now new : List Term) (ms : List Bool) (xs : List Term) (x y : Term) (i : ℕ) → i < length xs → x ≡ get_or xs i x → is_marked ms x.node ≡ true → y.minus ≡ x.minus
    → whole ≡ map minus_of now ++ kept_signs ms (drop i xs) → new ≡ now ++ y ∷ [] → whole ≡ map minus_of new ++ kept_signs ms (drop (i + 1) xs)
unfolding kept_signs
signs_more whole now new ms xs x y i h q b u e g =
    let rest : List Term = filter (λ (z : Term). is_marked ms z.node) (drop (i + 1) xs) in
    e ∙ ap (λ zs. map minus_of now ++ kept_signs ms zs) (drop_more xs i x h ∙ ap (λ z. z ∷ drop (i + 1) xs) (sym q))
    ∙ ap (λ t. map minus_of now ++ map minus_of (cond t (x ∷ rest) rest)) b
    ∙ append_more (map minus_of now) x.minus (map minus_of rest)
    ∙ ap (λ z. (map minus_of now ++ z ∷ []) ++ map minus_of rest) (sym u)
    ∙ ap (λ zs. zs ++ map minus_of rest) (sym (map-append minus_of now (y ∷ [])) ∙ ap (map minus_of) (sym g))

pub signs_same : (whole : List Bool) (now : List Term) (ms : List Bool) (xs : List Term) (x : Term) (i : ℕ) → i < length xs → x ≡ get_or xs i x → is_marked ms x.node ≡ false
    → whole ≡ map minus_of now ++ kept_signs ms (drop i xs) → whole ≡ map minus_of now ++ kept_signs ms (drop (i + 1) xs)
unfolding kept_signs
signs_same whole now ms xs x i h q b e =
    let rest : List Term = filter (λ (z : Term). is_marked ms z.node) (drop (i + 1) xs) in
    e ∙ ap (λ zs. map minus_of now ++ kept_signs ms zs) (drop_more xs i x h ∙ ap (λ z. z ∷ drop (i + 1) xs) (sym q))
    ∙ ap (λ t. map minus_of now ++ map minus_of (cond t (x ∷ rest) rest)) b

pub signs_end : (whole : List Bool) (now : List Term) (ms : List Bool) (xs : List Term) (i : ℕ) → length xs ≤ i → whole ≡ map minus_of now ++ kept_signs ms (drop i xs) → map minus_of now ≡ whole
unfolding kept_signs
signs_end whole now ms xs i h e = sym (e ∙ ap (λ zs. map minus_of now ++ kept_signs ms zs) (drop_of_length-le xs h) ∙ append-nil (map minus_of now))

-- the end of a loop that makes one of each
pub mapped_end : {A B C : Type 0} (f : A → C) (g : B → C) (whole : List C) (now : List B) (xs : List A) (i : ℕ) → length xs ≤ i → whole ≡ map g now ++ map f (drop i xs) → map g now ≡ whole
mapped_end f g whole now xs i h e = sym (e ∙ ap (λ zs. map g now ++ map f zs) (drop_of_length-le xs h) ∙ append-nil (map g now))

pub marks_are : (n : ℕ) (blank now new : List Bool) (xs : List Term) (ys : List KeyTerm) → blank ≡ replicate n false → now ≡ mark_keys (replicate n false) (map unsigned_key ys) → new ≡ mark_terms now (map unsigned xs) → new ≡ marks_of n (map unsigned xs) (map unsigned_key ys)
unfolding marks_of
marks_are n blank now new xs ys b e g = g ∙ ap (λ m. mark_terms m (map unsigned xs)) e

pub length-mark_keys : (m : List Bool) (ys : List Numbered) → length (mark_keys m ys) ≡ length m
unfolding mark_keys
length-mark_keys m [] = refl
length-mark_keys m (y ∷ ys) = length-mark_keys (mark_each true m y.branches) ys ∙ length-mark_each true m y.branches

pub length-mark_terms : (m : List Bool) (xs : List Numbered) → length (mark_terms m xs) ≡ length m
unfolding mark_terms
length-mark_terms m [] = refl
length-mark_terms m (x ∷ xs) = by (is_marked (mark_terms m xs) x.made) (length-mark_terms m xs)
  where
    by : (b : Bool) → length (mark_terms m xs) ≡ length m → length (cond b (mark_each true (mark_terms m xs) x.branches) (mark_terms m xs)) ≡ length m
    by true e = length-mark_each true (mark_terms m xs) x.branches ∙ e
    by false e = e

pub length-marks_of : (n : ℕ) (xs ys : List Numbered) → length (marks_of n xs ys) ≡ n
unfolding marks_of
length-marks_of n xs ys = length-mark_terms (mark_keys (replicate n false) ys) xs ∙ length-mark_keys (replicate n false) ys ∙ length-replicate n false
