-- The terms that make a node, taken from the front of terms in order.
use Rattle.std.proofs.Common.{◌≡◌, ℕ, suc, ◌+◌, ◌<◌, ◌≤◌, Bool, true, false, cond, not, eqb, List, [], ◌∷◌, length, take, drop, map, unwrap_or, Some, None, nat_lt, refl, sym, ap, subst, ◌∙◌, arith}
use Rattle.std.specs.List.{position, position_or_len}
use Rattle.std.proofs.lemmas.Bool.Decides.{nat_tests}
use Rattle.std.proofs.lemmas.List.Sums.{prefix_len-le-length}
use Rattle.om_model.specs.Order.{BeforeAll, Rising, numbers_lt}
use Rattle.om_graph.specs.declared.Term.{Term}
use Rattle.om_graph.specs.Graph.{numbered_lt}
use Rattle.om_graph.specs.Possible.{unsigned}
use Rattle.om_listing.specs.Listing.{fusions_of}

-- terms in order of the nodes that they make, of which the first is not before j
abbrev pub NodesFrom : ℕ → List Term → Type 0
NodesFrom j [] = Unit {0}
NodesFrom j (x ∷ xs) = (j ≤ x.node) × NodesFrom x.node xs

node_order : (x y : Term) → numbered_lt (unsigned x) (unsigned y) ≡ true → x.node ≤ y.node
unfolding numbered_lt numbers_lt
node_order x y h = grind (arith, nat_tests)

nodes_after : (x : Term) (ys : List Term) → BeforeAll numbered_lt (unsigned x) (map unsigned ys) → Rising numbered_lt (map unsigned ys) → NodesFrom x.node ys
nodes_after x [] b r = tt
nodes_after x (y ∷ ys) b r = (node_order x y b.0, nodes_after y ys r.0 r.1)

nodes_rise : (xs : List Term) → Rising numbered_lt (map unsigned xs) → NodesFrom 0 xs
nodes_rise [] r = tt
nodes_rise (x ∷ xs) r = (omega arith, nodes_after x xs r.0 r.1)

-- how many terms, from the front on, make node j
abbrev pub front_count : ℕ → List Term → ℕ
front_count j xs = position_or_len (λ (x : Term). not (eqb x.node j)) xs

none_makes : (j k : ℕ) (xs : List Term) → j < k → NodesFrom k xs → fusions_of xs j ≡ []
none_makes j k [] h n = refl
none_makes j k (x ∷ xs) h n = by (eqb x.node j) refl (none_makes j x.node xs (omega (arith, n.0)) n.1)
  where
    by : (b : Bool) → eqb x.node j ≡ b → fusions_of xs j ≡ [] → cond b (x ∷ fusions_of xs j) (fusions_of xs j) ≡ []
    by true e ih = absurd (grind (arith, nat_tests))
    by false e ih = ih

front_makes : (j : ℕ) (xs : List Term) → NodesFrom j xs → take (front_count j xs) xs ≡ fusions_of xs j
front_makes j [] n = refl
front_makes j (x ∷ xs) n = by (eqb x.node j) refl (front_makes j xs)
  where
    by : (b : Bool) → eqb x.node j ≡ b → (NodesFrom j xs → take (front_count j xs) xs ≡ fusions_of xs j)
        → take (cond (not (not b)) (1 + front_count j xs) 0) (x ∷ xs) ≡ cond b (x ∷ fusions_of xs j) (fusions_of xs j)
    by true e ih =
        let same : x.node ≡ j = grind (arith, nat_tests) in
        let on : 1 + front_count j xs ≡ suc (front_count j xs) = omega arith in
        ap (λ k. take k (x ∷ xs)) on ∙ ap (λ ys. x ∷ ys) (ih (subst (λ k. NodesFrom k xs) same n.1))
    by false e ih = sym (none_makes j x.node xs (grind (arith, nat_tests)) n.1)

behind_from : (j : ℕ) (xs : List Term) → NodesFrom j xs → NodesFrom (j + 1) (drop (front_count j xs) xs)
behind_from j [] n = tt
behind_from j (x ∷ xs) n = by (eqb x.node j) refl (behind_from j xs)
  where
    by : (b : Bool) → eqb x.node j ≡ b → (NodesFrom j xs → NodesFrom (j + 1) (drop (front_count j xs) xs))
        → NodesFrom (j + 1) (drop (cond (not (not b)) (1 + front_count j xs) 0) (x ∷ xs))
    by true e ih =
        let same : x.node ≡ j = grind (arith, nat_tests) in
        let on : suc (front_count j xs) ≡ 1 + front_count j xs = omega arith in
        subst (λ k. NodesFrom (j + 1) (drop k (x ∷ xs))) on (ih (subst (λ k. NodesFrom k xs) same n.1))
    by false e ih = (grind (arith, nat_tests), n.1)

behind_makes : (j i : ℕ) (xs : List Term) → j < i → fusions_of xs i ≡ fusions_of (drop (front_count j xs) xs) i
behind_makes j i [] h = refl
behind_makes j i (x ∷ xs) h = by (eqb x.node j) refl (behind_makes j i xs h)
  where
    other : (b : Bool) → eqb x.node i ≡ b → x.node ≡ j → cond b (x ∷ fusions_of xs i) (fusions_of xs i) ≡ fusions_of xs i
    other true e same = absurd (grind (arith, nat_tests))
    other false e same = refl

    by : (b : Bool) → eqb x.node j ≡ b → fusions_of xs i ≡ fusions_of (drop (front_count j xs) xs) i
        → fusions_of (x ∷ xs) i ≡ fusions_of (drop (cond (not (not b)) (1 + front_count j xs) 0) (x ∷ xs)) i
    by true e ih =
        let same : x.node ≡ j = grind (arith, nat_tests) in
        let on : suc (front_count j xs) ≡ 1 + front_count j xs = omega arith in
        other (eqb x.node i) refl same ∙ ih ∙ ap (λ k. fusions_of (drop k (x ∷ xs)) i) on
    by false e ih = refl

-- the terms that are left make what the nodes from j on are made of
pub record FusionsLeft (j : ℕ) (terms rest : List Term) : Type 0 where
  pub same : (i : ℕ) → j ≤ i → fusions_of terms i ≡ fusions_of rest i
  pub order : NodesFrom j rest

pub all_left : (terms : List Term) → Rising numbered_lt (map unsigned terms) → FusionsLeft 0 terms terms
all_left terms r = record { same = λ i h. refl; order = nodes_rise terms r }

pub fusions_taken : (j : ℕ) (terms rest : List Term) → FusionsLeft j terms rest → take (front_count j rest) rest ≡ fusions_of terms j
fusions_taken j terms rest l = front_makes j rest l.order ∙ sym (l.same j (omega arith))

pub rest_left : (j : ℕ) (terms rest : List Term) → FusionsLeft j terms rest → FusionsLeft (j + 1) terms (drop (front_count j rest) rest)
rest_left j terms rest l = record {
  same = λ i h. l.same i (omega (arith, h)) ∙ behind_makes j i rest (omega (arith, h));
  order = behind_from j rest l.order;
}

pub front_counted : (j : ℕ) (xs : List Term) → unwrap_or (position (λ (x : Term). not (eqb x.node j)) xs) (length xs) ≡ front_count j xs
front_counted j xs = by (nat_lt (front_count j xs) (length xs)) refl
  where
    by : (b : Bool) → nat_lt (front_count j xs) (length xs) ≡ b → unwrap_or (cond b (Some (front_count j xs)) None) (length xs) ≡ front_count j xs
    by true e = refl
    by false e = grind (arith, nat_tests, prefix_len-le-length (λ (x : Term). not (not (eqb x.node j))) xs)

pub front_short : (j : ℕ) (xs : List Term) → front_count j xs ≤ length xs
front_short j xs = prefix_len-le-length (λ (x : Term). not (not (eqb x.node j))) xs
