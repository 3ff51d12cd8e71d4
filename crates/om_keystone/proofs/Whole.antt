-- A graph whose nodes all have marks is the graph of the nodes with marks.
use Rattle.std.proofs.Common.{◌≡◌, ℕ, zero, suc, ◌+◌, ◌<◌, List, [], ◌∷◌, map, filter, length, Bool, true, false, cond, true≢false, inl, inr, get_or, refl, ap, ap₂, sym, subst, ◌∙◌, arith}
use Rattle.std.specs.Prelude.{All, slice_index}
use Rattle.std.specs.List.{list_all}
use Rattle.std.proofs.lemmas.Option.{slice_get_within}
use Rattle.om_ring.specs.Members.{In}
use Rattle.om_ring.proofs.Members.{in_map, in_mapped}
use Rattle.om_graph.proofs.MeetingLists.{in_at}
use Rattle.om_graph.specs.declared.Graph.{Graph}
use Rattle.om_graph.specs.declared.KeyTerm.{KeyTerm}
use Rattle.om_graph.specs.declared.Term.{Term}
use Rattle.om_graph.specs.Graph.{Numbered}
use Rattle.om_graph.specs.Possible.{IsPossible, unsigned, unsigned_key}
use Rattle.om_legs.specs.BranchNodes.{nodes_of}
use Rattle.om_graph.specs.Vertices.{Reaction}
use Rattle.om_keystone.specs.Pruning.{is_marked, marked_of, numbers_from, new_number, renumbered, renumbered_key, kept_terms, kept_signs, NamesItsNodes, IsMarkedPart}
use Rattle.om_keystone.proofs.Numbers.{at_of, at_number}

-- the nodes of the possible graph are there
pub possible_names_nodes : (r : Reaction) (g : Graph) → IsPossible r g → NamesItsNodes g
possible_names_nodes r g possible = record {
  terms = λ x i.
      let t = (possible.graph.terms.members (unsigned x)).0 (in_map unsigned x g.terms i) in (
        slice_get_within g.nodes x.node t.node t.is_node,
        λ n j. let b = at_number n (at_of g.nodes (nodes_of x.branches) t.branches t.are_branches) j in slice_get_within g.nodes n b.0 b.1,
      );
  keys = λ y i n j.
      let t = (possible.graph.keys (unsigned_key y)).0 (in_map unsigned_key y g.keys i) in
      let b = at_number n (at_of g.nodes (nodes_of y.branches) t.branches t.are_branches) j in
      slice_get_within g.nodes n b.0 b.1;
}

-- the same, place by place
pub all_below : {A : Type 0} (branches : A → List ℕ) (n m : ℕ) (xs read : List A) → ((x : A) → In x xs → (j : ℕ) → In j (branches x) → j < n) → m ≡ n → read ≡ xs → All (λ x. All (λ j. j < m) (branches x)) read
all_below branches n m xs read h e f k d l i q r =
    let x = get_or read k d in
    let P : List _ → Type 0 = λ ys. In x ys in
    subst (λ z. get_or (branches x) i q < z) (sym e) (h x (subst P f (in_at read k d l)) (get_or (branches x) i q) (in_at (branches x) i q r))

mapped_same : {A : Type 0} (f : A → A) (xs : List A) → ((x : A) → In x xs → f x ≡ x) → map f xs ≡ xs
mapped_same f [] h = refl
mapped_same f (x ∷ xs) h = ap₂ (λ y ys. y ∷ ys) (h x (inl refl)) (mapped_same f xs (λ y i. h y (inr i)))

filtered_same : {A : Type 0} (p : A → Bool) (xs : List A) → ((x : A) → In x xs → p x ≡ true) → filter p xs ≡ xs
filtered_same p [] h = refl
filtered_same p (x ∷ xs) h = ap (λ b. cond b (x ∷ filter p xs) (filter p xs)) (h x (inl refl)) ∙ ap (λ ys. x ∷ ys) (filtered_same p xs (λ y i. h y (inr i)))

abbrev AreAllMarked : List Bool → Type 0
AreAllMarked marks = list_all (λ mark. mark) marks ≡ true

first_marked : (b : Bool) (marks : List Bool) → AreAllMarked (b ∷ marks) → (b ≡ true) × AreAllMarked marks
first_marked true marks h = (refl, h)
first_marked false marks h = absurd (true≢false (sym h))

marked_at : (marks : List Bool) (n : ℕ) → AreAllMarked marks → n < length marks → is_marked marks n ≡ true
marked_at [] n h l = absurd (omega (arith, l))
marked_at (b ∷ marks) zero h l = (first_marked b marks h).0
marked_at (b ∷ marks) (suc n) h l = marked_at marks n (first_marked b marks h).1 (omega (arith, l))

all_kept : {A : Type 0} (marks : List Bool) (xs : List A) → AreAllMarked marks → length marks ≡ length xs → marked_of marks xs ≡ xs
unfolding marked_of
all_kept [] [] h e = refl
all_kept [] (x ∷ xs) h e = absurd (omega (arith, e))
all_kept (b ∷ marks) [] h e = absurd (omega (arith, e))
all_kept (b ∷ marks) (x ∷ xs) h e =
    ap (λ c. cond c (x ∷ marked_of marks xs) (marked_of marks xs)) (first_marked b marks h).0
    ∙ ap (λ ys. x ∷ ys) (all_kept marks xs (first_marked b marks h).1 (omega (arith, e)))

same_number : (c : ℕ) (marks : List Bool) (n : ℕ) → AreAllMarked marks → n < length marks → slice_index (numbers_from c marks) n ≡ c + n
unfolding numbers_from
same_number c [] n h l = absurd (omega (arith, l))
same_number c (b ∷ marks) zero h l = omega arith
same_number c (b ∷ marks) (suc n) h l =
    let one : c + cond b 1 0 ≡ c + 1 = ap (λ d. c + cond d 1 0) (first_marked b marks h).0 in
    let next = same_number (c + 1) marks n (first_marked b marks h).1 (omega (arith, l)) in
    ap (λ d. slice_index (numbers_from d marks) n) one ∙ next ∙ omega arith

module _ (marks : List Bool) (g : Graph) (all : AreAllMarked marks) (size : length marks ≡ length g.nodes) (names : NamesItsNodes g) where
  here : (n : ℕ) → n < length g.nodes → is_marked marks n ≡ true
  here n l = marked_at marks n all (omega (arith, l, size))

  same : (n : ℕ) → n < length g.nodes → new_number (numbers_from 0 marks) n ≡ n
  same n l = same_number 0 marks n all (omega (arith, l, size)) ∙ omega arith

  same_nodes : (ns : List ℕ) → ((n : ℕ) → In n ns → n < length g.nodes) → map (new_number (numbers_from 0 marks)) ns ≡ ns
  same_nodes ns h = mapped_same (new_number (numbers_from 0 marks)) ns (λ n i. same n (h n i))

  same_term : (x : Term) → In x g.terms → renumbered (numbers_from 0 marks) (unsigned x) ≡ unsigned x
  same_term x i =
      let w = names.terms x i in
      ap₂ (λ m ns. let z : Numbered = record { made = m; vertex = x.vertex; choice = x.choice; branches = ns } in z) (same x.node w.0) (same_nodes (nodes_of x.branches) w.1)

  same_key : (y : KeyTerm) → In y g.keys → renumbered_key (numbers_from 0 marks) (unsigned_key y) ≡ unsigned_key y
  same_key y i = ap (λ ns. let z : Numbered = record { made = y.flow; vertex = y.vertex; choice = y.choice; branches = ns } in z) (same_nodes (nodes_of y.branches) (names.keys y i))

  same_terms : kept_terms marks (numbers_from 0 marks) (map unsigned g.terms) ≡ map unsigned g.terms
  unfolding kept_terms
  same_terms =
      ap (map (renumbered (numbers_from 0 marks))) (filtered_same (λ (x : Numbered). is_marked marks x.made) (map unsigned g.terms) (λ x i.
      let t = in_mapped unsigned x g.terms i in
      ap (λ (z : Numbered). is_marked marks z.made) t.2 ∙ here t.0.node (names.terms t.0 t.1).0))
      ∙ mapped_same (renumbered (numbers_from 0 marks)) (map unsigned g.terms) (λ x i.
      let t = in_mapped unsigned x g.terms i in
      ap (renumbered (numbers_from 0 marks)) t.2 ∙ same_term t.0 t.1 ∙ sym t.2)

  same_signs : kept_signs marks g.terms ≡ map (λ (x : Term). x.minus) g.terms
  unfolding kept_signs
  same_signs = ap (map (λ (x : Term). x.minus)) (filtered_same (λ (x : Term). is_marked marks x.node) g.terms (λ x i. here x.node (names.terms x i).0))

  same_keys : map (renumbered_key (numbers_from 0 marks)) (map unsigned_key g.keys) ≡ map unsigned_key g.keys
  same_keys = mapped_same (renumbered_key (numbers_from 0 marks)) (map unsigned_key g.keys) (λ x i.
      let t = in_mapped unsigned_key x g.keys i in
      ap (renumbered_key (numbers_from 0 marks)) t.2 ∙ same_key t.0 t.1 ∙ sym t.2)

  pub whole_is_part : IsMarkedPart marks g g
  whole_is_part = record {
    nodes = sym (all_kept marks g.nodes all size);
    terms = sym same_terms;
    signs = sym same_signs;
    keys = sym same_keys;
    key_signs = refl;
    flows = refl;
  }
