-- The code of a graph leaves no register gathering, whatever its waves, and no fuse reads its own register.
use Rattle.std.proofs.Common.{◌≡◌, ℕ, suc, ◌<◌, List, [], ◌∷◌, ◌++◌, inl, inr, ⊎_elim, length, map, true, false, refl, sym, ◌∙◌, subst, arith}
use Rattle.std.specs.List.{AllByRecursion}
use Rattle.std.proofs.lemmas.Bool.{cases_eq}
use Rattle.om_ring.specs.Members.{In}
use Rattle.om_code.specs.SlotPlans.{IsSlotPlan}
use Rattle.om_code.specs.Registers.{Step, load, fuse, prop, key, State, written, act, run, start, lines_of, AreApart}
use Rattle.om_emit.specs.NodeCode.{Fusion, Node, leg, inner, Keystone, node_code, nodes_code, graph_code, IsBuiltBelow, AreBuilt}
use Rattle.om_code.specs.Laws.{AreWhole}
use Rattle.om_emit.specs.Laws.{GraphKeepsFinds}
use Rattle.om_code.proofs.PlacedRuns.{put_here, put_elsewhere}
use Rattle.om_emit.proofs.NodeCode.{run-append, graph_reads}
use Rattle.om_code.proofs.PlacedFinds.{plans_keep_finds}

module _ {W S : Type 0} (plus : W → W → W) where
  -- no register but k gathers
  abbrev StillBut : ℕ → State W S → Type 0
  StillBut k st = (j : ℕ) → (j ≡ k → ⊥) → st.gathering j ≡ false

  abbrev Still : State W S → Type 0
  Still st = (j : ℕ) → st.gathering j ≡ false

  fusions_still : (k : ℕ) (fs : List (Fusion W)) (st : State W S) → StillBut k st → StillBut k (run plus (map (λ f. fuse k f.branches f.made) fs) st)
  unfolding run act written
  fusions_still k [] st h = h
  fusions_still k (f ∷ fs) st h = fusions_still k fs (act plus (fuse k f.branches f.made) st) (λ j n. put_elsewhere st.gathering k true j n ∙ h j n)

  node_still : (k : ℕ) (node : Node W) (st : State W S) → Still st → Still (run plus (node_code k node) st)
  unfolding node_code run act written
  node_still k (leg x) st h = λ j. ⊎_elim (λ e. put_here st.gathering k false j e) (λ n. put_elsewhere st.gathering k false j n ∙ h j) (cases_eq j k)
  node_still k (inner fs moved) st h =
      let mid = run plus (map (λ f. fuse k f.branches f.made) fs) st in
      let g = fusions_still k fs st (λ j n. h j) in
      let P : State W S → Type 0 = λ s. Still s in
      subst P (sym (run-append plus (map (λ f. fuse k f.branches f.made) fs) (prop k moved ∷ []) st))
      (λ j. ⊎_elim (λ e. put_here mid.gathering k false j e) (λ n. put_elsewhere mid.gathering k false j n ∙ g j n) (cases_eq j k))

  nodes_still : (k : ℕ) (nodes : List (Node W)) (st : State W S) → Still st → Still (run plus (nodes_code k nodes) st)
  unfolding nodes_code run
  nodes_still k [] st h = h
  nodes_still k (node ∷ nodes) st h =
      let P : State W S → Type 0 = λ s. Still s in
      subst P (sym (run-append plus (node_code k node) (nodes_code (suc k) nodes) st)) (nodes_still (suc k) nodes (run plus (node_code k node) st) (node_still k node st h))

  keystones_still : (ys : List (Keystone W S)) (st : State W S) → Still st → Still (run plus (map (λ y. key y.branches y.summed) ys) st)
  unfolding run act
  keystones_still [] st h = h
  keystones_still (y ∷ ys) st h = keystones_still ys (act plus (key y.branches y.summed) st) h

  graph_still : (blank : W) (sums : S) (nodes : List (Node W)) (ys : List (Keystone W S)) → Still (run plus (graph_code nodes ys) (start blank sums))
  unfolding graph_code
  graph_still blank sums nodes ys =
      let P : State W S → Type 0 = λ s. Still s in
      subst P (sym (run-append plus (nodes_code 0 nodes) (map (λ y. key y.branches y.summed) ys) (start blank sums)))
      (keystones_still ys (run plus (nodes_code 0 nodes) (start blank sums)) (nodes_still 0 nodes (start blank sums) (λ j. refl)))

-- no fuse reads its own register
not_own : (k : ℕ) (bs : List ℕ) → AllByRecursion (λ b. b < k) bs → In k bs → ⊥
not_own k [] h i = i
not_own k (b ∷ bs) h (inl e) = let l = h.0 in absurd (omega arith)
not_own k (b ∷ bs) h (inr i) = not_own k bs h.1 i

module _ {W S : Type 0} where
  apart_append : (xs ys : List (Step W S)) → AreApart xs → AreApart ys → AreApart (xs ++ ys)
  apart_append [] ys h g = g
  apart_append (load to v ∷ xs) ys h g = apart_append xs ys h g
  apart_append (fuse to bs made ∷ xs) ys h g = (h.0, apart_append xs ys h.1 g)
  apart_append (prop of moved ∷ xs) ys h g = apart_append xs ys h g
  apart_append (key bs summed ∷ xs) ys h g = apart_append xs ys h g

fusions_apart : (W S : Type 0) (k : ℕ) (fs : List (Fusion W)) → AllByRecursion (λ f. AllByRecursion (λ b. b < k) f.branches) fs → AreApart {W = W} {S = S} (map (λ f. fuse k f.branches f.made) fs)
fusions_apart W S k [] h = tt
fusions_apart W S k (f ∷ fs) h = (not_own k f.branches h.0, fusions_apart W S k fs h.1)

node_apart : (W S : Type 0) (k : ℕ) (node : Node W) → IsBuiltBelow k node → AreApart {W = W} {S = S} (node_code k node)
unfolding node_code
node_apart W S k (leg x) h = tt
node_apart W S k (inner fs moved) h = apart_append {W = W} {S = S} (map (λ f. fuse k f.branches f.made) fs) (prop k moved ∷ []) (fusions_apart W S k fs h.1) tt

nodes_apart : (W S : Type 0) (k : ℕ) (nodes : List (Node W)) → AreBuilt k nodes → AreApart {W = W} {S = S} (nodes_code k nodes)
unfolding nodes_code
nodes_apart W S k [] h = tt
nodes_apart W S k (node ∷ nodes) h = apart_append {W = W} {S = S} (node_code k node) (nodes_code (suc k) nodes) (node_apart W S k node h.0) (nodes_apart W S (suc k) nodes h.1)

module _ {W S : Type 0} where
  keystones_apart : (ys : List (Keystone W S)) → AreApart {W = W} {S = S} (map (λ y. key y.branches y.summed) ys)
  keystones_apart [] = tt
  keystones_apart (y ∷ ys) = keystones_apart ys

  graph_apart : (nodes : List (Node W)) (ys : List (Keystone W S)) → AreBuilt 0 nodes → AreApart (graph_code nodes ys)
  unfolding graph_code
  graph_apart nodes ys h = apart_append (nodes_code 0 nodes) (map (λ y. key y.branches y.summed) ys) (nodes_apart W S 0 nodes h) (keystones_apart ys)

module _ {W S : Type 0} (plus : W → W → W) where
  pub code_keeps_finds : (blank : W) (sums : S) (nodes : List (Node W)) (ys : List (Keystone W S)) (plan : ℕ → ℕ) → AreBuilt 0 nodes → AllByRecursion (λ y. AllByRecursion (λ b. b < length nodes) y.branches) ys
      → IsSlotPlan (lines_of (graph_code nodes ys)) plan → GraphKeepsFinds plus blank sums (graph_code nodes ys) plan
  code_keeps_finds blank sums nodes ys plan built closed p =
      let whole : AreWhole plus blank sums (graph_code nodes ys) = record { reads = graph_reads nodes ys built closed; settled = graph_still plus blank sums nodes ys } in
      let k = plans_keep_finds plus blank sums (graph_code nodes ys) plan whole p in
      record { finds = k.finds; settled = k.settled; apart = k.apart (graph_apart nodes ys built) }
