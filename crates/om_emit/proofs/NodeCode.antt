-- After the code of the nodes each node's register holds its wave, and the keystones add up.
use Rattle.std.proofs.Common.{◌≡◌, ℕ, suc, ◌+◌, ◌<◌, ◌≤◌, List, [], ◌∷◌, ◌++◌, ◌⊎◌, inl, inr, ⊎_elim, length, map, true, false, refl, sym, ◌∙◌, ap, ap₂, subst, arith, append_assoc}
use Rattle.std.specs.List.{AllByRecursion}
use Rattle.std.proofs.lemmas.Bool.{cases_eq, cases_lt}
use Rattle.om_ring.specs.Members.{In}
use Rattle.om_code.specs.Registers.{Step, fuse, prop, key, put, State, written, joined, act, run, start, AllIn, ReadsWritten}
use Rattle.om_emit.specs.NodeCode.{Fusion, Node, leg, inner, Keystone, node_code, nodes_code, graph_code, IsBuiltBelow, AreBuilt, added, gathered, IsWaveOf, AreWaves, keystone_sums, IsGraphOf}
use Rattle.om_code.specs.Laws.{AreWhole}
use Rattle.om_emit.specs.Laws.{CodeGivesKeystones}
use Rattle.om_code.proofs.PlacedRuns.{put_here, put_elsewhere, plans_keep_sums}

-- what earlier registers hold
read_waves : {W : Type 0} (wave : ℕ → W) (k : ℕ) (values : ℕ → W) → ((j : ℕ) → j < k → values j ≡ wave j) → (bs : List ℕ) → AllByRecursion (λ b. b < k) bs → map values bs ≡ map wave bs
read_waves wave k values h [] below = refl
read_waves wave k values h (b ∷ bs) below = ap₂ (λ x xs. x ∷ xs) (h b below.0) (read_waves wave k values h bs below.1)

below_other : (j k : ℕ) → j < k → j ≡ k → ⊥
below_other j k l e = omega arith

upto_more : {W : Type 0} (wave : ℕ → W) (k : ℕ) (values : ℕ → W) (x : W) → ((j : ℕ) → j < k → values j ≡ wave j) → wave k ≡ x → (j : ℕ) → j < suc k → put values k x j ≡ wave j
upto_more wave k values x h e j l = ⊎_elim (λ s. put_here values k x j s ∙ sym e ∙ ap wave (sym s)) (λ n. put_elsewhere values k x j n ∙ h j (omega (arith, n))) (cases_eq j k)

all_in_below : (k : ℕ) (seen : List ℕ) → ((j : ℕ) → j < k → In j seen) → (bs : List ℕ) → AllByRecursion (λ b. b < k) bs → AllIn seen bs
all_in_below k seen h [] below = tt
all_in_below k seen h (b ∷ bs) below = (h b below.0, all_in_below k seen h bs below.1)

module _ {W S : Type 0} (plus : W → W → W) where
  pub run-append : (xs ys : List (Step W S)) (st : State W S) → run plus (xs ++ ys) st ≡ run plus ys (run plus xs st)
  unfolding run
  run-append [] ys st = refl
  run-append (x ∷ xs) ys st = run-append xs ys (act plus x st)

  -- the registers below a number hold their waves, and none gathers
  record Holds (wave : ℕ → W) (k : ℕ) (sums : S) (st : State W S) : Type 0 where
    values : (j : ℕ) → j < k → st.values j ≡ wave j
    still : (j : ℕ) → st.gathering j ≡ false
    same : st.sums ≡ sums

  -- while a node gathers
  record Gathers (wave : ℕ → W) (k : ℕ) (sums : S) (x : W) (st : State W S) : Type 0 where
    values : (j : ℕ) → j < k → st.values j ≡ wave j
    here : st.values k ≡ x
    gathering : st.gathering k ≡ true
    still : (j : ℕ) → (j ≡ k → ⊥) → st.gathering j ≡ false
    same : st.sums ≡ sums

  more_gathered : (wave : ℕ → W) (k : ℕ) (sums : S) (fs : List (Fusion W)) (x : W) (st : State W S) → AllByRecursion (λ f. AllByRecursion (λ b. b < k) f.branches) fs → Gathers wave k sums x st
      → Gathers wave k sums (added plus x (map (λ f. f.made (map wave f.branches)) fs)) (run plus (map (λ f. fuse k f.branches f.made) fs) st)
  unfolding run act written
  more_gathered wave k sums [] x st below w = w
  more_gathered wave k sums (f ∷ fs) x st below w =
      let y = f.made (map wave f.branches) in
      let e : joined plus (st.gathering k) (st.values k) (f.made (map st.values f.branches)) ≡ plus x y =
      ap (λ g. joined plus g (st.values k) (f.made (map st.values f.branches))) w.gathering ∙ ap₂ plus w.here (ap f.made (read_waves wave k st.values w.values f.branches below.0)) in
      more_gathered wave k sums fs (plus x y) (act plus (fuse k f.branches f.made) st) below.1 (record {
        values = λ j l. put_elsewhere st.values k (joined plus (st.gathering k) (st.values k) (f.made (map st.values f.branches))) j (below_other j k l) ∙ w.values j l;
        here = put_here st.values k (joined plus (st.gathering k) (st.values k) (f.made (map st.values f.branches))) k refl ∙ e;
        gathering = put_here st.gathering k true k refl;
        still = λ j n. put_elsewhere st.gathering k true j n ∙ w.still j n;
        same = w.same;
      })

  first_gathered : (wave : ℕ → W) (k : ℕ) (sums : S) (blank : W) (fs : List (Fusion W)) (st : State W S) → 0 < length fs → AllByRecursion (λ f. AllByRecursion (λ b. b < k) f.branches) fs → Holds wave k sums st
      → Gathers wave k sums (gathered plus blank (map (λ f. f.made (map wave f.branches)) fs)) (run plus (map (λ f. fuse k f.branches f.made) fs) st)
  unfolding run act written
  first_gathered wave k sums blank [] st some below w = absurd (omega arith)
  first_gathered wave k sums blank (f ∷ fs) st some below w =
      let y = f.made (map wave f.branches) in
      let e : joined plus (st.gathering k) (st.values k) (f.made (map st.values f.branches)) ≡ y =
      ap (λ g. joined plus g (st.values k) (f.made (map st.values f.branches))) (w.still k) ∙ ap f.made (read_waves wave k st.values w.values f.branches below.0) in
      more_gathered wave k sums fs y (act plus (fuse k f.branches f.made) st) below.1 (record {
        values = λ j l. put_elsewhere st.values k (joined plus (st.gathering k) (st.values k) (f.made (map st.values f.branches))) j (below_other j k l) ∙ w.values j l;
        here = put_here st.values k (joined plus (st.gathering k) (st.values k) (f.made (map st.values f.branches))) k refl ∙ e;
        gathering = put_here st.gathering k true k refl;
        still = λ j n. put_elsewhere st.gathering k true j n ∙ w.still j;
        same = w.same;
      })

  node_done : (wave : ℕ → W) (blank : W) (k : ℕ) (sums : S) (node : Node W) (st : State W S) → IsBuiltBelow k node → IsWaveOf plus blank wave k node → Holds wave k sums st → Holds wave (suc k) sums (run plus (node_code k node) st)
  unfolding node_code run act written
  node_done wave blank k sums (leg x) st built e w = record {
    values = upto_more wave k st.values x w.values e;
    still = λ j. ⊎_elim (λ s. put_here st.gathering k false j s) (λ n. put_elsewhere st.gathering k false j n ∙ w.still j) (cases_eq j k);
    same = w.same;
  }
  node_done wave blank k sums (inner fs moved) st built e w =
      let mid = run plus (map (λ f. fuse k f.branches f.made) fs) st in
      let g = first_gathered wave k sums blank fs st built.0 built.1 w in
      let P : State W S → Type 0 = λ s. Holds wave (suc k) sums s in
      subst P (sym (run-append (map (λ f. fuse k f.branches f.made) fs) (prop k moved ∷ []) st)) (record {
        values = upto_more wave k mid.values (moved (mid.values k)) g.values (e ∙ ap moved (sym g.here));
        still = λ j. ⊎_elim (λ s. put_here mid.gathering k false j s) (λ n. put_elsewhere mid.gathering k false j n ∙ g.still j n) (cases_eq j k);
        same = g.same;
      })

  nodes_done : (wave : ℕ → W) (blank : W) (k : ℕ) (sums : S) (nodes : List (Node W)) (st : State W S) → AreBuilt k nodes → AreWaves plus blank wave k nodes → Holds wave k sums st → Holds wave (k + length nodes) sums (run plus (nodes_code k nodes) st)
  unfolding nodes_code run
  nodes_done wave blank k sums [] st built e w = let s : k ≡ k + 0 = omega arith in let P : ℕ → Type 0 = λ n. Holds wave n sums st in subst P s w
  nodes_done wave blank k sums (node ∷ nodes) st built e w =
      let r = nodes_done wave blank (suc k) sums nodes (run plus (node_code k node) st) built.1 e.1 (node_done wave blank k sums node st built.0 e.0 w) in
      let s : suc k + length nodes ≡ k + suc (length nodes) = omega arith in
      let P : ℕ → Type 0 = λ n. Holds wave n sums (run plus (nodes_code (suc k) nodes) (run plus (node_code k node) st)) in
      let Q : State W S → Type 0 = λ t. Holds wave (k + suc (length nodes)) sums t in
      subst Q (sym (run-append (node_code k node) (nodes_code (suc k) nodes) st)) (subst P s r)

  -- the keystones
  record Closes (sums : S) (st : State W S) : Type 0 where
    still : (j : ℕ) → st.gathering j ≡ false
    same : st.sums ≡ sums

  keystones_done : (wave : ℕ → W) (n : ℕ) (sums : S) (ys : List (Keystone W S)) (st : State W S) → AllByRecursion (λ y. AllByRecursion (λ b. b < n) y.branches) ys → Holds wave n sums st → Closes (keystone_sums wave sums ys) (run plus (map (λ y. key y.branches y.summed) ys) st)
  unfolding run act keystone_sums
  keystones_done wave n sums [] st below w = record { still = w.still; same = w.same }
  keystones_done wave n sums (y ∷ ys) st below w =
      keystones_done wave n (y.summed (map wave y.branches) sums) ys (act plus (key y.branches y.summed) st) below.1
      (record { values = w.values; still = w.still; same = ap₂ y.summed (read_waves wave n st.values w.values y.branches below.0) w.same })

  graph_done : (wave : ℕ → W) (blank : W) (sums : S) (nodes : List (Node W)) (ys : List (Keystone W S)) → IsGraphOf plus blank nodes ys wave → Closes (keystone_sums wave sums ys) (run plus (graph_code nodes ys) (start blank sums))
  unfolding graph_code
  graph_done wave blank sums nodes ys g =
      let w = nodes_done wave blank 0 sums nodes (start blank sums) g.built g.waves (record { values = λ j l. absurd (omega arith); still = λ j. refl; same = refl }) in
      let s : 0 + length nodes ≡ length nodes = omega arith in
      let P : ℕ → Type 0 = λ n. Holds wave n sums (run plus (nodes_code 0 nodes) (start blank sums)) in
      let Q : State W S → Type 0 = λ t. Closes (keystone_sums wave sums ys) t in
      subst Q (sym (run-append (nodes_code 0 nodes) (map (λ y. key y.branches y.summed) ys) (start blank sums)))
      (keystones_done wave (length nodes) sums ys (run plus (nodes_code 0 nodes) (start blank sums)) g.closed (subst P s w))

-- what is read was written before
module _ {W S : Type 0} where
  reads_fusions : (k : ℕ) (seen : List ℕ) (fs : List (Fusion W)) (rest : List (Step W S)) → ((j : ℕ) → j < k → In j seen) → AllByRecursion (λ f. AllByRecursion (λ b. b < k) f.branches) fs → (In k seen ⊎ (0 < length fs))
      → ((more : List ℕ) → ((j : ℕ) → j < suc k → In j more) → ReadsWritten more rest) → ReadsWritten seen (map (λ f. fuse k f.branches f.made) fs ++ rest)
  reads_fusions k seen [] rest h below some next = next seen (λ j l. ⊎_elim (λ (e : j < k). h j e) (λ (e : k ≤ j). let s : k ≡ j = omega arith in let P : ℕ → Type 0 = λ x. In x seen in ⊎_elim (λ i. subst P s i) (λ (z : 0 < 0). absurd (omega arith)) some) (cases_lt j k))
  reads_fusions k seen (f ∷ fs) rest h below some next = (
    all_in_below k seen h f.branches below.0,
    reads_fusions k (k ∷ seen) fs rest (λ j l. inr (h j l)) below.1 (inl (inl refl)) next,
  )

  reads_node : (k : ℕ) (seen : List ℕ) (node : Node W) (rest : List (Step W S)) → ((j : ℕ) → j < k → In j seen) → IsBuiltBelow k node
      → ((more : List ℕ) → ((j : ℕ) → j < suc k → In j more) → ReadsWritten more rest) → ReadsWritten seen (node_code k node ++ rest)
  unfolding node_code
  reads_node k seen (leg x) rest h built next = next (k ∷ seen) (λ j l. ⊎_elim (λ (e : j < k). inr (h j e)) (λ (e : k ≤ j). inl (omega arith)) (cases_lt j k))
  reads_node k seen (inner fs moved) rest h built next =
      let P : List (Step W S) → Type 0 = λ xs. ReadsWritten seen xs in
      subst P (sym (append_assoc (map (λ f. fuse k f.branches f.made) fs) (prop k moved ∷ []) rest))
      (reads_fusions k seen fs (prop k moved ∷ rest) h built.1 (inr built.0) (λ more m. (m k (omega arith), next more m)))

  reads_nodes : (k : ℕ) (seen : List ℕ) (nodes : List (Node W)) (rest : List (Step W S)) → ((j : ℕ) → j < k → In j seen) → AreBuilt k nodes
      → ((more : List ℕ) → ((j : ℕ) → j < k + length nodes → In j more) → ReadsWritten more rest) → ReadsWritten seen (nodes_code k nodes ++ rest)
  unfolding nodes_code
  reads_nodes k seen [] rest h built next = next seen (λ j l. h j (omega arith))
  reads_nodes k seen (node ∷ nodes) rest h built next =
      let P : List (Step W S) → Type 0 = λ xs. ReadsWritten seen xs in
      subst P (sym (append_assoc (node_code k node) (nodes_code (suc k) nodes) rest))
      (reads_node k seen node (nodes_code (suc k) nodes ++ rest) h built.0 (λ more m. reads_nodes (suc k) more nodes rest m built.1 (λ last q. next last (λ j l. q j (omega arith)))))

  reads_keystones : (n : ℕ) (seen : List ℕ) (ys : List (Keystone W S)) → ((j : ℕ) → j < n → In j seen) → AllByRecursion (λ y. AllByRecursion (λ b. b < n) y.branches) ys → ReadsWritten {W = W} {S = S} seen (map (λ y. key y.branches y.summed) ys)
  reads_keystones n seen [] h below = tt
  reads_keystones n seen (y ∷ ys) h below = (all_in_below n seen h y.branches below.0, reads_keystones n seen ys h below.1)

  pub graph_reads : (nodes : List (Node W)) (ys : List (Keystone W S)) → AreBuilt 0 nodes → AllByRecursion (λ y. AllByRecursion (λ b. b < length nodes) y.branches) ys → ReadsWritten [] (graph_code nodes ys)
  unfolding graph_code
  graph_reads nodes ys built closed = reads_nodes 0 [] nodes (map (λ y. key y.branches y.summed) ys) (λ j l. absurd (omega arith)) built (λ more m. reads_keystones (length nodes) more ys (λ j l. m j (omega arith)) closed)

-- the code of a graph leaves no register gathering, and with the slots of a plan it gives the sums of the keystones
module _ {W S : Type 0} (plus : W → W → W) where
  pub graph_whole : (wave : ℕ → W) (blank : W) (sums : S) (nodes : List (Node W)) (ys : List (Keystone W S)) → IsGraphOf plus blank nodes ys wave → AreWhole plus blank sums (graph_code nodes ys)
  graph_whole wave blank sums nodes ys g = record { reads = graph_reads nodes ys g.built g.closed; settled = λ r. (graph_done plus wave blank sums nodes ys g).still r }

  pub code_gives_keystones : CodeGivesKeystones W S plus
  code_gives_keystones blank sums nodes ys wave plan g p =
      plans_keep_sums plus blank sums (graph_code nodes ys) plan (graph_whole wave blank sums nodes ys g) p ∙ (graph_done plus wave blank sums nodes ys g).same
