-- The instructions of a graph find in the registers of its nodes what the rules ask for.
use Rattle.std.proofs.Common.{◌≡◌, ℕ, suc, ◌+◌, ◌<◌, ◌≤◌, List, [], ◌∷◌, ◌++◌, ⊎_elim, ◌⊎◌, inl, inr, length, map, Bool, true, false, cond, refl, sym, ◌∙◌, ap, ap₂, subst, arith, true≢false}
use Rattle.std.specs.Prelude.{Some, slice_get, ◌==◌}
use Rattle.std.specs.List.{AllByRecursion, filter}
use Rattle.std.proofs.lemmas.Bool.{cases_eq, eqb-true}
use Rattle.std.proofs.lemmas.Bool.Decides.{nat_tests}
use Rattle.std.proofs.lemmas.List.{map-append}
use Rattle.std.proofs.lemmas.Option.{same_Some}
use Rattle.om_legs.specs.Legs.{least}
use Rattle.om_graph.specs.declared.Graph.{Graph}
use Rattle.om_graph.specs.declared.Key.{Key}
use Rattle.om_graph.specs.declared.KeyTerm.{KeyTerm}
use Rattle.om_graph.specs.declared.Term.{Term}
use Rattle.om_graph.specs.Graph.{at_numbers}
use Rattle.om_keystone.specs.Built.{is_inner, terms_at, IsBelow}
use Rattle.om_keystone.proofs.Numbers.{At, at_none, at_more, at_of}
use Rattle.om_code.specs.declared.code.Code.{Code}
use Rattle.om_code.specs.declared.slots.Held.{Held}
use Rattle.om_code.specs.declared.slots.Phase.TheVariants.{Gathering, Ready}
use Rattle.om_code.specs.Ops.{Op, load, fuse, prop, step_of}
use Rattle.om_code.specs.Registers.{State, Step, written, joined, act, run, look, Found, adds, begins, found, finds}
use Rattle.om_code.specs.Rules.{adds_to, is_den_of, size_of}
use Rattle.om_legs.specs.BranchNodes.{nodes_of}
use Rattle.om_code.proofs.PlacedRuns.{put_here, put_elsewhere}
use Rattle.om_emit.specs.GraphCode.{fuse_op, key_op, node_ops, nodes_ops}
use Rattle.om_emit.proofs.NodeCode.{run-append}
use Rattle.om_emit.proofs.HeldFinds.{later, helds_of, looked, fused_held, held_meaning, FuseKeeps, KeyKeeps, Keeps, KeepEach, and_both}

-- what the register of a node holds once it is ready, and while it gathers
abbrev pub ready_held : Key → Held
ready_held node = record { phase = Ready; legs = node.legs; field = node.field }

abbrev pub gathering_held : Key → Held
gathering_held node = record { phase = Gathering; legs = node.legs; field = node.field }

same_test : (n : ℕ) → (n == n) ≡ true
same_test n = grind (arith, nat_tests)

module _ (c : Code) (g : Graph) (den : Key → ℕ) where
  -- what a term of a node finds, and makes
  pub record TermKeeps (node : Key) (t : Term) : Type 0 where
    pub keys : List Key
    pub are_branches : at_numbers g.nodes (nodes_of t.branches) ≡ Some keys
    pub keeps : FuseKeeps c t.vertex t.choice (map ready_held keys)
    pub made : fused_held c t.vertex (map ready_held keys) ≡ gathering_held node

  -- what a keystone term finds
  pub record KeyTermKeeps (y : KeyTerm) : Type 0 where
    pub keys : List Key
    pub are_branches : at_numbers g.nodes (nodes_of y.branches) ≡ Some keys
    pub keeps : KeyKeeps c y.flow y.vertex y.choice (map ready_held keys)

  pub record LegKeeps (node : Key) : Type 0 where
    pub there : least node.legs ≤ size_of c
    pub loaded : (held_meaning c).loaded (least node.legs) ≡ ready_held node

  pub record InnerKeeps (k : ℕ) (node : Key) : Type 0 where
    pub some : 0 < length (terms_at g.terms k)
    pub below : AllByRecursion (IsBelow k) (terms_at g.terms k)
    pub terms : AllByRecursion (TermKeeps node) (terms_at g.terms k)
    pub den_there : den node < length c.dens
    pub its_den : is_den_of c (gathering_held node) (slice_get c.dens (den node)) ≡ true

  -- node k is a leg or an inner node
  abbrev pub NodeKeeps : ℕ → Key → Type 0
  NodeKeeps k node = (is_inner node ≡ false → LegKeeps node) × (is_inner node ≡ true → InnerKeeps k node)

  abbrev W : Type 0
  W = State Held (Unit {0})

  -- the registers below k are ready
  abbrev Holds : ℕ → W → Type 0
  Holds k st = (j : ℕ) (node : Key) → j < k → slice_get g.nodes j ≡ Some node → st.values j ≡ ready_held node

  abbrev Still : W → Type 0
  Still st = (j : ℕ) → st.gathering j ≡ false

  values_at : (k : ℕ) (st : W) (bs : List ℕ) (ks : List Key) → At g.nodes bs ks → AllByRecursion (λ b. b < k) bs → Holds k st → map st.values bs ≡ map ready_held ks
  values_at k st bs ks at_none l h = refl
  values_at k st bs ks (at_more {n = n} {ns = ns} {y = y} {ys = ys} e a) l h = ap₂ (λ x xs. x ∷ xs) (h n y l.0 e) (values_at k st ns ys a l.1 h)

  -- what the branches of a vertex are found to hold
  found_at : (k : ℕ) (st : W) (bs : List ℕ) (ks : List Key) → at_numbers g.nodes bs ≡ Some ks → AllByRecursion (λ b. b < k) bs → Holds k st → helds_of (map (look st) bs) ≡ map ready_held ks
  found_at k st bs ks e l h = looked c st bs ∙ values_at k st bs ks (at_of g.nodes bs ks e) l h

  steps : List Op → List (Step Held (Unit {0}))
  steps xs = map (step_of (held_meaning c)) xs

  keep_append : (xs ys : List Op) (fs hs : List (Found Held)) → KeepEach c xs fs → length xs ≡ length fs → KeepEach c ys hs → KeepEach c (xs ++ ys) (fs ++ hs)
  keep_append [] ys [] hs a e b = b
  keep_append [] ys (f ∷ fs) hs a e b = absurd (omega (arith, e))
  keep_append (x ∷ xs) ys [] hs a e b = absurd a
  keep_append (x ∷ xs) ys (f ∷ fs) hs a e b = (a.0, keep_append xs ys fs hs a.1 (omega (arith, e)) b)

  length_finds : (xs : List (Step Held (Unit {0}))) (st : W) → length (finds later xs st) ≡ length xs
  unfolding finds
  length_finds [] st = refl
  length_finds (x ∷ xs) st = ap suc (length_finds xs (act later x st))

  finds_append : (xs ys : List (Step Held (Unit {0}))) (st : W) → finds later (xs ++ ys) st ≡ finds later xs st ++ finds later ys (run later xs st)
  unfolding finds run
  finds_append [] ys st = refl
  finds_append (x ∷ xs) ys st = ap (λ zs. found x st ∷ zs) (finds_append xs ys (act later x st))

  length_steps : (xs : List Op) → length (steps xs) ≡ length xs
  unfolding steps
  length_steps [] = refl
  length_steps (x ∷ xs) = ap suc (length_steps xs)

  steps_append : (xs ys : List Op) → steps (xs ++ ys) ≡ steps xs ++ steps ys
  unfolding steps
  steps_append xs ys = map-append (step_of (held_meaning c)) xs ys

  -- instructions, and then others
  both_keep : (xs ys : List Op) (st : W) → KeepEach c xs (finds later (steps xs) st) → KeepEach c ys (finds later (steps ys) (run later (steps xs) st)) → KeepEach c (xs ++ ys) (finds later (steps (xs ++ ys)) st)
  both_keep xs ys st a b =
      let P : List (Found Held) → Type 0 = λ fs. KeepEach c (xs ++ ys) fs in
      subst P (sym (ap (λ zs. finds later zs st) (steps_append xs ys) ∙ finds_append (steps xs) (steps ys) st))
      (keep_append xs ys (finds later (steps xs) st) (finds later (steps ys) (run later (steps xs) st)) a (sym (length_finds (steps xs) st ∙ length_steps xs)) b)

  run_both : (xs ys : List Op) (st : W) → run later (steps (xs ++ ys)) st ≡ run later (steps ys) (run later (steps xs) st)
  run_both xs ys st = ap (λ zs. run later zs st) (steps_append xs ys) ∙ run-append later (steps xs) (steps ys) st

  -- while node k gathers
  record Gathers (k : ℕ) (node : Key) (st : W) : Type 0 where
    values : Holds k st
    still : (j : ℕ) → (j ≡ k → ⊥) → st.gathering j ≡ false
    here : st.gathering k ≡ true → st.values k ≡ gathering_held node

  record AreFused (k : ℕ) (node : Key) (ts : List Term) (st : W) : Type 0 where
    keep : KeepEach c (map fuse_op ts) (finds later (steps (map fuse_op ts)) st)
    gathers : Gathers k node (run later (steps (map fuse_op ts)) st)
    begun : (0 < length ts) ⊎ (st.gathering k ≡ true) → (run later (steps (map fuse_op ts)) st).gathering k ≡ true

  module _ (k : ℕ) (node : Key) where
    record IsFused (to : ℕ) (minus : Bool) (vertex choice : ℕ) (bs : List ℕ) (st : W) : Type 0 where
      keeps : Keeps c (fuse to minus vertex choice bs) (found (step_of (held_meaning c) (fuse to minus vertex choice bs)) st)
      gathers : Gathers k node (act later (step_of (held_meaning c) (fuse to minus vertex choice bs)) st)
      begun : (act later (step_of (held_meaning c) (fuse to minus vertex choice bs)) st).gathering k ≡ true

    same_adds : (here new : Held) → here ≡ gathering_held node → new ≡ gathering_held node → adds_to here new ≡ true
    same_adds here new a b = ap₂ adds_to a b ∙ and_both (node.legs == node.legs) (node.field == node.field) (same_test node.legs) (same_test node.field)

    fuse_keeps : (g : Bool) (old : Held) (minus : Bool) (vertex choice : ℕ) (bs : List ℕ) (xs : List (Bool × Held)) → FuseKeeps c vertex choice (helds_of xs) → (g ≡ true → adds_to old (fused_held c vertex (helds_of xs)) ≡ true)
        → Keeps c (fuse k minus vertex choice bs) (cond g (adds old xs) (begins xs))
    fuse_keeps true old minus vertex choice bs xs f a = (f, a refl)
    fuse_keeps false old minus vertex choice bs xs f a = f

    joined_later : (g : Bool) (x y : Held) → joined later g x y ≡ y
    unfolding later
    joined_later true x y = refl
    joined_later false x y = refl

    fuse_here : (minus : Bool) (vertex choice : ℕ) (bs : List ℕ) (ks : List Key) (st : W) → at_numbers g.nodes bs ≡ Some ks → AllByRecursion (λ b. b < k) bs → FuseKeeps c vertex choice (map ready_held ks) → fused_held c vertex (map ready_held ks) ≡ gathering_held node
        → Gathers k node st → IsFused k minus vertex choice bs st
    unfolding found act written held_meaning
    fuse_here minus vertex choice bs ks st e l f m q =
        let same = found_at k st bs ks e l q.values in
        let K : List Held → Type 0 = λ hs. FuseKeeps c vertex choice hs in
        let made : fused_held c vertex (helds_of (map (look st) bs)) ≡ gathering_held node = ap (fused_held c vertex) same ∙ m in
        let new = joined later (st.gathering k) (st.values k) (fused_held c vertex (map st.values bs)) in
        let is_new : new ≡ gathering_held node = joined_later (st.gathering k) (st.values k) (fused_held c vertex (map st.values bs)) ∙ ap (fused_held c vertex) (sym (looked c st bs)) ∙ made in
        record {
          keeps = fuse_keeps (st.gathering k) (st.values k) minus vertex choice bs (map (look st) bs) (subst K (sym same) f) (λ t. same_adds (st.values k) (fused_held c vertex (helds_of (map (look st) bs))) (q.here t) made);
          gathers = record {
            values = λ j other lt at. put_elsewhere st.values k new j (λ (r : j ≡ k). omega arith) ∙ q.values j other lt at;
            still = λ j n. put_elsewhere st.gathering k true j n ∙ q.still j n;
            here = λ t. put_here st.values k new k refl ∙ is_new;
          };
          begun = put_here st.gathering k true k refl;
        }

    terms_keep : (ts : List Term) (st : W) → AllByRecursion (λ (t : Term). t.node ≡ k) ts → AllByRecursion (IsBelow k) ts → AllByRecursion (TermKeeps node) ts → Gathers k node st → AreFused k node ts st
    unfolding finds run steps
    terms_keep [] st e l h q = record { keep = tt; gathers = q; begun = λ s. ⊎_elim (λ z. absurd (omega arith)) (λ t. t) s }
    terms_keep (t ∷ ts) st e l h q =
        let P : ℕ → Type 0 = λ to. IsFused to t.minus t.vertex t.choice (nodes_of t.branches) st in
        let one = subst P (sym e.0) (fuse_here t.minus t.vertex t.choice (nodes_of t.branches) h.0.keys st h.0.are_branches l.0 h.0.keeps h.0.made q) in
        let rest = terms_keep ts (act later (step_of (held_meaning c) (fuse_op t)) st) e.1 l.1 h.1 one.gathers in
        record { keep = (one.keeps, rest.keep); gathers = rest.gathers; begun = λ s. rest.begun (inr one.begun) }

    -- the node is ready, and none gathers
    record IsMade (ops : List Op) (st : W) : Type 0 where
      keep : KeepEach c ops (finds later (steps ops) st)
      holds : Holds (suc k) (run later (steps ops) st)
      still : Still (run later (steps ops) st)

    holds_more : (values more : ℕ → Held) (x : Held) → slice_get g.nodes k ≡ Some node → x ≡ ready_held node → ((j : ℕ) (other : Key) → j < k → slice_get g.nodes j ≡ Some other → values j ≡ ready_held other)
        → ((j : ℕ) → j ≡ k → more j ≡ x) → ((j : ℕ) → (j ≡ k → ⊥) → more j ≡ values j) → (j : ℕ) (other : Key) → j < suc k → slice_get g.nodes j ≡ Some other → more j ≡ ready_held other
    holds_more values more x at e h here there j other l f = ⊎_elim
        (λ q. here j q ∙ e ∙ ap ready_held (same_Some node other (sym at ∙ ap (slice_get g.nodes) (sym q) ∙ f)))
        (λ n. there j n ∙ h j other (omega (arith, n)) f)
        (cases_eq j k)

    leg_made : (st : W) → slice_get g.nodes k ≡ Some node → LegKeeps node → Holds k st → Still st → IsMade (load k (least node.legs) ∷ []) st
    unfolding finds run found act written steps
    leg_made st at leg h still =
        let x = (held_meaning c).loaded (least node.legs) in
        record {
          keep = ((leg.there, still k), tt);
          holds = holds_more st.values (λ j. (written st k x false).values j) x at leg.loaded h (λ j e. put_here st.values k x j e) (λ j n. put_elsewhere st.values k x j n);
          still = λ j. ⊎_elim (λ e. put_here st.gathering k false j e) (λ n. put_elsewhere st.gathering k false j n ∙ still j) (cases_eq j k);
        }

    prop_made : (st : W) → slice_get g.nodes k ≡ Some node → InnerKeeps k node → Gathers k node st → st.gathering k ≡ true → IsMade (prop k (den node) ∷ []) st
    unfolding finds run found act written steps held_meaning
    prop_made st at inner q begun =
        let x : Held = record (st.values k) { phase = Ready } in
        let holds = q.here begun in
        let ready : x ≡ ready_held node = ap (λ (h : Held). record h { phase = Ready }) holds in
        record {
          keep = ((begun, inner.den_there, ap (λ h. is_den_of c h (slice_get c.dens (den node))) holds ∙ inner.its_den), tt);
          holds = holds_more st.values (λ j. (written st k x false).values j) x at ready q.values (λ j e. put_here st.values k x j e) (λ j n. put_elsewhere st.values k x j n);
          still = λ j. ⊎_elim (λ e. put_here st.gathering k false j e) (λ n. put_elsewhere st.gathering k false j n ∙ q.still j n) (cases_eq j k);
        }

    inner_made : (st : W) → slice_get g.nodes k ≡ Some node → InnerKeeps k node → AllByRecursion (λ (t : Term). t.node ≡ k) (terms_at g.terms k) → Holds k st → Still st → IsMade (map fuse_op (terms_at g.terms k) ++ prop k (den node) ∷ []) st
    inner_made st at inner nodes h still =
        let fuses = map fuse_op (terms_at g.terms k) in
        let last = prop k (den node) ∷ [] in
        let a = terms_keep (terms_at g.terms k) st nodes inner.below inner.terms (record { values = h; still = λ j n. still j; here = λ t. absurd (true≢false (sym t ∙ still k)) }) in
        let b = prop_made (run later (steps fuses) st) at inner a.gathers (a.begun (inl inner.some)) in
        let P : W → Type 0 = λ s. Holds (suc k) s in
        let Q : W → Type 0 = λ s. Still s in
        record {
          keep = both_keep fuses last st a.keep b.keep;
          holds = subst P (sym (run_both fuses last st)) b.holds;
          still = subst Q (sym (run_both fuses last st)) b.still;
        }

  its_terms : (ts : List Term) (k : ℕ) → AllByRecursion (λ (t : Term). t.node ≡ k) (terms_at ts k)
  unfolding terms_at
  its_terms [] k = tt
  its_terms (t ∷ ts) k = by (t.node == k) refl (its_terms ts k)
    where
      by : (b : Bool) → (t.node == k) ≡ b → AllByRecursion (λ (t : Term). t.node ≡ k) (filter (λ t. t.node == k) ts) → AllByRecursion (λ (t : Term). t.node ≡ k) (cond b (t ∷ filter (λ t. t.node == k) ts) (filter (λ t. t.node == k) ts))
      by true e ih = (eqb-true t.node k e, ih)
      by false e ih = ih

  node_made : (k : ℕ) (node : Key) (st : W) → slice_get g.nodes k ≡ Some node → NodeKeeps k node → Holds k st → Still st → IsMade k node (node_ops den g.terms k node) st
  unfolding node_ops
  node_made k node st at keeps h still = by (is_inner node) keeps
    where
      by : (b : Bool) → (b ≡ false → LegKeeps node) × (b ≡ true → InnerKeeps k node) → IsMade k node (cond b (map fuse_op (terms_at g.terms k) ++ prop k (den node) ∷ []) (load k (least node.legs) ∷ [])) st
      by true keeps = inner_made k node st at (keeps.1 refl) (its_terms g.terms k) h still
      by false keeps = leg_made k node st at (keeps.0 refl) h still

  -- the nodes from number k on
  record AreMade (k : ℕ) (nodes : List Key) (st : W) : Type 0 where
    keep : KeepEach c (nodes_ops den g.terms k nodes) (finds later (steps (nodes_ops den g.terms k nodes)) st)
    holds : Holds (k + length nodes) (run later (steps (nodes_ops den g.terms k nodes)) st)

  nodes_made : (k : ℕ) (nodes : List Key) (st : W) → ((j : ℕ) (node : Key) → slice_get nodes j ≡ Some node → slice_get g.nodes (k + j) ≡ Some node) → ((j : ℕ) (node : Key) → slice_get g.nodes j ≡ Some node → NodeKeeps j node)
      → Holds k st → Still st → AreMade k nodes st
  unfolding nodes_ops finds run steps
  nodes_made k [] st at keeps h still = record { keep = tt; holds = λ j node l e. h j node (omega arith) e }
  nodes_made k (node ∷ nodes) st at keeps h still =
      let here : slice_get g.nodes k ≡ Some node = (let z : k ≡ k + 0 = omega arith in ap (slice_get g.nodes) z) ∙ at 0 node refl in
      let a = node_made k node st here (keeps k node here) h still in
      let b = nodes_made (suc k) nodes (run later (steps (node_ops den g.terms k node)) st) (λ j other e. (let z : suc k + j ≡ k + suc j = omega arith in ap (slice_get g.nodes) z) ∙ at (suc j) other e) keeps a.holds a.still in
      let P : W → Type 0 = λ s. Holds (k + suc (length nodes)) s in
      record {
        keep = both_keep (node_ops den g.terms k node) (nodes_ops den g.terms (suc k) nodes) st a.keep b.keep;
        holds = subst P (sym (run_both (node_ops den g.terms k node) (nodes_ops den g.terms (suc k) nodes) st)) (λ j other l e. b.holds j other (omega arith) e);
      }

  keys_keep : (ys : List KeyTerm) (st : W) → AllByRecursion KeyTermKeeps ys → AllByRecursion (λ (y : KeyTerm). AllByRecursion (λ b. b < length g.nodes) (nodes_of y.branches)) ys → Holds (length g.nodes) st → KeepEach c (map key_op ys) (finds later (steps (map key_op ys)) st)
  unfolding finds found act steps
  keys_keep [] st k l h = tt
  keys_keep (y ∷ ys) st k l h =
      let K : List Held → Type 0 = λ hs. KeyKeeps c y.flow y.vertex y.choice hs in
      (subst K (sym (found_at (length g.nodes) st (nodes_of y.branches) k.0.keys k.0.are_branches l.0 h)) k.0.keeps, keys_keep ys (act later (step_of (held_meaning c) (key_op y)) st) k.1 l.1 h)

  -- the whole graph, where nothing is held at the start
  pub graph_keeps : (st : W) → ((j : ℕ) (node : Key) → slice_get g.nodes j ≡ Some node → NodeKeeps j node) → AllByRecursion KeyTermKeeps g.keys
      → AllByRecursion (λ (y : KeyTerm). AllByRecursion (λ b. b < length g.nodes) (nodes_of y.branches)) g.keys → Still st
      → (let ops = nodes_ops den g.terms 0 g.nodes ++ map key_op g.keys in KeepEach c ops (finds later (map (step_of (held_meaning c)) ops) st))
  unfolding steps
  graph_keeps st nodes keys within still =
      let a = nodes_made 0 g.nodes st (λ j node e. (let z : 0 + j ≡ j = omega arith in ap (slice_get g.nodes) z) ∙ e) nodes (λ j node l e. absurd (omega arith)) still in
      both_keep (nodes_ops den g.terms 0 g.nodes) (map key_op g.keys) st a.keep (keys_keep g.keys (run later (steps (nodes_ops den g.terms 0 g.nodes)) st) keys within (λ j node l e. a.holds j node (omega arith) e))
