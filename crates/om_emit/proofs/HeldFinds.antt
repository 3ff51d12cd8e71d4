-- Whether the instructions of a code keep the rules, by what they find in its slots.
use Rattle.std.proofs.Common.{◌≡◌, ℕ, suc, ◌+◌, ◌<◌, ◌≤◌, List, [], ◌∷◌, ◌++◌, inl, inr, ⊎_elim, length, map, get_or, set, Bool, true, false, cond, refl, sym, ◌∙◌, ap, ap₂, subst, arith}
use Rattle.std.specs.Prelude.{slice_get, ◌&&◌, ◌||◌, not, nat_lt, nat_le, ◌==◌}
use Rattle.std.specs.List.{AllByRecursion, list_all, list_any}
use Rattle.std.proofs.lemmas.Bool.{cases_eq, ne_eqb}
use Rattle.std.proofs.lemmas.Bool.Decides.{nat_tests}
use Rattle.std.proofs.lemmas.List.{get_or-set_same, get_or-set_other, length-set, take-map}
use Rattle.om_ring.specs.Members.{In}
use Rattle.om_legs.specs.declared.branches.Branches.{Branches}
use Rattle.om_legs.specs.Legs.{set_of_one, all_legs, size}
use Rattle.om_model.specs.Diagram.{same_numbers}
use Rattle.om_model.specs.Model.{anti_field}
use Rattle.om_code.specs.declared.code.Instr.{Instr}
use Rattle.om_code.specs.declared.code.Instr.TheVariants.{Load, Fuse, Prop, Key}
use Rattle.om_code.specs.declared.code.Code.{Code}
use Rattle.om_code.specs.declared.slots.Held.{Held}
use Rattle.om_code.specs.declared.slots.Phase.TheVariants.{Gathering, Ready}
use Rattle.om_code.specs.Contents.{NamesSlots}
use Rattle.om_code.specs.Ops.{Op, load, fuse, prop, key, Meaning, op_of, placed_op, step_of}
use Rattle.om_code.specs.Registers.{State, Step, written, joined, act, run, look, Found, loads, adds, begins, turns, closes, found, finds, AreApart}
use Rattle.om_code.specs.Rules as rules
use Rattle.om_code.specs.Rules.{KeepsAll, KeepsRules, are_ready, are_in_order, adds_to, is_choice, is_den_of, is_slot, leaves_one, size_of}
use Rattle.om_code.specs.Slots as slots
use Rattle.om_code.specs.Slots.{nothing, held_at, is_gathering, branches_held, fused, after, field_of_leg, fields_of, union_of, left_field, field_or_0, slots_of_vertex}
use Rattle.om_legs.specs.BranchNodes.{nodes_of}
use Rattle.om_code.proofs.PlacedRuns.{put_here, put_elsewhere}

-- what is held later takes the place of what was held earlier
unfoldable pub later : Held → Held → Held
later x y = y

pub and_both : (a b : Bool) → a ≡ true → b ≡ true → (a && b) ≡ true
and_both true b e f = f
and_both false b e f = e

or_neither : (a b : Bool) → a ≡ false → b ≡ false → (a || b) ≡ false
or_neither true b e f = e
or_neither false b e f = f

abbrev pub helds_of : List (Bool × Held) → List Held
helds_of xs = map (λ x. x.1) xs

module _ (c : Code) where
  -- what a vertex makes of what its branches hold
  unfoldable pub fused_held : ℕ → List Held → Held
  fused_held vertex hs = record {
    phase = Gathering;
    legs = union_of 0 hs;
    field = anti_field c.model.particles (field_or_0 (left_field (slots_of_vertex c vertex) (fields_of hs)));
  }

  -- what the instructions make of what the slots hold
  unfoldable pub held_meaning : Meaning Held (Unit {0})
  held_meaning = record {
    loaded = λ leg. record { phase = Ready; legs = set_of_one leg; field = field_of_leg c leg };
    fused = λ minus vertex choice hs. fused_held vertex hs;
    moved = λ den h. record h { phase = Ready };
    closed = λ flow minus vertex choice hs sums. sums;
  }

  -- what a fuse asks of what its branches hold
  pub record FuseKeeps (vertex choice : ℕ) (hs : List Held) : Type 0 where
    pub there : is_choice c vertex choice ≡ true
    pub ready : are_ready hs ≡ true
    pub apart : rules.AreApart 0 hs
    pub several : 2 ≤ size (union_of 0 hs)
    pub most : size (union_of 0 hs) + 2 ≤ size_of c
    pub order : are_in_order 0 hs ≡ true
    pub left : leaves_one (left_field (slots_of_vertex c vertex) (fields_of hs)) ≡ true

  -- and a key
  pub record KeyKeeps (flow vertex choice : ℕ) (hs : List Held) : Type 0 where
    pub flow_there : flow < length c.flows
    pub there : is_choice c vertex choice ≡ true
    pub ready : are_ready hs ≡ true
    pub apart : rules.AreApart 0 hs
    pub all : union_of 0 hs ≡ all_legs (size_of c)
    pub order : are_in_order 0 hs ≡ true
    pub fields : same_numbers (fields_of hs) (slots_of_vertex c vertex) ≡ true

  abbrev LoadFinds : ℕ → Found Held → Type 0
  LoadFinds leg (loads g) = (leg ≤ size_of c) × (g ≡ false)
  LoadFinds leg _ = ⊥

  abbrev FuseFinds : ℕ → ℕ → Found Held → Type 0
  FuseFinds vertex choice (adds x xs) = FuseKeeps vertex choice (helds_of xs) × (adds_to x (fused_held vertex (helds_of xs)) ≡ true)
  FuseFinds vertex choice (begins xs) = FuseKeeps vertex choice (helds_of xs)
  FuseFinds vertex choice _ = ⊥

  abbrev PropFinds : ℕ → Found Held → Type 0
  PropFinds den (turns x) = (x.0 ≡ true) × (den < length c.dens) × (is_den_of c x.1 (slice_get c.dens den) ≡ true)
  PropFinds den _ = ⊥

  abbrev KeyFinds : ℕ → ℕ → ℕ → Found Held → Type 0
  KeyFinds flow vertex choice (closes xs) = KeyKeeps flow vertex choice (helds_of xs)
  KeyFinds flow vertex choice _ = ⊥

  -- an instruction that finds this keeps the rules, but for those on the numbers of slots
  abbrev pub Keeps : Op → Found Held → Type 0
  Keeps (load to leg) f = LoadFinds leg f
  Keeps (fuse to minus vertex choice bs) f = FuseFinds vertex choice f
  Keeps (prop of den) f = PropFinds den f
  Keeps (key flow minus vertex choice bs) f = KeyFinds flow vertex choice f

  abbrev pub KeepEach : List Op → List (Found Held) → Type 0
  KeepEach [] fs = Unit {0}
  KeepEach (x ∷ xs) [] = ⊥
  KeepEach (x ∷ xs) (f ∷ fs) = Keeps x f × KeepEach xs fs

  -- it doesn't matter where the registers stand
  keeps_placed : (plan : ℕ → ℕ) (x : Op) (f : Found Held) → Keeps x f → Keeps (placed_op plan x) f
  keeps_placed plan (load to leg) f h = h
  keeps_placed plan (fuse to minus vertex choice bs) f h = h
  keeps_placed plan (prop of den) f h = h
  keeps_placed plan (key flow minus vertex choice bs) f h = h

  pub keep_placed : (plan : ℕ → ℕ) (xs : List Op) (fs : List (Found Held)) → KeepEach xs fs → KeepEach (map (placed_op plan) xs) fs
  keep_placed plan [] fs h = tt
  keep_placed plan (x ∷ xs) [] h = absurd h
  keep_placed plan (x ∷ xs) (f ∷ fs) h = (keeps_placed plan x f h.0, keep_placed plan xs fs h.1)

  unfoldable pub step : Instr → Step Held (Unit {0})
  step x = step_of held_meaning (op_of x)

  -- the slots show the state of a register machine
  pub record Shows (st : List Held) (s : State Held (Unit {0})) : Type 0 where
    pub holds : (k : ℕ) → k < c.slots → held_at st k ≡ s.values k
    pub gathers : (k : ℕ) → k < c.slots → is_gathering (held_at st k) ≡ s.gathering k
    pub slots : length st ≡ c.slots

  put_slot : (st : List Held) (k : ℕ) (h : Held) → k < c.slots → length st ≡ c.slots → slots.put st k h ≡ set st k h
  put_slot st k h l e = ap (λ b. cond b (st ++ h ∷ []) (set st k h)) (ne_eqb k (length st) (λ (q : k ≡ length st). omega arith))

  shows_written : (st : List Held) (s : State Held (Unit {0})) (to : ℕ) (h : Held) (g : Bool) → to < c.slots → is_gathering h ≡ g → Shows st s → Shows (slots.put st to h) (written s to h g)
  unfolding written
  shows_written st s to h g l p q =
      let P : List Held → Type 0 = λ ys. Shows ys (written s to h g) in
      subst P (sym (put_slot st to h l q.slots)) (record {
        holds = λ k m. ⊎_elim
            (λ r. ap (λ j. get_or (set st to h) j nothing) r ∙ get_or-set_same st to h nothing (let a = q.slots in omega arith) ∙ sym (put_here s.values to h k r))
            (λ r. get_or-set_other st to k h nothing r ∙ q.holds k m ∙ sym (put_elsewhere s.values to h k r))
            (cases_eq k to);
        gathers = λ k m. ⊎_elim
            (λ r. ap is_gathering (ap (λ j. get_or (set st to h) j nothing) r ∙ get_or-set_same st to h nothing (let a = q.slots in omega arith)) ∙ p ∙ sym (put_here s.gathering to g k r))
            (λ r. ap is_gathering (get_or-set_other st to k h nothing r) ∙ q.gathers k m ∙ sym (put_elsewhere s.gathering to g k r))
            (cases_eq k to);
        slots = length-set st to h ∙ q.slots;
      })

  held_all : (st : List Held) (s : State Held (Unit {0})) → Shows st s → (ks : List ℕ) → AllByRecursion (λ k. k < c.slots) ks → map (held_at st) ks ≡ map s.values ks
  held_all st s q [] h = refl
  held_all st s q (k ∷ ks) h = ap₂ (λ x xs. x ∷ xs) (q.holds k h.0) (held_all st s q ks h.1)

  joined_later : (g : Bool) (x y : Held) → joined later g x y ≡ y
  unfolding later
  joined_later true x y = refl
  joined_later false x y = refl

  readied : Held → Held
  readied h = record h { phase = Ready }

  shows_act : (st : List Held) (s : State Held (Unit {0})) (i : Instr) → NamesSlots c.slots i → Shows st s → Shows (after c st i) (act later (step i) s)
  unfolding act step held_meaning fused_held readied
  shows_act st s (Load to leg) l q = shows_written st s to (record { phase = Ready; legs = set_of_one leg; field = field_of_leg c leg }) false l refl q
  shows_act st s (Fuse to minus vertex choice b) l q =
      let eh : fused c st vertex b ≡ fused_held vertex (map s.values (nodes_of b)) = ap (fused_held vertex) (take-map (held_at st) b.count b.nodes ∙ held_all st s q (nodes_of b) l.1) in
      let P : Held → Type 0 = λ x. Shows (slots.put st to (fused c st vertex b)) (written s to x true) in
      subst P (eh ∙ sym (joined_later (s.gathering to) (s.values to) (fused_held vertex (map s.values (nodes_of b))))) (shows_written st s to (fused c st vertex b) true l.0 refl q)
  shows_act st s (Prop of den) l q =
      let P : Held → Type 0 = λ x. Shows (slots.put st of (record (held_at st of) { phase = Ready })) (written s of x false) in
      subst P (ap readied (q.holds of l)) (shows_written st s of (record (held_at st of) { phase = Ready }) false l refl q)
  shows_act st s (Key flow minus vertex choice b) l q = record { holds = q.holds; gathers = q.gathers; slots = q.slots }

  -- the branches of a vertex hold what was found
  pub looked : (s : State Held (Unit {0})) (ks : List ℕ) → helds_of (map (look s) ks) ≡ map s.values ks
  looked s [] = refl
  looked s (k ∷ ks) = ap (λ xs. s.values k ∷ xs) (looked s ks)

  branches_found : (st : List Held) (s : State Held (Unit {0})) (b : Branches) → Shows st s → AllByRecursion (λ k. k < c.slots) (nodes_of b) → helds_of (map (look s) (nodes_of b)) ≡ branches_held st b
  branches_found st s b q l = looked s (nodes_of b) ∙ sym (take-map (held_at st) b.count b.nodes ∙ held_all st s q (nodes_of b) l)

  slot_there : (k : ℕ) → k < c.slots → is_slot c k ≡ true
  slot_there k l = let e : nat_lt k c.slots ≡ true = grind (arith, nat_tests) in or_right (c.version == 1) (nat_lt k c.slots) e
    where
      or_right : (a b : Bool) → b ≡ true → (a || b) ≡ true
      or_right true b e = refl
      or_right false b e = e

  slots_there : (ks : List ℕ) → AllByRecursion (λ k. k < c.slots) ks → list_all (is_slot c) ks ≡ true
  slots_there [] l = refl
  slots_there (k ∷ ks) l = and_both (is_slot c k) (list_all (is_slot c) ks) (slot_there k l.0) (slots_there ks l.1)

  not_among : (to : ℕ) (ks : List ℕ) → (In to ks → ⊥) → list_any (λ k. k == to) ks ≡ false
  not_among to [] h = refl
  not_among to (k ∷ ks) h = or_neither (k == to) (list_any (λ k. k == to) ks) (ne_eqb k to (λ e. h (inl (sym e)))) (not_among to ks (λ i. h (inr i)))

  module _ (two : c.version ≡ 2) where
    not_one : (c.version == 1) ≡ false
    not_one = ap (λ v. v == 1) two

    loads_phase : (st : List Held) (to : ℕ) → is_gathering (held_at st to) ≡ false → rules.may_load c st to ≡ true
    loads_phase st to e = ap (λ b. cond b (to == length st) (not (is_gathering (held_at st to)))) not_one ∙ ap not e

    fuses_phase : (st : List Held) (to : ℕ) (ks : List ℕ) → (In to ks → ⊥) → rules.may_fuse c st to ks ≡ true
    fuses_phase st to ks h = ap (λ b. cond b (to == length st || is_gathering (held_at st to)) (not (list_any (λ k. k == to) ks))) not_one ∙ ap not (not_among to ks h)

    fuse_keeps : (st : List Held) (to : ℕ) (minus : Bool) (vertex choice : ℕ) (b : Branches) → to < c.slots → AllByRecursion (λ k. k < c.slots) (nodes_of b) → (In to (nodes_of b) → ⊥)
        → FuseKeeps vertex choice (branches_held st b) → adds_to (held_at st to) (fused_held vertex (branches_held st b)) ≡ true → KeepsRules c st (Fuse to minus vertex choice b)
    unfolding fused_held
    fuse_keeps st to minus vertex choice b l ls own k a = record {
      names = and_both (is_choice c vertex choice && is_slot c to) (list_all (is_slot c) (nodes_of b)) (and_both (is_choice c vertex choice) (is_slot c to) k.there (slot_there to l)) (slots_there (nodes_of b) ls);
      phases = and_both (rules.may_fuse c st to (nodes_of b)) (are_ready (branches_held st b)) (fuses_phase st to (nodes_of b) own) k.ready;
      sets = (k.apart, k.several, k.most);
      fits_all = and_both (are_in_order 0 (branches_held st b) && leaves_one (left_field (slots_of_vertex c vertex) (fields_of (branches_held st b)))) (adds_to (held_at st to) (fused c st vertex b))
          (and_both (are_in_order 0 (branches_held st b)) (leaves_one (left_field (slots_of_vertex c vertex) (fields_of (branches_held st b)))) k.order k.left) a;
    }

    key_keeps : (st : List Held) (flow : ℕ) (minus : Bool) (vertex choice : ℕ) (b : Branches) → AllByRecursion (λ k. k < c.slots) (nodes_of b) → KeyKeeps flow vertex choice (branches_held st b) → KeepsRules c st (Key flow minus vertex choice b)
    key_keeps st flow minus vertex choice b ls k =
        let there : nat_lt flow (length c.flows) ≡ true = let l = k.flow_there in grind (arith, nat_tests) in
        record {
          names = and_both (nat_lt flow (length c.flows) && is_choice c vertex choice) (list_all (is_slot c) (nodes_of b)) (and_both (nat_lt flow (length c.flows)) (is_choice c vertex choice) there k.there) (slots_there (nodes_of b) ls);
          phases = k.ready;
          sets = (k.apart, k.all);
          fits_all = and_both (are_in_order 0 (branches_held st b)) (same_numbers (fields_of (branches_held st b)) (slots_of_vertex c vertex)) k.order k.fields;
        }

    adds_nothing : (here new : Held) → is_gathering here ≡ false → adds_to here new ≡ true
    adds_nothing here new e = ap (λ b. not b || (here.legs == new.legs && here.field == new.field)) e

    fuse_found : (st : List Held) (s : State Held (Unit {0})) (to : ℕ) (minus : Bool) (vertex choice : ℕ) (b : Branches) → to < c.slots → AllByRecursion (λ k. k < c.slots) (nodes_of b) → (In to (nodes_of b) → ⊥) → Shows st s
        → (g : Bool) → s.gathering to ≡ g → Keeps (fuse to minus vertex choice (nodes_of b)) (cond g (adds (s.values to) (map (look s) (nodes_of b))) (begins (map (look s) (nodes_of b)))) → KeepsRules c st (Fuse to minus vertex choice b)
    fuse_found st s to minus vertex choice b l ls own q true e h =
        let same = branches_found st s b q ls in
        let K : List Held → Type 0 = λ hs. FuseKeeps vertex choice hs in
        fuse_keeps st to minus vertex choice b l ls own (subst K same h.0) (ap₂ (λ x hs. adds_to x (fused_held vertex hs)) (q.holds to l) (sym same) ∙ h.1)
    fuse_found st s to minus vertex choice b l ls own q false e h =
        let same = branches_found st s b q ls in
        let K : List Held → Type 0 = λ hs. FuseKeeps vertex choice hs in
        fuse_keeps st to minus vertex choice b l ls own (subst K same h) (adds_nothing (held_at st to) (fused_held vertex (branches_held st b)) (q.gathers to l ∙ e))

    keeps_rules : (st : List Held) (s : State Held (Unit {0})) (i : Instr) → NamesSlots c.slots i → Shows st s → AreApart (step i ∷ []) → Keeps (op_of i) (found (step i) s) → KeepsRules c st i
    unfolding found step
    keeps_rules st s (Load to leg) l q a h =
        let within : nat_le leg (size_of c) ≡ true = let m = h.0 in grind (arith, nat_tests) in
        record {
          names = and_both (nat_le leg (size_of c)) (is_slot c to) within (slot_there to l);
          phases = loads_phase st to (q.gathers to l ∙ h.1);
          sets = tt;
          fits_all = refl;
        }
    keeps_rules st s (Fuse to minus vertex choice b) l q a h = fuse_found st s to minus vertex choice b l.0 l.1 a.0 q (s.gathering to) refl h
    keeps_rules st s (Prop of den) l q a h =
        let there : nat_lt den (length c.dens) ≡ true = let m = h.1 in grind (arith, nat_tests) in
        record {
          names = and_both (is_slot c of) (nat_lt den (length c.dens)) (slot_there of l) there;
          phases = q.gathers of l ∙ h.0;
          sets = tt;
          fits_all = ap (λ x. is_den_of c x (slice_get c.dens den)) (q.holds of l) ∙ h.2;
        }
    keeps_rules st s (Key flow minus vertex choice b) l q a h =
        let K : List Held → Type 0 = λ hs. KeyKeeps flow vertex choice hs in
        key_keeps st flow minus vertex choice b l (subst K (branches_found st s b q l) h)

    apart_first : (i : Instr) (xs : List (Step Held (Unit {0}))) → AreApart (step i ∷ xs) → AreApart (step i ∷ []) × AreApart xs
    unfolding step
    apart_first (Load to leg) xs h = (tt, h)
    apart_first (Fuse to minus vertex choice b) xs h = ((h.0, tt), h.1)
    apart_first (Prop of den) xs h = (tt, h)
    apart_first (Key flow minus vertex choice b) xs h = (tt, h)

    still_all : (st : List Held) (n : ℕ) → length st ≡ n → ((k : ℕ) → k < n → is_gathering (held_at st k) ≡ false) → list_any is_gathering st ≡ false
    still_all [] n e h = refl
    still_all (x ∷ st) n e h = or_neither (is_gathering x) (list_any is_gathering st) (h 0 (omega arith)) (still_all st (length st) refl (λ k l. h (suc k) (omega arith)))

    -- instructions that find what they need keep the rules
    pub finds_keep : (xs : List Instr) (st : List Held) (s : State Held (Unit {0})) → AllByRecursion (NamesSlots c.slots) xs → Shows st s → AreApart (map step xs) → KeepEach (map op_of xs) (finds later (map step xs) s)
        → ((k : ℕ) → (run later (map step xs) s).gathering k ≡ false) → KeepsAll c st xs
    unfolding finds run
    finds_keep [] st s l q a h still = still_all st c.slots q.slots (λ k m. q.gathers k m ∙ still k)
    finds_keep (i ∷ is) st s l q a h still =
        let b = apart_first i (map step is) a in
        (keeps_rules st s i l.0 q b.0 h.0, finds_keep is (after c st i) (act later (step i) s) l.1 (shows_act st s i l.0 q) b.1 h.1 still)
