-- The lists of the machine show the state of the register machine whose registers are the slots.
use Rattle.std.proofs.Common.{◌≡◌, ℕ, zero, suc, ◌<◌, List, [], ◌∷◌, ◌++◌, ⊎_elim, length, map, get_or, set, replicate, Bool, true, false, cond, eqb, Option, Some, None, refl, sym, ◌∙◌, ap, ap₂, subst, arith}
use Rattle.std.specs.Prelude.{slice_get}
use Rattle.std.specs.List.{AllByRecursion}
use Rattle.std.proofs.lemmas.Bool.{cases_eq, ne_eqb}
use Rattle.std.proofs.lemmas.List.{get_or-set_same, get_or-set_other, length-set, length-replicate, get_or-replicate, map-append, take-map}
use Rattle.om_ring.specs.Ops.{Ops, signed}
use Rattle.om_legs.specs.Legs.{set_of_one}
use Rattle.om_legs.specs.declared.branches.Branches.{Branches}
use Rattle.om_kernel.specs.Slots.{Slots, wave_from}
use Rattle.om_kernel.specs.declared.waves.Wave.{Wave}
use Rattle.om_kernel.specs.IndexSums.{full_sum, fused_kind, index_sum}
use Rattle.om_model.specs.Entries.{factors_of}
use Rattle.om_model.specs.FeynmanRules.{Table}
use Rattle.om_code.specs.declared.code.Instr.{Instr}
use Rattle.om_code.specs.declared.code.Instr.TheVariants.{Load, Fuse, Prop, Key}
use Rattle.om_code.specs.declared.code.Code.{Code}
use Rattle.om_code.specs.declared.slots.Entering.{Entering}
use Rattle.om_code.specs.declared.slots.Held.{Held}
use Rattle.om_code.specs.declared.slots.Phase.TheVariants.{Ready}
use Rattle.om_code.specs.Slots as slots
use Rattle.om_code.specs.Slots.{nothing, held_at, is_gathering, branches_held, fused, after, at_start, field_of_leg, slots_of_vertex}
use Rattle.om_legs.specs.BranchNodes.{nodes_of}
use Rattle.om_code.specs.Waves.{Incoming, plus_wave, signed_wave, wave_of, wave_of_leg, zero_wave}
use Rattle.om_code.specs.Vertices.{branch, branches_of, entering_or_none, hole_by, hole_in, into_slots, reading_of_vertex, slots_with, structure_of, upwards}
use Rattle.om_code.specs.Meaning as machine
use Rattle.om_code.specs.Meaning.{Values, zeros}
use Rattle.om_code.specs.Registers.{State, written, joined, act, run, start}
use Rattle.om_code.specs.Contents.{Content, EnteringWave, entering, open_slot, wave_or_none, waves_in_slots, slot_of, slots_of, upwards_of, fused_of, made_wave, fused_content, wave_over, moved_content, made_number, summed_content, step_at, plus_content, empty_content, NamesSlots, MeaningIsRun}
use Rattle.om_code.proofs.Carried.{sorted_into-carry}
use Rattle.om_code.proofs.PlacedRuns.{put_here, put_elsewhere}

module _ {E : Type 0} (o : Ops E) (waves : List (Wave E)) where
  -- what enters, with its wave in place of the slot that holds it
  abbrev with_wave : Entering → EnteringWave E
  with_wave q = record { legs = q.legs; field = q.field; wave = wave_from o waves q.from }

  same_place : (from : Option ℕ) (n : ℕ) → hole_by (wave_from o waves from) n ≡ hole_by from n
  same_place None n = refl
  same_place (Some slot) n = refl

  same_hole : (qs : List Entering) → open_slot (map with_wave qs) ≡ hole_in qs
  same_hole [] = refl
  same_hole (q ∷ qs) = ap (hole_by (wave_from o waves q.from)) (same_hole qs) ∙ same_place q.from (hole_in qs)

  same_at : (qs : List Entering) (k : ℕ) → wave_or_none (slice_get (map with_wave qs) k) ≡ with_wave (entering_or_none (slice_get qs k))
  same_at [] k = refl
  same_at (q ∷ qs) zero = refl
  same_at (q ∷ qs) (suc k) = same_at qs k

  into_waves : (fields : List ℕ) (qs : List Entering) → waves_in_slots fields (map with_wave qs) ≡ map with_wave (into_slots fields qs)
  into_waves fields qs = sorted_into-carry with_wave (λ q. q.field) (λ q. q.legs) fields qs

module _ {E : Type 0} (o : Ops E) (c : Code) (t : Table E) (e : Incoming E) where
  four : (a b x y : EnteringWave E) → Slots E
  four a b x y = record { first = slot_of o c t e a; second = slot_of o c t e b; third = slot_of o c t e x; fourth = slot_of o c t e y }

  same_slots : (waves : List (Wave E)) (qs : List Entering) → slots_of o c t e (map (with_wave o waves) qs) ≡ slots_with o e waves qs
  unfolding four
  same_slots waves qs =
      let w : Entering → EnteringWave E = with_wave o waves in
      let at : ℕ → Entering = λ k. entering_or_none (slice_get qs k) in
      let from : ℕ → EnteringWave E = λ k. wave_or_none (slice_get (map w qs) k) in
      ap (λ x. four x (from 1) (from 2) (from 3)) (same_at o waves qs 0)
      ∙ ap (λ x. four (w (at 0)) x (from 2) (from 3)) (same_at o waves qs 1)
      ∙ ap (λ x. four (w (at 0)) (w (at 1)) x (from 3)) (same_at o waves qs 2)
      ∙ ap (λ x. four (w (at 0)) (w (at 1)) (w (at 2)) x) (same_at o waves qs 3)

  -- what a vertex makes, by what is in its slots
  made_at : Bool → ℕ → ℕ → ℕ → Slots E → Wave E
  made_at minus vertex choice hole xs = signed_wave o minus (wave_of (fused_kind (structure_of c vertex) hole)
      (λ n. o.times o.imag (index_sum o (structure_of c vertex) (reading_of_vertex c vertex choice) (factors_of o (t.factors vertex)) xs hole n)))

  number_at : Bool → ℕ → ℕ → Slots E → E
  number_at minus vertex choice xs = signed o minus (o.times o.imag (full_sum o (structure_of c vertex) (reading_of_vertex c vertex choice) (factors_of o (t.factors vertex)) xs))

  module _ (st : List Held) (v : Values E) where
    fused_slots : (vertex : ℕ) (b : Branches) → List Entering
    fused_slots vertex b = into_slots (slots_of_vertex c vertex) (branches_of c st b ++ upwards c st (fused c st vertex b) ∷ [])

    closed_slots : (vertex : ℕ) (b : Branches) → List Entering
    closed_slots vertex b = into_slots (slots_of_vertex c vertex) (branches_of c st b)

    machine_wave : (minus : Bool) (vertex choice : ℕ) (b : Branches)
        → machine.fused_wave o c t e st v minus vertex choice b ≡ made_at minus vertex choice (hole_in (fused_slots vertex b)) (slots_with o e v.waves (fused_slots vertex b))
    unfolding made_at fused_slots
    machine_wave minus vertex choice b = refl

    machine_number : (minus : Bool) (vertex choice : ℕ) (b : Branches) → machine.closed_value o c t e st v minus vertex choice b ≡ number_at minus vertex choice (slots_with o e v.waves (closed_slots vertex b))
    unfolding number_at closed_slots
    machine_number minus vertex choice b = refl

    wave_by_slots : (minus : Bool) (vertex choice : ℕ) (h : Held) (xs : List (EnteringWave E))
        → made_wave o c t e minus vertex choice h xs ≡ (let qs = waves_in_slots (slots_of_vertex c vertex) (xs ++ upwards_of o c t e h ∷ []) in made_at minus vertex choice (open_slot qs) (slots_of o c t e qs))
    unfolding made_wave made_at
    wave_by_slots minus vertex choice h xs = refl

    number_by_slots : (minus : Bool) (vertex choice : ℕ) (xs : List (EnteringWave E)) → made_number o c t e minus vertex choice xs ≡ number_at minus vertex choice (slots_of o c t e (waves_in_slots (slots_of_vertex c vertex) xs))
    unfolding made_number number_at
    number_by_slots minus vertex choice xs = refl

    -- what the machine makes of its slots is what is made of their waves
    pub wave_is : (minus : Bool) (vertex choice : ℕ) (b : Branches) → machine.fused_wave o c t e st v minus vertex choice b ≡ made_wave o c t e minus vertex choice (fused c st vertex b) (map (with_wave o v.waves) (branches_of c st b))
    unfolding fused_slots
    wave_is minus vertex choice b =
        let h = fused c st vertex b in
        let fields = slots_of_vertex c vertex in
        let entered = branches_of c st b in
        let same : waves_in_slots fields (map (with_wave o v.waves) entered ++ upwards_of o c t e h ∷ []) ≡ map (with_wave o v.waves) (fused_slots vertex b) =
        ap (waves_in_slots fields) (sym (map-append (with_wave o v.waves) entered (upwards c st h ∷ []))) ∙ into_waves o v.waves fields (entered ++ upwards c st h ∷ []) in
        machine_wave minus vertex choice b
        ∙ sym (ap₂ (made_at minus vertex choice) (same_hole o v.waves (fused_slots vertex b)) (same_slots v.waves (fused_slots vertex b)))
        ∙ sym (wave_by_slots minus vertex choice h (map (with_wave o v.waves) entered) ∙ ap (λ qs. made_at minus vertex choice (open_slot qs) (slots_of o c t e qs)) same)

    pub number_is : (minus : Bool) (vertex choice : ℕ) (b : Branches) → machine.closed_value o c t e st v minus vertex choice b ≡ made_number o c t e minus vertex choice (map (with_wave o v.waves) (branches_of c st b))
    unfolding closed_slots
    number_is minus vertex choice b =
        let fields = slots_of_vertex c vertex in
        let entered = branches_of c st b in
        machine_number minus vertex choice b
        ∙ sym (ap (number_at minus vertex choice) (same_slots v.waves (closed_slots vertex b)))
        ∙ sym (number_by_slots minus vertex choice (map (with_wave o v.waves) entered) ∙ ap (λ qs. number_at minus vertex choice (slots_of o c t e qs)) (into_waves o v.waves fields entered))

module _ {E : Type 0} (o : Ops E) (c : Code) (t : Table E) (e : Incoming E) (n : ℕ) where
  -- the lists show what the slots hold
  record Shows (st : List Held) (v : Values E) (s : State (Content E) (List E)) : Type 0 where
    holds : (k : ℕ) → k < n → held_at st k ≡ (s.values k).0
    waves : (k : ℕ) → k < n → get_or v.waves k (zero_wave o) ≡ (s.values k).1
    gathers : (k : ℕ) → k < n → is_gathering (held_at st k) ≡ s.gathering k
    slots : length st ≡ n
    wave_slots : length v.waves ≡ n
    sums : v.sums ≡ s.sums

  put_slot : (st : List Held) (k : ℕ) (h : Held) → k < n → length st ≡ n → slots.put st k h ≡ set st k h
  put_slot st k h l e = ap (λ b. cond b (st ++ h ∷ []) (set st k h)) (ne_eqb k (length st) (λ (q : k ≡ length st). omega arith))

  -- a slot is written
  shows_written : (st : List Held) (v : Values E) (s : State (Content E) (List E)) (to : ℕ) (h : Held) (w : Wave E) (g : Bool) → to < n → is_gathering h ≡ g → Shows st v s
      → Shows (slots.put st to h) (record { waves = set v.waves to w; sums = v.sums }) (written s to (h, w) g)
  unfolding written
  shows_written st v s to h w g l p q =
      let P : List Held → Type 0 = λ ys. Shows ys (record { waves = set v.waves to w; sums = v.sums }) (written s to (h, w) g) in
      subst P (sym (put_slot st to h l q.slots)) (record {
        holds = λ k m. ⊎_elim
            (λ r. ap (λ j. get_or (set st to h) j nothing) r ∙ get_or-set_same st to h nothing (let a = q.slots in omega arith) ∙ sym (ap (λ x. x.0) (put_here s.values to (h, w) k r)))
            (λ r. get_or-set_other st to k h nothing r ∙ q.holds k m ∙ sym (ap (λ x. x.0) (put_elsewhere s.values to (h, w) k r)))
            (cases_eq k to);
        waves = λ k m. ⊎_elim
            (λ r. ap (λ j. get_or (set v.waves to w) j (zero_wave o)) r ∙ get_or-set_same v.waves to w (zero_wave o) (let a = q.wave_slots in omega arith) ∙ sym (ap (λ x. x.1) (put_here s.values to (h, w) k r)))
            (λ r. get_or-set_other v.waves to k w (zero_wave o) r ∙ q.waves k m ∙ sym (ap (λ x. x.1) (put_elsewhere s.values to (h, w) k r)))
            (cases_eq k to);
        gathers = λ k m. ⊎_elim
            (λ r. ap is_gathering (ap (λ j. get_or (set st to h) j nothing) r ∙ get_or-set_same st to h nothing (let a = q.slots in omega arith)) ∙ p ∙ sym (put_here s.gathering to g k r))
            (λ r. ap is_gathering (get_or-set_other st to k h nothing r) ∙ q.gathers k m ∙ sym (put_elsewhere s.gathering to g k r))
            (cases_eq k to);
        slots = length-set st to h ∙ q.slots;
        wave_slots = length-set v.waves to w ∙ q.wave_slots;
        sums = q.sums;
      })

  module _ (st : List Held) (v : Values E) (s : State (Content E) (List E)) (q : Shows st v s) where
    content_is : (k : ℕ) → k < n → let x : Content E = (held_at st k, get_or v.waves k (zero_wave o)) in x ≡ s.values k
    content_is k l = ap₂ (λ h w. let x : Content E = (h, w) in x) (q.holds k l) (q.waves k l)

    held_all : (ks : List ℕ) → AllByRecursion (λ k. k < n) ks → map (held_at st) ks ≡ map (λ w. w.0) (map s.values ks)
    held_all [] h = refl
    held_all (k ∷ ks) h = ap₂ (λ x xs. x ∷ xs) (q.holds k h.0) (held_all ks h.1)

    held_branches : (b : Branches) → AllByRecursion (λ k. k < n) (nodes_of b) → branches_held st b ≡ map (λ w. w.0) (map s.values (nodes_of b))
    held_branches b h = take-map (held_at st) b.count b.nodes ∙ held_all (nodes_of b) h

    enter_all : (ks : List ℕ) → AllByRecursion (λ k. k < n) ks → map (with_wave o v.waves) (map (branch c st) ks) ≡ map entering (map s.values ks)
    enter_all [] h = refl
    enter_all (k ∷ ks) h = ap₂ (λ x xs. x ∷ xs) (ap entering (content_is k h.0)) (enter_all ks h.1)

    fused_is : (vertex : ℕ) (b : Branches) → AllByRecursion (λ k. k < n) (nodes_of b) → fused c st vertex b ≡ fused_of o c t e vertex (map (λ w. w.0) (map s.values (nodes_of b)))
    unfolding fused_of
    fused_is vertex b h = ap (fused_of o c t e vertex) (held_branches b h)

    over_is : (of den : ℕ) → machine.propagated o c t e st v of den ≡ wave_over o c t e den (held_at st of) (get_or v.waves of (zero_wave o))
    unfolding wave_over
    over_is of den = refl

  pair_joined : (g : Bool) (x y : Content E) → joined (plus_content o c t e) g x y ≡ (y.0, cond g (plus_wave o x.1 y.1) y.1)
  pair_joined true x y = refl
  pair_joined false x y = refl

  -- one instruction
  shows_act : (st : List Held) (v : Values E) (s : State (Content E) (List E)) (i : Instr) → NamesSlots n i → Shows st v s → Shows (after c st i) (machine.act o c t e st v i) (act (plus_content o c t e) (step_at o c t e i) s)
  unfolding act fused_content moved_content summed_content
  shows_act st v s (Load to leg) l q = shows_written st v s to (record { phase = Ready; legs = set_of_one leg; field = field_of_leg c leg }) (wave_of_leg o e leg) false l refl q
  shows_act st v s (Fuse to minus vertex choice b) l q =
      let ks = nodes_of b in
      let h = fused c st vertex b in
      let h' = fused_of o c t e vertex (map (λ w. w.0) (map s.values ks)) in
      let w = machine.fused_wave o c t e st v minus vertex choice b in
      let w' = made_wave o c t e minus vertex choice h' (map entering (map s.values ks)) in
      let eh : h ≡ h' = fused_is st v s q vertex b l.1 in
      let ew : w ≡ w' = wave_is o c t e st v minus vertex choice b ∙ ap₂ (made_wave o c t e minus vertex choice) eh (enter_all st v s q ks l.1) in
      let old : Content E = s.values to in
      let joined' = cond (is_gathering (held_at st to)) (plus_wave o (get_or v.waves to (zero_wave o)) w) w in
      let ej : joined' ≡ cond (s.gathering to) (plus_wave o old.1 w') w' =
      ap₂ (λ g x. cond g (plus_wave o x w) w) (q.gathers to l.0) (q.waves to l.0) ∙ ap (λ x. cond (s.gathering to) (plus_wave o old.1 x) x) ew in
      let made : Content E = (h', w') in
      let P : Content E → Type 0 = λ x. Shows (slots.put st to h) (record { waves = set v.waves to joined'; sums = v.sums }) (written s to x true) in
      subst P (ap₂ (λ a x. let y : Content E = (a, x) in y) eh ej ∙ sym (pair_joined (s.gathering to) old made)) (shows_written st v s to h joined' true l.0 refl q)
  shows_act st v s (Prop of den) l q =
      let old : Content E = s.values of in
      let h = record (held_at st of) { phase = Ready } in
      let w = machine.propagated o c t e st v of den in
      let ew : w ≡ wave_over o c t e den old.0 old.1 = over_is st v s q of den ∙ ap₂ (wave_over o c t e den) (q.holds of l) (q.waves of l) in
      let P : Content E → Type 0 = λ x. Shows (slots.put st of h) (record { waves = set v.waves of w; sums = v.sums }) (written s of x false) in
      subst P (ap₂ (λ a x. let y : Content E = (record a { phase = Ready }, x) in y) (q.holds of l) ew) (shows_written st v s of h w false l refl q)
  shows_act st v s (Key flow minus vertex choice b) l q =
      let ks = nodes_of b in
      let en : machine.closed_value o c t e st v minus vertex choice b ≡ made_number o c t e minus vertex choice (map entering (map s.values ks)) =
      number_is o c t e st v minus vertex choice b ∙ ap (made_number o c t e minus vertex choice) (enter_all st v s q ks l) in
      record {
        holds = q.holds;
        waves = q.waves;
        gathers = q.gathers;
        slots = q.slots;
        wave_slots = q.wave_slots;
        sums = ap₂ (λ xs x. set xs flow (o.plus (get_or xs flow o.zero) x)) q.sums en;
      }

  shows_run : (st : List Held) (v : Values E) (s : State (Content E) (List E)) (is : List Instr) → AllByRecursion (NamesSlots n) is → Shows st v s → (machine.run o c t e st v is).sums ≡ (run (plus_content o c t e) (map (step_at o c t e) is) s).sums
  unfolding run
  shows_run st v s [] l q = q.sums
  shows_run st v s (i ∷ is) l q = shows_run (after c st i) (machine.act o c t e st v i) (act (plus_content o c t e) (step_at o c t e i) s) is l.1 (shows_act st v s i l.0 q)

pub meaning_is_run : {E : Type 0} (o : Ops E) → MeaningIsRun o
meaning_is_run {E} o c t e version names =
    let n = c.slots in
    let first : at_start c ≡ replicate n nothing = ap (λ b. cond b [] (replicate n nothing)) (ap (λ k. eqb k 1) version) in
    let P : List Held → Type 0 = λ st. (machine.run o c t e st (zeros o c t e) c.instrs).sums ≡ (run (plus_content o c t e) (map (step_at o c t e) c.instrs) (start (empty_content o c t e) (replicate (length c.flows) o.zero))).sums in
    subst P (sym first) (shows_run o c t e n (replicate n nothing) (zeros o c t e) (start (empty_content o c t e) (replicate (length c.flows) o.zero)) c.instrs names (record {
      holds = λ k l. get_or-replicate n k nothing nothing l;
      waves = λ k l. get_or-replicate n k (zero_wave o) (zero_wave o) l;
      gathers = λ k l. ap is_gathering (get_or-replicate n k nothing nothing l);
      slots = length-replicate n nothing;
      wave_slots = length-replicate n (zero_wave o);
      sums = refl;
    }))
