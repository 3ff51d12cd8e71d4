-- What meets at a vertex of a code of a canonical graph is what meets at that vertex of the graph.
use Rattle.std.proofs.Common.{◌≡◌, ℕ, suc, ◌+◌, ◌<◌, ◌≤◌, List, [], ◌∷◌, ◌++◌, length, map, Bool, true, false, not, ◌&&◌, ◌⊎◌, inl, inr, Option, Some, None, refl, ap, sym, subst, ◌∙◌, arith, true≢false}
use Rattle.std.specs.Prelude.{slice_get}
use Rattle.std.proofs.lemmas.Simd.{map-map}
use Rattle.om_ring.specs.Members.{In, Different}
use Rattle.om_ring.specs.Ops.{Ops, Laws}
use Rattle.om_ring.specs.Sums.{sum_over}
use Rattle.om_ring.proofs.RingLemmas.{one_times}
use Rattle.om_lorentz.specs.declared.structures.Spin.{Spin}
use Rattle.om_lorentz.specs.declared.structures.Spin.TheVariants.{Scalar, Dirac, Vector}
use Rattle.om_lorentz.specs.Structures as structures
use Rattle.om_legs.specs.Legs as sets
use Rattle.om_legs.specs.Splits.{IsSplit, times_held}
use Rattle.om_legs.proofs.Bits.{bit}
use Rattle.om_legs.proofs.Least.{holds-least}
use Rattle.om_legs.proofs.FirstPart.{times_held-cons, held_counted, part_leg}
use Rattle.om_kernel.specs.declared.waves.Wave.{Wave}
use Rattle.om_kernel.specs.Waves.{component, wave_indices}
use Rattle.om_kernel.specs.IndexSums.{full_sum, index_sum}
use Rattle.om_model.specs.declared.model.Vertex.{Vertex}
use Rattle.om_model.specs.Entries.{factors_of, feynman_rules}
use Rattle.om_model.specs.Diagram.{times_in}
use Rattle.om_model.specs.Event.{Event, members}
use Rattle.om_model.specs.FeynmanRules.{FeynmanRules, Table}
use Rattle.om_model.specs.Parts.{Part, within, others, least}
use Rattle.om_model.specs.Reordered.{Reordered}
use Rattle.om_model.specs.Reordered.Reordered.{same, keep, turn, chain}
use Rattle.om_model.specs.Slots.{in_slots}
use Rattle.om_model.specs.Theory.{Scattering}
use Rattle.om_model.specs.Value.{entering, vertex_entry}
use Rattle.om_model.proofs.Reordering.{reordered_back, reordered_swap, length-reordered}
use Rattle.om_ring.proofs.Members.{in_map, in_mapped}
use Rattle.om_keystone.specs.EdgeRules.{with_indices}
use Rattle.om_code.specs.declared.code.Code.{Code}
use Rattle.om_code.specs.Contents.{EnteringWave, open_slot, slots_of, waves_in_slots}
use Rattle.om_code.specs.Vertices.{reading_of_vertex, structure_of}
use Rattle.om_code.specs.Waves.{Incoming, event_of, wave_of}
use Rattle.om_machine.specs.Events.{kind_of_spin}
use Rattle.om_machine.proofs.Each.{Each, each-reordered}
use Rattle.om_emit.proofs.AnswerNests.{nest-reordered}
use Rattle.om_emit.proofs.AnswerSlots.{part_in, key_in, AreSlots, slotted, slotted-alike, slotted-reordered, slotted-fields}
use Rattle.om_emit.proofs.AnswerKernels.{indices_in, weight_in, nested, open_edges, one_if_open, vertex_value, index_sum-nested, full_sum-nested}
use Rattle.om_emit.proofs.AnswerSets.{IsSetOf, members_are, least_is, others_are, part_is}

-- parts of a split have different least legs
pub leasts-differ : (parts : List ℕ) → ((leg : ℕ) → times_held leg parts ≤ 1) → ((x : ℕ) → In x parts → sets.IsLegSet x × (0 < x)) → Different (map sets.least parts)
leasts-differ [] h w = tt
leasts-differ (p ∷ ps) h w = (
  (λ i.
      let q = in_mapped sets.least (sets.least p) ps i in
      let here : sets.holds p (sets.least p) ≡ true = (let s = w p (inl refl) in holds-least p s.1 s.0) in
      let there : sets.holds q.0 (sets.least p) ≡ true = (let s = w q.0 (inr q.1) in ap (sets.holds q.0) q.2 ∙ holds-least q.0 s.1 s.0) in
      let more = held_counted (sets.least p) q.0 ps q.1 there in
      let count = times_held-cons (sets.least p) p ps ∙ ap (λ b. bit b + times_held (sets.least p) ps) here in
      let most = h (sets.least p) in
      absurd (omega arith)),
  leasts-differ ps (λ leg. let most = h leg in let count = times_held-cons leg p ps in omega arith) (λ x i. w x (inr i)),
)

-- the open slot, and the field there
pub open-at : {E : Type 0} (o : Ops E) (u : ℕ) (qs : List (EnteringWave E)) → open_edges o qs ≡ 1 → Each (λ q. q.wave ≡ None → q.field ≡ u) qs
    → (at : ℕ) × (open_slot qs ≡ suc at) × (slice_get (map (λ q. q.field) qs) at ≡ Some u)
open-at o u [] h w = absurd (omega (arith, h))
open-at o u (q ∷ qs) h w = by q.wave refl h (open-at o u qs)
  where
    past : (x : Wave _) → q.wave ≡ Some x → open_slot (q ∷ qs) ≡ open_slot qs + 1
    past x e = rw e refl

    by : (x : Option (Wave _)) → q.wave ≡ x → one_if_open o x + open_edges o qs ≡ 1
        → (open_edges o qs ≡ 1 → Each (λ q. q.wave ≡ None → q.field ≡ u) qs → (at : ℕ) × (open_slot qs ≡ suc at) × (slice_get (map (λ q. q.field) qs) at ≡ Some u))
        → (at : ℕ) × (open_slot (q ∷ qs) ≡ suc at) × (slice_get (map (λ q. q.field) (q ∷ qs)) at ≡ Some u)
    by None e g ih = (0, rw e refl, ap Some (w.0 e))
    by (Some x) e g ih = let r = ih (omega arith) w.1 in (suc r.0, past x e ∙ ap (λ n. n + 1) r.1 ∙ (let more : suc r.0 + 1 ≡ suc (suc r.0) = omega arith in more), r.2)

pub open-reordered : {E : Type 0} (o : Ops E) {qs rs : List (EnteringWave E)} → Reordered qs rs → open_edges o qs ≡ open_edges o rs
open-reordered o same = refl
open-reordered o (keep {x = q} m) = ap (λ n. one_if_open o q.wave + n) (open-reordered o m)
open-reordered o turn = omega arith
open-reordered o (chain m n) = open-reordered o m ∙ open-reordered o n

with-map : {X : Type 0} (f : X → Part) (g : X → ℕ) (xs : List X) → with_indices (map f xs) (map g xs) ≡ map (λ x. (f x, g x)) xs
unfolding with_indices
with-map f g [] = refl
with-map f g (x ∷ xs) = ap (λ ys. (f x, g x) ∷ ys) (with-map f g xs)

each_in : {A : Type 0} (P : A → Type 0) (xs : List A) → ((x : A) → In x xs → P x) → Each P xs
each_in P [] h = tt
each_in P (x ∷ xs) h = (h x (inl refl), each_in P xs (λ y i. h y (inr i)))

open-more : {E : Type 0} (o : Ops E) (qs : List (EnteringWave E)) → open_edges o qs ≡ 0 → Each (λ q. q.wave ≡ None → ⊥) qs
open-more o [] h = tt
open-more o (q ∷ qs) h = ((λ e. let one = ap (one_if_open o) e in absurd (omega arith)), open-more o qs (omega arith))

module _ {E : Type 0} (o : Ops E) (l : Laws o) where
  -- the indices of a wave are those of its field
  pub wave-sum : (spin : Spin) (b : Bool) (w : ℕ → E) (f : ℕ → E)
      → sum_over o (wave_indices (wave_of (kind_of_spin spin b) w)) (λ i. o.times (component (wave_of (kind_of_spin spin b) w) i) (f i)) ≡ sum_over o (structures.indices_of spin) (λ i. o.times (w i) (f i))
  wave-sum Scalar b w f = refl
  wave-sum Vector b w f = refl
  wave-sum Dirac true w f = refl
  wave-sum Dirac false w f = refl

-- waves of parts that share out a set of legs, in order of the least, with the fields of some slots
pub record AreMet {E : Type 0} (o : Ops E) (size a : ℕ) (slots : List ℕ) (ms : List (EnteringWave E)) : Type 0 where
  pub set : IsSetOf size a
  pub split : IsSplit (length ms) a (map (λ q. q.legs) ms)
  pub full : open_edges o ms ≡ 0

module _ {E : Type 0} (o : Ops E) (l : Laws o) (s : Scattering) (small : s.size ≤ 12) (c : Code) (t : Table E) (e : Incoming E) (v ch : ℕ) (vx : Vertex) (at : slice_get c.model.vertices v ≡ Some vx) where
  abbrev rules : FeynmanRules E
  rules = feynman_rules o c.model t

  abbrev event : Event E
  event = event_of o e

  abbrev HasLeast : EnteringWave E → Type 0
  HasLeast q = least s.size (part_in q) ≡ key_in q

  abbrev HasMembers : EnteringWave E → Type 0
  HasMembers q = members s.size (sets.holds q.legs) ≡ sets.legs_of q.legs

  -- the entry of the vertex, with these edges
  abbrev pub entry_of : List (EnteringWave E) → List ℕ → E
  entry_of qs is = vertex_entry o s rules event v ch (with_indices (map part_in qs) is)

  alike : (xs ys : List (EnteringWave E)) (are : AreSlots s v xs ys) (h : ℕ → ℕ)
      → entry_of xs (map (λ q. h (key_in q)) xs) ≡ vertex_value o l c t e s v ch (slotted s v xs ys are) (map (λ q. h (key_in q)) (slotted s v xs ys are))
  unfolding vertex_entry
  alike xs ys are h =
      ap (λ qs. rules.vertex v ch (map (entering o s rules event) qs))
      (ap (in_slots s v) (with-map part_in (λ q. h (key_in q)) xs) ∙ slotted-alike s v xs ys are h ∙ sym (with-map part_in (λ q. h (key_in q)) (slotted s v xs ys are)))

  -- whatever the order, the sum over what enters is that over the slots
  in-slots : (n : ℕ) (xs ys : List (EnteringWave E)) (are : AreSlots s v xs ys) → nested o l n xs (entry_of xs) ≡ nested o l n (slotted s v xs ys are) (vertex_value o l c t e s v ch (slotted s v xs ys are))
  in-slots n xs ys are =
      nest-reordered o l key_in (indices_in o n) (weight_in o n) (reordered_back (slotted-reordered s v xs ys are)) are.differ (entry_of xs) (vertex_value o l c t e s v ch (slotted s v xs ys are)) (alike xs ys are)

  module _ (a : ℕ) (ms : List (EnteringWave E)) (met : AreMet o s.size a (s.theory.slots v) ms) where
    part_set : (q : EnteringWave E) → In q ms → IsSetOf s.size q.legs
    part_set q i = part_is s.size small (length ms) a (map (λ q. q.legs) ms) met.set met.split q.legs (in_map (λ q. q.legs) q ms i)

    leasts : Each HasLeast ms
    leasts = each_in HasLeast ms (λ q i. least_is s.size small q.legs (part_set q i) q.field)

    have_members : Each HasMembers ms
    have_members = each_in HasMembers ms (λ q i. members_are s.size small q.legs (part_set q i))

    leasts_differ : Different (map key_in ms)
    leasts_differ = subst Different (map-map sets.least (λ (q : EnteringWave E). q.legs) ms) (leasts-differ (map (λ q. q.legs) ms) (λ leg. let shared = met.split.shared leg in let few = one_at_most (sets.holds a leg) in omega arith)
        (λ x i. let w = in_mapped (λ (q : EnteringWave E). q.legs) x ms i in let set = subst (IsSetOf s.size) (sym w.2) (part_set w.0 w.1) in (set.is_set, set.some)))
      where
        one_at_most : (b : Bool) → bit b ≤ 1
        one_at_most true = omega arith
        one_at_most false = omega arith

    -- at a keystone
    module _ (fit : (k : ℕ) → times_in k (s.theory.slots v) ≡ times_in k (map (λ q. q.field) ms)) (many : (length ms ≡ 3) ⊎ (length ms ≡ 4)) where
      key_slots : AreSlots s v ms ms
      key_slots = record { reordered = same; least_are = leasts; differ = leasts_differ; fit = fit }

      -- the full index sum is the sum over the waves
      pub closes-in : (n : ℕ) → let qs = waves_in_slots (s.theory.slots v) ms in
          o.times o.imag (full_sum o (structure_of c v) (reading_of_vertex c v ch) (factors_of o (t.factors v)) (slots_of o c t e qs)) ≡ nested o l n ms (entry_of ms)
      closes-in n =
          let qs = slotted s v ms ms key_slots in
          let m = slotted-reordered s v ms ms key_slots in
          full_sum-nested o l c t e s v ch vx at n qs (subst (λ k. (k ≡ 3) ⊎ (k ≡ 4)) (sym (length-reordered m)) many) (each-reordered HasMembers m have_members) (open-reordered o m ∙ met.full)
          ∙ sym (in-slots n ms ms key_slots)

    -- where they make a node
    module _ (u : ℕ) (other : IsSetOf s.size (sets.complement a s.size)) (fit : (k : ℕ) → times_in k (s.theory.slots v) ≡ times_in k (u ∷ map (λ q. q.field) ms)) (many : (length ms ≡ 2) ⊎ (length ms ≡ 3)) where
      abbrev pub edge_up : EnteringWave E
      edge_up = record { legs = sets.complement a s.size; field = u; wave = None }

      apart : In (key_in edge_up) (map key_in ms) → ⊥
      unfolding others
      apart i =
          let w = in_mapped key_in (key_in edge_up) ms i in
          let set = part_set w.0 w.1 in
          let above = holds-least (sets.complement a s.size) other.some other.is_set in
          let below = part_leg (length ms) a (map (λ q. q.legs) ms) met.split w.0.legs (key_in edge_up) (in_map (λ q. q.legs) w.0 ms w.1) (ap (sets.holds w.0.legs) w.2 ∙ holds-least w.0.legs set.some set.is_set) in
          both (within s.size (key_in edge_up)) (sets.holds a (key_in edge_up)) below (sym (others_at (key_in edge_up)) ∙ above)
        where
          both : (x y : Bool) → y ≡ true → (x && not y) ≡ true → ⊥
          both true true e h = true≢false (sym h)
          both false true e h = true≢false (sym h)
          both x false e h = true≢false (sym e)

          others_at : (k : ℕ) → sets.holds (sets.complement a s.size) k ≡ (within s.size k && not (sets.holds a k))
          others_at k = ap (λ f. f k) (sym (others_are s.size small a met.set))

      fuse_slots : AreSlots s v (edge_up ∷ ms) (ms ++ edge_up ∷ [])
      fuse_slots = record {
        reordered = reordered_swap ms (edge_up ∷ []);
        least_are = (least_is s.size small (sets.complement a s.size) other u, leasts);
        differ = (apart, leasts_differ);
        fit = fit;
      }

      one_open : open_edges o (edge_up ∷ ms) ≡ 1
      one_open = (let none = met.full in omega arith)

      abbrev fused_slots : List (EnteringWave E)
      fused_slots = waves_in_slots (s.theory.slots v) (ms ++ edge_up ∷ [])

      -- the index sum is the sum over the waves
      pub fuses-in : (n : ℕ) → o.times o.imag (index_sum o (structure_of c v) (reading_of_vertex c v ch) (factors_of o (t.factors v)) (slots_of o c t e fused_slots) (open_slot fused_slots) n)
          ≡ nested o l n ms (λ is. vertex_entry o s rules event v ch ((part_in edge_up, n) ∷ with_indices (map part_in ms) is))
      unfolding with_indices
      fuses-in n =
          let m = slotted-reordered s v (edge_up ∷ ms) (ms ++ edge_up ∷ []) fuse_slots in
          index_sum-nested o l c t e s v ch vx at n fused_slots (by many (length-reordered m)) (each-reordered HasMembers m (members_are s.size small (sets.complement a s.size) other, have_members)) (open-reordered o m ∙ one_open)
          ∙ sym (in-slots n (edge_up ∷ ms) (ms ++ edge_up ∷ []) fuse_slots)
          ∙ l.plus_zero _ ∙ one_times o l _
        where
          by : (length ms ≡ 2) ⊎ (length ms ≡ 3) → length fused_slots ≡ suc (length ms) → (length fused_slots ≡ 3) ⊎ (length fused_slots ≡ 4)
          by (inl e) h = inl (omega arith)
          by (inr e) h = inr (omega arith)

      -- the field of the open slot
      pub opens-at : (k : ℕ) × (open_slot fused_slots ≡ suc k) × (slice_get (s.theory.slots v) k ≡ Some u)
      opens-at =
          let m = slotted-reordered s v (edge_up ∷ ms) (ms ++ edge_up ∷ []) fuse_slots in
          let P : EnteringWave E → Type 0 = λ q. q.wave ≡ None → q.field ≡ u in
          let all : Each P (edge_up ∷ ms) = ((λ e. refl), never ms (open-more o ms met.full)) in
          let r = open-at o u fused_slots (open-reordered o m ∙ one_open) (each-reordered P m all) in
          (r.0, r.1, ap (λ fs. slice_get fs r.0) (sym (slotted-fields s v (edge_up ∷ ms) (ms ++ edge_up ∷ []) fuse_slots)) ∙ r.2)
        where
          never : (qs : List (EnteringWave E)) → Each (λ q. q.wave ≡ None → ⊥) qs → Each (λ q. q.wave ≡ None → q.field ≡ u) qs
          never [] h = tt
          never (q ∷ qs) h = ((λ e. absurd (h.0 e)), never qs h.1)
