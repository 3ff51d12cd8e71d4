-- The fields of nodes that meet at a vertex, and the one that they leave.
use Rattle.std.proofs.Common.{◌≡◌, ℕ, ◌+◌, ◌<◌, List, [], ◌∷◌, map, length, Bool, true, false, cond, eqb, inl, inr, refl, ap, sym, subst, ◌∙◌, arith, true≢false, Option, Some, None}
use Rattle.std.proofs.lemmas.Bool.{eqb-true, eq-eqb}
use Rattle.std.proofs.lemmas.List.{length-map}
use Rattle.std.proofs.lemmas.Option.{none-some, same_Some}
use Rattle.om_ring.specs.Members.{In}
use Rattle.om_model.specs.Diagram.{times_in, same_numbers}
use Rattle.om_model.specs.Parts.{Part}
use Rattle.om_model.specs.Slots.{fill}
use Rattle.om_model.proofs.Filling.{fields, filled}
use Rattle.om_model.proofs.Reordering.{length-reordered}
use Rattle.om_model.proofs.Counting.{in_of_times, same_times}
use Rattle.om_graph.specs.declared.fields.Meeting.{Meeting}
use Rattle.om_graph.specs.Loops.{counts, left_over, meeting_at, meeting_with, meetings_of, one_or_none}
use Rattle.om_graph.specs.Vertices.{Reaction}
use Rattle.om_graph.proofs.MeetingLists.{counts_in}
use Rattle.om_ring.proofs.Members.{from_flat_map}

-- one more of a number
counted : (f : ℕ) (fields : List ℕ) → times_in f (f ∷ fields) ≡ 1 + times_in f fields
unfolding times_in
counted f fields = ap (λ b. cond {A = ℕ} b 1 0 + times_in f fields) (eq-eqb f f refl)

not_counted : (f g : ℕ) (fields : List ℕ) → eqb f g ≡ false → times_in f (g ∷ fields) ≡ times_in f fields
unfolding times_in
not_counted f g fields e = ap (λ b. cond {A = ℕ} b 1 0 + times_in f fields) e ∙ nought (times_in f fields)
  where
    nought : (n : ℕ) → 0 + n ≡ n
    nought n = omega arith

-- only one field fills the slots beside others
pub one_field : (f g : ℕ) (fields slots : List ℕ) → same_numbers (f ∷ fields) slots ≡ true → same_numbers (g ∷ fields) slots ≡ true → f ≡ g
one_field f g fields slots h k = by (eqb f g) refl (same_times (f ∷ fields) slots h f ∙ sym (same_times (g ∷ fields) slots k f))
  where
    by : (b : Bool) → eqb f g ≡ b → times_in f (f ∷ fields) ≡ times_in f (g ∷ fields) → f ≡ g
    by true e t = eqb-true f g e
    by false e t = absurd (omega (arith, t, counted f fields, not_counted f g fields e))

-- it stands at one of them
pub fills_slot : (g : ℕ) (fields slots : List ℕ) → same_numbers (g ∷ fields) slots ≡ true → In g slots
fills_slot g fields slots h = in_of_times g slots (omega (arith, same_times (g ∷ fields) slots h g, counted g fields))

left_in : (slots of fields : List ℕ) (g : ℕ) → left_over slots of fields ≡ Some g → same_numbers (g ∷ fields) slots ≡ true
unfolding left_over
left_in slots [] fields g e = absurd (none-some g e)
left_in slots (f ∷ fs) fields g e = by (same_numbers (f ∷ fields) slots) refl e (left_in slots fs fields g)
  where
    by : (b : Bool) → same_numbers (f ∷ fields) slots ≡ b → cond b (Some f) (left_over slots fs fields) ≡ Some g → (left_over slots fs fields ≡ Some g → same_numbers (g ∷ fields) slots ≡ true) → same_numbers (g ∷ fields) slots ≡ true
    by true h e ih = subst (λ x. same_numbers (x ∷ fields) slots ≡ true) (same_Some f g e) h
    by false h e ih = ih e

left_found : (slots of fields : List ℕ) (g : ℕ) → same_numbers (g ∷ fields) slots ≡ true → In g of → left_over slots of fields ≡ Some g
unfolding left_over
left_found slots [] fields g s i = absurd i
left_found slots (f ∷ fs) fields g s i = by (same_numbers (f ∷ fields) slots) refl i (left_found slots fs fields g s)
  where
    by : (b : Bool) → same_numbers (f ∷ fields) slots ≡ b → In g (f ∷ fs) → (In g fs → left_over slots fs fields ≡ Some g) → cond b (Some f) (left_over slots fs fields) ≡ Some g
    by true h i ih = ap Some (one_field f g fields slots h s)
    by false h (inl e) ih = absurd (true≢false (sym s ∙ ap (λ x. same_numbers (x ∷ fields) slots) e ∙ h))
    by false h (inr i) ih = ih i

-- the field that is left over is the one that fills the slots
pub left_fills : (slots fields : List ℕ) (g : ℕ) → left_over slots slots fields ≡ Some g → same_numbers (g ∷ fields) slots ≡ true
left_fills slots fields g e = left_in slots slots fields g e

pub left_is : (slots fields : List ℕ) (g : ℕ) → same_numbers (g ∷ fields) slots ≡ true → left_over slots slots fields ≡ Some g
left_is slots fields g s = left_found slots slots fields g s (fills_slot g fields slots s)

at_edge : ℕ → Part × Unit {0}
at_edge f = (record { field = f; behind = λ k. false }, tt)

fields_back : (xs : List ℕ) → fields (map at_edge xs) ≡ xs
unfolding at_edge
fields_back [] = refl
fields_back (x ∷ xs) = ap (λ ys. x ∷ ys) (fields_back xs)

module _ (r : Reaction) (entering : List ℕ) (m : Meeting) where
  -- a vertex at which nodes leave a slot, and the field that they leave there
  pub record Leaves : Type 0 where
    pub left : ℕ
    pub vertex : m.vertex < r.scattering.theory.vertices
    pub up : m.up ≡ Some (r.scattering.theory.anti left)
    pub slots : same_numbers (left ∷ entering) (r.scattering.theory.slots m.vertex) ≡ true

  pub leaves : In m (meetings_of r false entering) → Leaves
  unfolding meetings_of
  leaves i =
      let f = from_flat_map (λ v. one_or_none (meeting_at r false entering v)) m (counts r.scattering.theory.vertices) i in
      by f.0 (counts_in f.0 r.scattering.theory.vertices f.1) (left_over (r.scattering.theory.slots f.0) (r.scattering.theory.slots f.0) entering) refl f.2
    where
      by : (v : ℕ) → v < r.scattering.theory.vertices → (o : Option ℕ) → left_over (r.scattering.theory.slots v) (r.scattering.theory.slots v) entering ≡ o → In m (one_or_none (meeting_with r.scattering.theory.anti v o)) → Leaves
      by v l None e i = absurd i
      by v l (Some g) e (inr i) = absurd i
      by v l (Some g) e (inl q) =
          let at : m.vertex ≡ v = ap (λ (x : Meeting). x.vertex) q in
          record {
            left = g;
            vertex = omega (arith, at, l);
            up = ap (λ (x : Meeting). x.up) q;
            slots = subst (λ n. same_numbers (g ∷ entering) (r.scattering.theory.slots n) ≡ true) (sym at) (left_fills (r.scattering.theory.slots v) entering g e);
          }

  -- a vertex whose slots nodes fill
  pub record Fills : Type 0 where
    pub vertex : m.vertex < r.scattering.theory.vertices
    pub slots : same_numbers entering (r.scattering.theory.slots m.vertex) ≡ true

  pub fills : In m (meetings_of r true entering) → Fills
  unfolding meetings_of
  fills i =
      let f = from_flat_map (λ v. one_or_none (meeting_at r true entering v)) m (counts r.scattering.theory.vertices) i in
      by f.0 (counts_in f.0 r.scattering.theory.vertices f.1) (same_numbers entering (r.scattering.theory.slots f.0)) refl f.2
    where
      by : (v : ℕ) → v < r.scattering.theory.vertices → (b : Bool) → same_numbers entering (r.scattering.theory.slots v) ≡ b → In m (one_or_none (cond b (Some (record { vertex = v; up = None })) None)) → Fills
      by v l false e i = absurd i
      by v l true e (inr i) = absurd i
      by v l true e (inl q) =
          let at : m.vertex ≡ v = ap (λ (x : Meeting). x.vertex) q in
          record { vertex = omega (arith, at, l); slots = subst (λ n. same_numbers entering (r.scattering.theory.slots n) ≡ true) (sym at) e }

-- lists of the same numbers are as long
pub same_count : (xs ys : List ℕ) → same_numbers xs ys ≡ true → length xs ≡ length ys
same_count xs ys h =
    let qs = map at_edge xs in
    let e : fields qs ≡ xs = fields_back xs in
    let f = filled ys qs (λ k. sym (same_times xs ys h k) ∙ ap (times_in k) (sym e)) in
    let a = length-reordered f.reordered in
    let b = ap length f.fields_are in
    let c = length-map (fill ys qs) (λ (q : Part × Unit {0}). q.0.field) in
    let d = length-map xs at_edge in
    omega (arith, a, b, c, d)
