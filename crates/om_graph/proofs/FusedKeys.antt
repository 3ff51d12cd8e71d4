-- The key that is made of what the slots hold.
use Rattle.std.proofs.Common.{◌≡◌, ℕ, ◌<◌, ◌≤◌, Bool, List, length, refl, ap, ap₂, sym, subst, ◌∙◌, Option, Some, None, slice_get}
use Rattle.om_colour.specs.declared.Partial.{Partial}
use Rattle.om_colour.specs.declared.SlotPartials.{SlotPartials}
use Rattle.om_colour.specs.Partials.{joined}
use Rattle.om_legs.specs.Crossings.{is_odd}
use Rattle.om_graph.specs.declared.Key.{Key}
use Rattle.om_graph.specs.ColoursFit.{CanJoin}
use Rattle.om_graph.specs.Loops.{Signed, fused_key, fused_at, CanJoinAt}
use Rattle.om_graph.specs.Vertices.{Reaction, four_slots, fused_slots, fused_minus, slot_crossings, hole_of, partial_in, sets_of, slot_at, slot_partials, union_of}
use Rattle.om_graph.proofs.SlotSigns.{four_crossings}

same_partial : (o : Option (Option Key)) → partial_in (Some (slot_at o)) ≡ partial_in o
same_partial None = refl
same_partial (Some k) = refl

four : Option Partial → Option Partial → Option Partial → Option Partial → SlotPartials
four a b c d = record { first = a; second = b; third = c; fourth = d }

pub slot_partials-four : (slots : List (Option Key)) → slot_partials (four_slots slots) ≡ slot_partials slots
unfolding four
slot_partials-four slots =
    ap₂ (λ a b. four a b (partial_in (Some (slot_at (slice_get slots 2)))) (partial_in (Some (slot_at (slice_get slots 3))))) (same_partial (slice_get slots 0)) (same_partial (slice_get slots 1))
    ∙ ap₂ (λ c d. four (partial_in (slice_get slots 0)) (partial_in (slice_get slots 1)) c d) (same_partial (slice_get slots 2)) (same_partial (slice_get slots 3))

key_of : ℕ → ℕ → Partial → Key
key_of legs f p = record { legs = legs; field = f; partial = p }

pub key_is : (r : Reaction) (f v c : ℕ) (ks : List Key) (legs hole : ℕ) (slots : List (Option Key)) (p : Partial)
    → legs ≡ union_of (sets_of ks) → slots ≡ four_slots (fused_slots r f v legs ks) → hole ≡ hole_of (fused_slots r f v legs ks) → p ≡ joined (slot_partials slots) (r.choice v c) hole
    → record { legs = legs; field = f; partial = p } ≡ fused_key r f v c ks
unfolding fused_key key_of
key_is r f v c ks legs hole slots p e g h q =
    ap₂ (λ n (w : Partial). key_of n f w) e
    (q ∙ ap₂ (λ (s : List (Option Key)) (n : ℕ). joined (slot_partials s) (r.choice v c) n) g h
    ∙ ap (λ (s : SlotPartials). joined s (r.choice v c) (hole_of (fused_slots r f v legs ks))) (slot_partials-four (fused_slots r f v legs ks))
    ∙ ap (λ (n : ℕ). joined (slot_partials (fused_slots r f v n ks)) (r.choice v c) (hole_of (fused_slots r f v n ks))) e)

seen : (v c : ℕ) → List ℕ → Key → Bool → Signed Key
seen v c is k m = record { found = record { made = k; vertex = v; choice = c; branches = is }; minus = m }

pub found_is : (r : Reaction) (f v c : ℕ) (is : List ℕ) (ks : List Key) (k : Key) (m : Bool) → k ≡ fused_key r f v c ks → m ≡ fused_minus r f v (union_of (sets_of ks)) ks
    → record { found = record { made = k; vertex = v; choice = c; branches = is }; minus = m } ≡ fused_at r is ks f v c
unfolding fused_at seen
found_is r f v c is ks k m e g = ap₂ (seen v c is) e g

-- the sign by what the slots hold
pub minus_is : (r : Reaction) (f v : ℕ) (ks : List Key) (legs fermions : ℕ) (slots : List (Option Key)) (m : Bool)
    → legs ≡ union_of (sets_of ks) → slots ≡ four_slots (fused_slots r f v legs ks) → length (fused_slots r f v legs ks) ≤ 4 → fermions ≡ r.fermions → m ≡ is_odd (slot_crossings fermions slots)
    → m ≡ fused_minus r f v (union_of (sets_of ks)) ks
unfolding fused_minus
minus_is r f v ks legs fermions slots m e g l h q =
    q ∙ ap (λ n. is_odd (slot_crossings n slots)) h ∙ ap (λ s. is_odd (slot_crossings r.fermions s)) g ∙ ap is_odd (four_crossings r.fermions (fused_slots r f v legs ks) l)
    ∙ ap (λ n. is_odd (slot_crossings r.fermions (fused_slots r f v n ks))) e

-- what the slots hold fits a choice, where it does so for the legs of all nodes
pub fits_at : (r : Reaction) (f v c : ℕ) (ks : List Key) (legs hole : ℕ) (slots : List (Option Key)) (up : Option ℕ)
    → CanJoinAt r ks v up → up ≡ Some f → legs ≡ union_of (sets_of ks) → slots ≡ four_slots (fused_slots r f v legs ks) → hole ≡ hole_of (fused_slots r f v legs ks)
    → c < r.scattering.theory.choices v → CanJoin (slot_partials slots) (r.choice v c) hole
fits_at r f v c ks legs hole slots up j u e g h l =
    let j' : CanJoinAt r ks v (Some f) = subst (CanJoinAt r ks v) u j in
    let g' : slots ≡ four_slots (fused_slots r f v (union_of (sets_of ks)) ks) = g ∙ ap (λ n. four_slots (fused_slots r f v n ks)) e in
    let h' : hole ≡ hole_of (fused_slots r f v (union_of (sets_of ks)) ks) = h ∙ ap (λ n. hole_of (fused_slots r f v n ks)) e in
    subst (λ n. CanJoin (slot_partials slots) (r.choice v c) n) (sym h') (subst (λ s. CanJoin (slot_partials s) (r.choice v c) (hole_of (fused_slots r f v (union_of (sets_of ks)) ks))) (sym g') (j' c l))
