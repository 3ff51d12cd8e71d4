-- The flow that is made of what the slots hold.
use Rattle.std.proofs.Common.{◌≡◌, ℕ, ◌<◌, ◌≤◌, Bool, List, length, ap, ap₂, sym, subst, ◌∙◌, Option}
use Rattle.om_colour.specs.declared.Flow.{Flow}
use Rattle.om_colour.specs.declared.SlotPartials.{SlotPartials}
use Rattle.om_colour.specs.Partials.{closed, no_hole, Fits}
use Rattle.om_graph.specs.declared.Key.{Key}
use Rattle.om_legs.specs.Crossings.{is_odd}
use Rattle.om_graph.specs.Loops.{Signed, closed_flow, closed_at, CanClose}
use Rattle.om_graph.specs.Vertices.{Reaction, closed_slots, closed_minus, four_slots, slot_crossings, slot_partials}
use Rattle.om_graph.proofs.FusedKeys.{slot_partials-four}
use Rattle.om_graph.proofs.SlotSigns.{four_crossings}

pub closes_at : (r : Reaction) (v : ℕ) (ks : List Key) (slots : List (Option Key)) (c : ℕ) → CanClose r ks v → slots ≡ four_slots (closed_slots r v ks) → c < r.scattering.theory.choices v → Fits (slot_partials slots) (r.choice v c) no_hole
closes_at r v ks slots c h e l = subst (λ (s : List (Option Key)). Fits (slot_partials s) (r.choice v c) no_hole) (sym e) (h c l)

pub flow_is : (r : Reaction) (v c : ℕ) (ks : List Key) (slots : List (Option Key)) (w : Flow) → slots ≡ four_slots (closed_slots r v ks) → w ≡ closed (slot_partials slots) (r.choice v c) → w ≡ closed_flow r v c ks
unfolding closed_flow
flow_is r v c ks slots w e g = g ∙ ap (λ (s : List (Option Key)). closed (slot_partials s) (r.choice v c)) e ∙ ap (λ (s : SlotPartials). closed s (r.choice v c)) (slot_partials-four (closed_slots r v ks))

seen : (v c : ℕ) → List ℕ → Flow → Bool → Signed Flow
seen v c is w m = record { found = record { made = w; vertex = v; choice = c; branches = is }; minus = m }

pub found_is : (r : Reaction) (v c : ℕ) (is : List ℕ) (ks : List Key) (w : Flow) (m : Bool) → w ≡ closed_flow r v c ks → m ≡ closed_minus r v ks
    → record { found = record { made = w; vertex = v; choice = c; branches = is }; minus = m } ≡ closed_at r is ks v c
unfolding closed_at seen
found_is r v c is ks w m e g = ap₂ (seen v c is) e g

-- the sign by what the slots hold
pub minus_is : (r : Reaction) (v : ℕ) (ks : List Key) (fermions : ℕ) (slots : List (Option Key)) (m : Bool)
    → slots ≡ four_slots (closed_slots r v ks) → length (closed_slots r v ks) ≤ 4 → fermions ≡ r.fermions → m ≡ is_odd (slot_crossings fermions slots) → m ≡ closed_minus r v ks
unfolding closed_minus
minus_is r v ks fermions slots m g l h q =
    q ∙ ap (λ n. is_odd (slot_crossings n slots)) h ∙ ap (λ s. is_odd (slot_crossings r.fermions s)) g ∙ ap is_odd (four_crossings r.fermions (closed_slots r v ks) l)
