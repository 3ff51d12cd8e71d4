-- The lines of an opened diagram, over an edge.
use Rattle.std.proofs.Common.{◌≡◌, ◌≢◌, ℕ, ◌⊎◌, inl, inr, sym, subst}
use Rattle.om_colour.specs.Lines.{Side, with_slot, IsSlot, Goes, Line, LineAt}
use Rattle.om_colour.specs.Lines.Side.{vertex}
use Rattle.om_colour.specs.Laws.{SameLinesOverEdge}
use Rattle.om_colour.proofs.Following.{either, like_goes, like_with_slot_other, like_with_slot_other_back, with_slot_same, with_slot_other}

-- at a vertex the lines are those over any one of its edges
at_edge : (to : ℕ → ℕ) (f : ℕ → Side) (t : Side) (s k e : ℕ) → to s ≢ s → LineAt to (with_slot f s t) k e → Line t (vertex to s f) k e
at_edge to f t s k e away (r, i, g) = by (either r s)
  where
    by : (r ≡ s) ⊎ (r ≢ s) → Line t (vertex to s f) k e
    by (inl q) =
        let g' : Goes k (with_slot f s t s) (vertex to s (with_slot f s t)) e = subst (λ j. Goes k (with_slot f s t j) (vertex to j (with_slot f s t)) e) q g in
        inl (like_goes t (vertex to s (with_slot f s t)) (vertex to s f) k e (like_with_slot_other to s s f t away) (subst (λ x. Goes k x (vertex to s (with_slot f s t)) e) (with_slot_same f s t) g'))
    by (inr n) = inr (r, i, n, subst (λ x. Goes k x (vertex to r (with_slot f s t)) e) (with_slot_other f s r t n) g)

edge_at : (to : ℕ → ℕ) (f : ℕ → Side) (t : Side) (s k e : ℕ) → to s ≢ s → IsSlot s → Line t (vertex to s f) k e → LineAt to (with_slot f s t) k e
edge_at to f t s k e away i (inl g) = (s, i, subst (λ x. Goes k x (vertex to s (with_slot f s t)) e) (sym (with_slot_same f s t)) (like_goes t (vertex to s f) (vertex to s (with_slot f s t)) k e (like_with_slot_other_back to s s f t away) g))
edge_at to f t s k e away i (inr (r, j, n, g)) = (r, j, subst (λ x. Goes k x (vertex to r (with_slot f s t)) e) (sym (with_slot_other f s r t n)) g)

-- the lines at the one end of an edge are those at the other
pub over_edge : (v w : ℕ → ℕ) (s h : ℕ) (f g : ℕ → Side) (k e : ℕ) → IsSlot h → v s ≢ s → w h ≢ h → LineAt v (with_slot f s (vertex w h g)) k e → LineAt w (with_slot g h (vertex v s f)) k e
over_edge v w s h f g k e ih m n l = edge_at w g (vertex v s f) h k e n ih (by (at_edge v f (vertex w h g) s k e m l))
  where
    by : Line (vertex w h g) (vertex v s f) k e → Line (vertex v s f) (vertex w h g) k e
    by (inl a) = inr a
    by (inr a) = inl a

pub same_lines_over_edge : SameLinesOverEdge
same_lines_over_edge to too s h k e f g i j m n = ((λ l. over_edge to too s h f g k e j m n l), (λ l. over_edge too to h s g f k e i n m l))
