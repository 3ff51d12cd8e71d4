-- One row more, with the number of its flow.
use Rattle.std.proofs.Common.{◌≡◌, ℕ, List, [], ◌∷◌, ◌++◌, Bool, map, refl, ap, ap₂, sym, subst, ◌∙◌}
use Rattle.std.proofs.lemmas.List.{map-append}
use Rattle.om_colour.specs.declared.Flow.{Flow}
use Rattle.om_graph.specs.declared.closed_rows.Row.{Row}
use Rattle.om_graph.specs.declared.closings.Closed.{Closed}
use Rattle.om_graph.specs.ClosedRows.{AreNumbered, row_closed, row_state_of}
use Rattle.om_graph.specs.Graph.{Found}
use Rattle.om_graph.specs.Loops.{Signed, chosen_nodes, closed_found, closed_seen, row_seen}
use Rattle.om_graph.specs.Possible.{flow_lt}
use Rattle.om_graph.specs.Search.{add, add_all, interned, place}
use Rattle.om_graph.specs.SetSearch.{found_in}
use Rattle.om_graph.proofs.AddedTerms.{add_all-append, add_one, numbered_is, term_added}
use Rattle.om_graph.proofs.NumberedRows.{back, with_made}
use Rattle.om_graph.proofs.Orders.{flow_order}

-- lists with the same finds and the same signs
same_signed : (xs ys : List (Signed Flow)) → found_in xs ≡ found_in ys → map (λ (x : Signed Flow). x.minus) xs ≡ map (λ (x : Signed Flow). x.minus) ys → xs ≡ ys
same_signed [] [] f m = refl
same_signed [] (y ∷ ys) f m = cc
same_signed (x ∷ xs) [] f m = cc
same_signed (x ∷ xs) (y ∷ ys) f m = ap₂ (λ (a : Signed Flow) (b : List (Signed Flow)). a ∷ b) (one (head f) (head m)) (same_signed xs ys (tail f) (tail m))
  where
    head : {A : Type 0} {a b : A} {us vs : List A} → a ∷ us ≡ b ∷ vs → a ≡ b
    head e = cc

    tail : {A : Type 0} {a b : A} {us vs : List A} → a ∷ us ≡ b ∷ vs → us ≡ vs
    tail e = cc

    one : x.found ≡ y.found → x.minus ≡ y.minus → x ≡ y
    one f m = ap₂ (λ (a : Found Flow) (b : Bool). record { found = a; minus = b }) f m

pub none_numbered : (ws : List Flow) (ys : List Row) → ws ≡ [] → ys ≡ [] → AreNumbered ws ys
unfolding add_all
none_numbered ws ys f r = subst (λ l. AreNumbered l ys) (sym f) (subst (AreNumbered []) (sym r) refl)

-- what rows say by the numbers of their flows
said_by : (ws : List Flow) (ys : List Row) → found_in (map (row_closed ws) ys) ≡ map (with_made ws (record { ends = [] })) (map row_seen ys)
said_by ws [] = refl
said_by ws (y ∷ ys) = ap (λ l. with_made ws (record { ends = [] }) (row_seen y) ∷ l) (said_by ws ys)

signs_of : (ws : List Flow) (ys : List Row) → map (λ (x : Signed Flow). x.minus) (map (row_closed ws) ys) ≡ map (λ (y : Row). y.minus) ys
signs_of ws [] = refl
signs_of ws (y ∷ ys) = ap (λ l. y.minus ∷ l) (signs_of ws ys)

module _ (ws vs : List Flow) (ys zs : List Row) (y : Row) (one : Closed) (before : AreNumbered ws ys) (flows : vs ≡ interned flow_lt ws one.flow) (rows : zs ≡ ys ++ y ∷ []) (number : y.flow ≡ place flow_lt vs one.flow) (vertex : y.vertex ≡ one.vertex) (choice : y.choice ≡ one.choice) (branches : y.branches ≡ one.branches) (minus : y.minus ≡ one.minus) where
  -- one more was added
  state : row_state_of vs zs ≡ add_all flow_lt (row_state_of [] []) (found_in (map (row_closed ws) ys) ++ closed_found one ∷ [])
  state =
      term_added flow_lt row_seen ws vs ys zs y (closed_found one) flows rows (seen vertex choice ∙ numbered_is flow_lt y.flow vs (closed_found one) (chosen_nodes y.branches) number (ap chosen_nodes branches))
      ∙ ap (λ s. add flow_lt s (closed_found one)) before ∙ sym (add_one flow_lt (add_all flow_lt (row_state_of [] []) (found_in (map (row_closed ws) ys))) (closed_found one))
      ∙ sym (add_all-append flow_lt (row_state_of [] []) (found_in (map (row_closed ws) ys)) (closed_found one ∷ []))
    where
      seen : y.vertex ≡ one.vertex → y.choice ≡ one.choice → row_seen y ≡ record { made = y.flow; vertex = one.vertex; choice = one.choice; branches = chosen_nodes y.branches }
      seen v c = ap₂ (λ (a b : ℕ). record { made = y.flow; vertex = a; choice = b; branches = chosen_nodes y.branches }) v c

  found_is : found_in (map (row_closed vs) zs) ≡ found_in (map (row_closed ws) ys) ++ closed_found one ∷ []
  found_is = said_by vs zs ∙ back flow_lt flow_order (found_in (map (row_closed ws) ys) ++ closed_found one ∷ []) vs (map row_seen zs) state (record { ends = [] })

  pub still_numbered : AreNumbered vs zs
  still_numbered = state ∙ ap (add_all flow_lt (row_state_of [] [])) (sym found_is)

  pub one_more : map (row_closed vs) zs ≡ map (row_closed ws) ys ++ closed_seen one ∷ []
  one_more = same_signed (map (row_closed vs) zs) (map (row_closed ws) ys ++ closed_seen one ∷ [])
      (found_is ∙ sym (map-append (λ (x : Signed Flow). x.found) (map (row_closed ws) ys) (closed_seen one ∷ [])))
      (signs_of vs zs ∙ ap (map (λ (x : Row). x.minus)) rows ∙ map-append (λ (x : Row). x.minus) ys (y ∷ [])
      ∙ ap₂ (λ (l : List Bool) (b : Bool). l ++ b ∷ []) (sym (signs_of ws ys)) minus ∙ sym (map-append (λ (x : Signed Flow). x.minus) (map (row_closed ws) ys) (closed_seen one ∷ [])))
