-- What closes, by rows with the numbers of flows.
use Rattle.std.specs.Prelude.{◌≡◌, List, [], map, slice_index_or}
use Rattle.om_colour.specs.declared.Flow.{Flow}
use Rattle.om_graph.specs.declared.closed_rows.Row.{Row}
use Rattle.om_graph.specs.Loops.{Signed, chosen_nodes, row_seen}
use Rattle.om_graph.specs.Possible.{flow_lt}
use Rattle.om_graph.specs.Search.{State, add_all}
use Rattle.om_graph.specs.SetSearch.{found_in}

-- what a row says, with its flow
abbrev pub row_closed : List Flow → Row → Signed Flow
row_closed ws y = record { found = record { made = slice_index_or ws y.flow (record { ends = [] }); vertex = y.vertex; choice = y.choice; branches = chosen_nodes y.branches }; minus = y.minus }

-- flows with what closes to them
abbrev pub row_state_of : List Flow → List Row → State Flow
row_state_of ws ys = record { nodes = ws; terms = map row_seen ys }

-- the flows are those of the rows, by first arrival
abbrev pub AreNumbered : List Flow → List Row → Type 0
AreNumbered ws ys = row_state_of ws ys ≡ add_all flow_lt (row_state_of [] []) (found_in (map (row_closed ws) ys))

-- so they are, and what closes is what the rows say
pub record AreRowsOf (ws : List Flow) (ys : List Row) (found : List (Signed Flow)) : Type 0 where
  pub seen : found ≡ map (row_closed ws) ys
  pub numbered : AreNumbered ws ys
