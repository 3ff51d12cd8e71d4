-- What nodes with known keys make.
use Rattle.std.proofs.Common.{◌≡◌, ℕ, List, flat_map, ap, Some, Bool}
use Rattle.om_graph.specs.declared.Key.{Key}
use Rattle.om_graph.specs.declared.fields.Meeting.{Meeting}
use Rattle.om_graph.specs.Graph.{at_numbers}
use Rattle.om_graph.specs.Loops.{meet_by, meetings_of}
use Rattle.om_graph.specs.Tuples.{met, met_by}
use Rattle.om_graph.specs.Vertices.{Reaction, fields_of}

pub met_is : {X : Type 0} (r : Reaction) (closing : Bool) (made : List ℕ → List Key → Meeting → List X) (ns : List Key) (is : List ℕ) (ks : List Key) → at_numbers ns is ≡ Some ks
    → met (meet_by r closing made) ns is ≡ flat_map (made is ks) (meetings_of r closing (fields_of ks))
unfolding met
met_is r closing made ns is ks e = ap (met_by (meet_by r closing made) is) e
