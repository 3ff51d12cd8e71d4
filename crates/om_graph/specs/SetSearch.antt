-- The search for nodes, over the sets of legs that lie away from the keystone, and for what closes.
use Rattle.std.specs.Prelude.{ℕ, ◌+◌, ◌-◌, ◌/◌, List, [], ◌∷◌, ◌++◌, map, flat_map, cond, eqb, ltb, ◌&&◌}
use Rattle.std.specs.List.{filter}
use Rattle.om_legs.specs.Legs.{size, complement, all_legs}
use Rattle.om_legs.specs.Walks.{pairs, triples, quadruples}
use Rattle.om_colour.specs.declared.Flow.{Flow}
use Rattle.om_model.specs.Diagram.{all_in}
use Rattle.om_graph.specs.declared.Key.{Key}
use Rattle.om_graph.specs.Caches.{counts_from}
use Rattle.om_graph.specs.Graph.{Found}
use Rattle.om_graph.specs.Loops.{Signed, meet_fused, meet_closed}
use Rattle.om_graph.specs.Possible.{key_lt}
use Rattle.om_graph.specs.Search.{Search, State, walk}
use Rattle.om_graph.specs.Splits.{split_search}
use Rattle.om_graph.specs.Tuples.{met_over_all}
use Rattle.om_graph.specs.Vertices.{Reaction, fusion, leg_key, is_outward, keeps_edges}

-- what was found, without the signs
abbrev pub found_in : {M : Type 0} → List (Signed M) → List (Found M)
found_in {M} xs = map (λ (x : Signed M). x.found) xs

unfoldable pub found_fused : Reaction → List ℕ → List Key → List (Found Key)
found_fused r is ks = found_in (meet_fused r is ks)

unfoldable pub found_closed : Reaction → List ℕ → List Key → List (Found Flow)
found_closed r is ks = found_in (meet_closed r is ks)

-- the splits of a set into two and three parts at which no named edge is cut; those of a set of legs away from the keystone
unfoldable pub uncut_splits : Reaction → ℕ → List (List ℕ)
uncut_splits r s = filter (λ parts. keeps_edges r (complement s r.scattering.size ∷ parts)) (pairs s ++ triples s)

unfoldable pub splits_of : Reaction → ℕ → List (List ℕ)
splits_of r s = cond (is_outward r.scattering.size s && ltb s 4096) (uncut_splits r s) []

abbrev pub set_search : Reaction → Search Key
set_search r = split_search key_lt (λ (k : Key). k.legs) (found_fused r) (splits_of r)

-- the set with this number, where it is one of m of n legs, away from the keystone
unfoldable pub set_at : (n m number : ℕ) → List ℕ
set_at n m number = cond (eqb (size number) m && is_outward n number) (number ∷ []) []

-- those sets, by number, and for all m from 2 on
unfoldable pub sets_of_size : (n m : ℕ) → List ℕ
sets_of_size n m = flat_map (set_at n m) (counts_from 1 (all_legs n + 1 - 1))

unfoldable pub outward_sets : ℕ → List ℕ
outward_sets n = flat_map (sets_of_size n) (counts_from 2 (n / 2 + 1 - 2))

-- the nodes that are legs, and where the walk over the outward sets leads from them
abbrev pub leg_keys : Reaction → List Key
leg_keys r = map (leg_key r) (counts_from 1 r.scattering.size)

abbrev pub leg_state : Reaction → State Key
leg_state r = record { nodes = leg_keys r; terms = [] }

unfoldable pub all_nodes : Reaction → State Key
all_nodes r = walk (fusion r) (set_search r) (leg_state r) (outward_sets r.scattering.size)

-- the splits of all legs at a keystone at which no named edge is cut
unfoldable pub keystone_splits : Reaction → List (List ℕ)
keystone_splits r = filter (λ parts. all_in (is_outward r.scattering.size) parts && keeps_edges r parts) (triples (all_legs r.scattering.size) ++ quadruples (all_legs r.scattering.size))

-- what nodes close to, over these
unfoldable pub closings_of : Reaction → List Key → List (Found Flow)
closings_of r ns = met_over_all (λ (k : Key). k.legs) (found_closed r) ns (keystone_splits r)
