-- There is one possible graph of a process.
use Rattle.std.proofs.Common.{map, length, ap, arith}
use Rattle.std.proofs.lemmas.List.{length-map}
use Rattle.om_graph.specs.OnePossible.{OnePossible}
use Rattle.om_graph.specs.Possible.{flow_lt, unsigned, unsigned_key}
use Rattle.om_graph.specs.SetSearch.{set_search}
use Rattle.om_graph.specs.Vertices.{fusion}
use Rattle.om_graph.proofs.Keystones.{one_graph}
use Rattle.om_graph.proofs.Orders.{flow_order, key_order}

pub one_possible : OnePossible
one_possible r g h a b =
    let e = one_graph (fusion r) (set_search r) key_order flow_lt flow_order g.nodes h.nodes (map unsigned g.terms) (map unsigned h.terms) (map unsigned_key g.keys) (map unsigned_key h.keys) g.flows h.flows a.graph b.graph in
    record {
      nodes = e.0;
      terms = e.1;
      keys = e.2;
      flows = e.3;
      count =
          let s = ap length e.1 in
          let t = ap length e.2 in
          let u = length-map g.terms unsigned in
          let v = length-map h.terms unsigned in
          let w = length-map g.keys unsigned_key in
          let x = length-map h.keys unsigned_key in
          omega (arith, s, t, u, v, w, x);
    }
