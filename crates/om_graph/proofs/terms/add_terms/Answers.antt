use Rattle.std.proofs.Common.{◌∙◌, ap, sym, subst}
use Rattle.om_graph.specs.Caches.{StandLast}
use Rattle.om_graph.specs.Graph.{Found}
use Rattle.om_graph.specs.Loops.{fused_found}
use Rattle.om_graph.specs.Possible.{key_lt, state_of}
use Rattle.om_graph.specs.Search.{add}
use Rattle.om_graph.specs.SetWalk.{HasFoundSign}
use Rattle.om_graph.specs.declared.Key.{Key}
use Rattle.om_graph.proofs.AddedSigns.{as_long, found_at, longer_found, still_longer}
use Rattle.om_graph.proofs.AddedTerms.{next_added, none_added, over_set}
use Rattle.om_graph.proofs.terms.add_terms.Goals as goal

pub loop-one-init : goal.loop-one-init
loop-one-init c = record { state = none_added key_lt (state_of c.args.nodes.now c.args.terms.now); over = c.requires.over; grown = as_long c.args.nodes.now; signs = λ r h a. h }

pub loop-one-preserved : goal.loop-one-preserved
loop-one-preserved c =
    let over = c.loop-one.invariant.over in
    let grown = c.loop-one.invariant.grown in
    record {
      state =
          next_added key_lt fused_found (state_of c.args.nodes.now c.args.terms.now) (state_of c.loop-one.nodes c.loop-one.terms) _ c.args.found.now c.loop-one.one-index c.one-item.result
          (c.in_default.ensures.state ∙ ap (λ (x : Found Key). add key_lt (state_of c.loop-one.nodes c.loop-one.terms) x) (ap fused_found c.one-item.is))
          c.loop-one.invariant.state c.loop-one-test.true;
      over = (over.0, subst (StandLast c.add_term.new.nodes) (over_set over.0 c.args.found.now c.loop-one.one-index c.one-item.result over.2 c.loop-one-test.true c.one-item.is) c.in_default.ensures.last, over.2);
      grown = still_longer c.args.nodes.now c.loop-one.nodes c.add_term.new.nodes c.loop-one.terms c.add_term.new.terms _ grown c.in_default.ensures.state;
      signs = λ r h a. c.in_default.ensures.signs r (c.loop-one.invariant.signs r h a)
          (longer_found r c.args.nodes.now c.loop-one.nodes grown.0 c.one-item.result grown.1 (found_at (HasFoundSign r c.args.nodes.now) c.args.found.now c.loop-one.one-index c.one-item.result a c.loop-one-test.true c.one-item.is));
    }

pub add_term-requires-clause-last : goal.add_term-requires-clause-last
add_term-requires-clause-last c =
    let over = c.loop-one.invariant.over in
    subst (StandLast c.loop-one.nodes) (sym (over_set over.0 c.args.found.now c.loop-one.one-index c.one-item.result over.2 c.loop-one-test.true c.one-item.is)) over.1
