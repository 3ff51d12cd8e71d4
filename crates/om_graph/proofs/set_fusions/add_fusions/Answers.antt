use Rattle.std.proofs.Common.{inl, inr, refl}
use Rattle.om_graph.proofs.set_fusions.add_fusions.Goals as goal

pub add_pairs-requires-clause-join : goal.add_pairs-requires-clause-join
add_pairs-requires-clause-join c = λ parts k. c.requires.join 2 parts (inl refl) ((c.splits2-twos.ensures.items.members parts).0 k)

pub add_triples-requires-clause-join : goal.add_triples-requires-clause-join
add_triples-requires-clause-join c = λ parts k. c.requires.join 3 parts (inr refl) ((c.splits3-threes.ensures.items.members parts).0 k)
