use Rattle.gate_graph.proofs.put.settle_named.Goals as goal

pub settle_between-requires-clause-adds : goal.settle_between-requires-clause-adds
settle_between-requires-clause-adds g c = c.adds_no_chain.ensures.adds c.if-adds_no_chain.true
