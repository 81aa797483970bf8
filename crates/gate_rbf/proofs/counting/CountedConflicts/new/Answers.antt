use Rattle.gate_rbf.proofs.counting.CountedConflicts.new.Goals as goal

pub invariant_of-result : goal.invariant_of-result
invariant_of-result g c = c.in_ok-put_sibling.ensures c.args.tx.now c.requires
