use Rattle.gate_rbf.proofs.direct.DirectConflicts.counting.Goals as goal

pub new-requires : goal.new-requires
new-requires g c = c.self.invariant
