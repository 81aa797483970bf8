use Rattle.std.proofs.Common.{take}
use Rattle.gate_admit.specs.Chains.{ParentsLeadToAll}
use Rattle.gate_admit.proofs.again.adds_no_chain.Given as goal

abbrev pub invariant-loop-input : goal.invariant-loop-input
invariant-loop-input g l = ParentsLeadToAll l.pool.entries l.children (take l.input-index l.inputs)
