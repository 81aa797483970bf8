use Rattle.std.proofs.Common.{◌+◌}
use Rattle.std.specs.Iterator.Adapters.{zip_first, zip_second}
use Rattle.std.specs.Slice.Iter.{iter_rest}
use Rattle.gate_chain.specs.Times.{tip_of}
use Rattle.gate_locks.proofs.Each.{IsLeft}
use Rattle.gate_locks.proofs.relative.sequence_locks_met.Given as goal

abbrev pub invariant-loop-input : goal.invariant-loop-input
invariant-loop-input g l = IsLeft l.chain (tip_of l.chain + 1) l.tx.inputs l.heights (iter_rest (zip_first l.input-iterator)) (iter_rest (zip_second l.input-iterator))
