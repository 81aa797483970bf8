use Rattle.std.proofs.Common.{◌≡◌, length, take}
use Rattle.std.specs.List.{flat_map}
use Rattle.gate_tx.specs.Text.{witness}
use Rattle.gate_tx.specs.Internal.{capped}
use Rattle.gate_tx.proofs.written.witness_size.Given as goal

abbrev pub invariant-loop-input : goal.invariant-loop-input
invariant-loop-input l = l.size ≡ capped (length (flat_map witness (take l.input-index l.inputs)))
