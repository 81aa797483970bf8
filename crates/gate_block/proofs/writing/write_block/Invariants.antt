use Rattle.std.proofs.Common.{◌≡◌, ◌++◌, length, take}
use Rattle.std.specs.List.{flat_map}
use Rattle.gate_bytes.specs.Compact.{compact}
use Rattle.gate_tx.specs.Text.{text}
use Rattle.gate_block.proofs.writing.write_block.Given as goal

abbrev pub invariant-loop-transaction : goal.invariant-loop-transaction
invariant-loop-transaction l = l.bytes.items ≡ l.block.header ++ (compact (length l.block.transactions) ++ flat_map text (take l.transaction-index l.transaction-items))
