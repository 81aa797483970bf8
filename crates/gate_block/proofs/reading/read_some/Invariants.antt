use Rattle.std.proofs.Common.{◌≡◌, ◌≤◌, ◌-◌, length}
use Rattle.gate_tx.specs.Reading.{many_at, tx_at}
use Rattle.gate_tx.specs.Text.{longest}
use Rattle.gate_tx.proofs.Loops.{with_front}
use Rattle.gate_block.proofs.reading.read_some.Given as goal

abbrev pub invariant-loop : goal.invariant-loop
invariant-loop l =
    length l.bytes ≤ longest
    → (with_front l.transactions.items (many_at tx_at (l.count - l.counter) l.rest) ≡ many_at tx_at l.count l.bytes) × (length l.rest ≤ longest)
