use Rattle.std.proofs.Common.{◌≡◌, ◌-◌, List, ℕ}
use Rattle.gate_tx.specs.Reading.{var_bytes_at, many_at}
use Rattle.gate_tx.proofs.Loops.{with_front}
use Rattle.gate_tx.proofs.witness.split_items.Given as goal

-- the items that were passed over
abbrev pub invariant-loop : goal.invariant-loop
invariant-loop l = (front : List (List ℕ)) × (with_front front (many_at var_bytes_at (l.count - l.counter) l.ahead) ≡ many_at var_bytes_at l.count l.bytes)
