use Rattle.std.proofs.Common.{◌≡◌, ℕ, ◌+◌, ◌≤◌, List, drop, length}
use Rattle.std.specs.Prelude.{filter, is_none}
use Rattle.gate_pool.specs.Pool.{entry_by_txid}
use Rattle.gate_reorg.proofs.moved.count_beyond.Given as goal

abbrev pub invariant-loop-txid : goal.invariant-loop-txid
invariant-loop-txid g l =
    (l.count + length (filter (λ (x : List ℕ). is_none (entry_by_txid l.other.entries x)) (drop l.txid-index l.txid-items)) ≡ length (filter (λ (x : List ℕ). is_none (entry_by_txid l.other.entries x)) l.txid-items))
    × (l.count ≤ l.txid-index)
