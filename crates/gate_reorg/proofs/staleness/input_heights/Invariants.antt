use Rattle.std.proofs.Common.{◌≡◌, ℕ, ◌≤◌, ◌+◌, ◌++◌, length, drop}
use Rattle.std.specs.Prelude.{All}
use Rattle.gate_chain.specs.Times.{tip_of}
use Rattle.gate_reorg.specs.Reorganisation.{input_heights}
use Rattle.gate_reorg.proofs.staleness.input_heights.Given as goal

abbrev pub invariant-loop-input : goal.invariant-loop-input
invariant-loop-input g l =
    (l.heights.items ++ input_heights l.chain l.pool.entries (drop l.input-index l.inputs) ≡ input_heights l.chain l.pool.entries l.inputs)
    × (length l.heights.items ≡ l.input-index)
    × All (λ (h : ℕ). h ≤ tip_of l.chain + 1) l.heights.items
