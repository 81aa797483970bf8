use Rattle.std.proofs.Common.{◌≡◌, drop}
use Rattle.gate_reorg.specs.Reorganisation.{all_confirmed}
use Rattle.gate_reorg.proofs.confirming.confirm_block.Given as goal

abbrev pub invariant-loop-transaction : goal.invariant-loop-transaction
invariant-loop-transaction g l =
    (all_confirmed l.pool.entries (drop l.transaction-index l.transactions) ≡ all_confirmed l.fn.pool.entries l.transactions)
    × (l.pool.before ≡ l.fn.pool.before)
