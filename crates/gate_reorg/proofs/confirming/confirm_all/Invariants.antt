use Rattle.std.proofs.Common.{◌≡◌, drop}
use Rattle.gate_submission.specs.Blocks.{present, transactions_of}
use Rattle.gate_reorg.specs.Reorganisation.{all_confirmed}
use Rattle.gate_reorg.proofs.confirming.confirm_all.Given as goal

abbrev pub invariant-loop-block : goal.invariant-loop-block
invariant-loop-block g l =
    (all_confirmed l.pool.entries (transactions_of (present (drop l.block-index l.blocks))) ≡ all_confirmed l.fn.pool.entries (transactions_of (present l.blocks)))
    × (l.pool.before ≡ l.fn.pool.before)
