use Rattle.std.proofs.Common.{◌≡◌, List, drop}
use Rattle.gate_tx.specs.Tx.{Tx}
use Rattle.gate_submission.specs.Blocks.{transactions_of}
use Rattle.gate_reorg.specs.Following.{returns_of}
use Rattle.gate_reorg.specs.Picking.{HasIdsOf}
use Rattle.gate_reorg.proofs.returning.return_all.Given as goal

abbrev pub invariant-loop-block : goal.invariant-loop-block
invariant-loop-block g l =
    ((landed : List Tx) → HasIdsOf l.new landed
    → returns_of l.under l.pool.entries landed (transactions_of (drop l.block-index l.gone)) ≡ returns_of l.under l.fn.pool.entries landed (transactions_of l.gone))
    × (l.pool.before ≡ l.fn.pool.before)
