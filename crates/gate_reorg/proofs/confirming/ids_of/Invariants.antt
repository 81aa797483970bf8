use Rattle.std.proofs.Common.{◌≡◌, ℕ, ◌||◌, List, drop}
use Rattle.std.specs.Str.{bytes_eq}
use Rattle.indexmap.specs.IndexSet.{contains}
use Rattle.gate_submission.specs.Blocks.{present, transactions_of}
use Rattle.gate_reorg.specs.Reorganisation.{has_id}
use Rattle.gate_reorg.proofs.confirming.ids_of.Given as goal

abbrev pub invariant-loop-block : goal.invariant-loop-block
invariant-loop-block g l = (id : List ℕ) →
    (contains bytes_eq l.ids id || has_id (transactions_of (present (drop l.block-index l.blocks))) id) ≡ has_id (transactions_of (present l.blocks)) id
