use Rattle.std.proofs.Common.{◌≡◌, ℕ, ◌||◌, List, drop}
use Rattle.std.specs.Str.{bytes_eq}
use Rattle.indexmap.specs.IndexSet.{contains}
use Rattle.gate_reorg.specs.Reorganisation.{has_id}
use Rattle.gate_reorg.proofs.confirming.add_ids.Given as goal

abbrev pub invariant-loop-transaction : goal.invariant-loop-transaction
invariant-loop-transaction g l = (id : List ℕ) →
    (contains bytes_eq l.ids id || has_id (drop l.transaction-index l.transactions) id) ≡ (contains bytes_eq l.fn.ids id || has_id l.transactions id)
