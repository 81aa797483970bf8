use Rattle.std.proofs.Common.{◌≡◌, ℕ, ◌&&◌, ◌||◌, List, drop}
use Rattle.std.specs.List.{list_any}
use Rattle.std.specs.Str.{bytes_eq}
use Rattle.indexmap.specs.IndexSet.{contains}
use Rattle.gate_reorg.specs.Picking.{is_premature_id}
use Rattle.gate_reorg.proofs.staleness.premature_ids.Given as goal

abbrev pub invariant-loop-txid : goal.invariant-loop-txid
invariant-loop-txid g l = (id : List ℕ) →
    (contains bytes_eq l.ids id || list_any (λ (x : List ℕ). bytes_eq x id && is_premature_id l.chain l.pool.entries x) (drop l.txid-index l.txid-items))
    ≡ list_any (λ (x : List ℕ). bytes_eq x id && is_premature_id l.chain l.pool.entries x) l.txid-items
