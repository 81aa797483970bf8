-- Trimming picks the least.
use Rattle.std.proofs.Common.{◌≡◌, ℕ, ◌<◌, List, Some, refl, ap, ◌∙◌, subst}
use Rattle.gate_tx.specs.Ids.{txid_of}
use Rattle.gate_pool.specs.Pool.{Admitted, size_of}
use Rattle.gate_pool.specs.Family.{descendants_of, without_family, sums_of}
use Rattle.gate_pool.specs.Scores.{score_of, least_of}
use Rattle.gate_pool.specs.declared.Score.{Score}
use Rattle.gate_graph.specs.declared.held.Sums.{Sums}
use Rattle.gate_trim.specs.Trimming.{Trimmed, raised, trim_of}
use Rattle.gate_trim.specs.Laws.{Trims, within, goes, floor_above}
use Rattle.gate_trim.proofs.Choosing.{least_stands}
use Rattle.gate_trim.proofs.Trimmings.{trims, least_is, score_txid}

score_family : (entries : List Admitted) (e : Admitted) → (score_of entries e).family ≡ sums_of (descendants_of entries (txid_of e.tx))
unfolding score_of
score_family entries e = refl

pub trims_the_least : (step budget : ℕ) (entries : List Admitted) (floor : ℕ) → Trims step budget entries floor (trim_of step budget entries floor)
trims_the_least step budget entries floor = trims step budget (λ l f t. Trims step budget l f t) (λ l f fits. within fits) picks entries floor
  where
    picks : (l : List Admitted) (f : ℕ) (s : Score) (t : Trimmed) → budget < size_of l → least_of l ≡ Some s → Trims step budget (without_family l s.txid) (raised step f s.family) t → Trims step budget l f t
    picks l f s t over is rest =
        let w = least_is l s is in
        let id : s.txid ≡ txid_of w.entry.tx = ap (λ (x : Score). x.txid) w.is ∙ score_txid l w.entry in
        let family : s.family ≡ sums_of (descendants_of l (txid_of w.entry.tx)) = ap (λ (x : Score). x.family) w.is ∙ score_family l w.entry in
        goes w.entry over (least_stands l w.entry w.least)
        (subst (λ x. Trims step budget (without_family l x) (floor_above step l w.entry f) t) id (subst (λ (x : Sums). Trims step budget (without_family l s.txid) (raised step f x) t) family rest))
