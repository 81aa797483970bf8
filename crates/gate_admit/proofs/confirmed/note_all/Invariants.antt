use Rattle.std.proofs.Common.{◌≡◌, ◌||◌, List, ℕ, take}
use Rattle.std.specs.List.{list_any}
use Rattle.std.specs.Str.{bytes_eq}
use Rattle.gate_admit.specs.Verdicts.{has_wtxid_among}
use Rattle.gate_admit.proofs.confirmed.note_all.Given as goal

abbrev pub invariant-loop-tx : goal.invariant-loop-tx
invariant-loop-tx g l = (wtxid : List ℕ) → list_any (bytes_eq wtxid) l.wtxids.keys ≡ (list_any (bytes_eq wtxid) l.fn.wtxids.keys || has_wtxid_among wtxid (take l.tx-index l.txs))
