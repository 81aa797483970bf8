use Rattle.std.proofs.Common.{◌≡◌, ◌≤◌, List, ℕ, take, drop}
use Rattle.std.specs.List.{list_any}
use Rattle.std.specs.Str.{bytes_eq}
use Rattle.gate_admit.specs.Verdicts.{confirms}
use Rattle.gate_admit.proofs.confirmed.Confirmed.above.Given as goal

abbrev pub invariant-loop-place : goal.invariant-loop-place
invariant-loop-place g l = ((wtxid : List ℕ) → list_any (bytes_eq wtxid) l.wtxids.keys ≡ list_any (confirms wtxid) (drop l.from (take l.place l.chain.blocks))) × (l.from ≤ l.place)
