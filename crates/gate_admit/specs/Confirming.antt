-- The wtxids of the transactions of connected blocks, noted block by block.
use Rattle.std.specs.Prelude.{◌≡◌, ℕ, ◌+◌, ◌≤◌, ◌||◌, Bool, List, drop, take}
use Rattle.std.specs.List.{list_any}
use Rattle.gate_chain.specs.Blocks.{Block}
use Rattle.gate_admit.specs.Verdicts.{confirms}

-- once the blocks below a place are noted, from a first one on, so is the block at that place
abbrev pub Notes : ℕ → List Block → (List ℕ → Bool) → (List ℕ → Bool) → Type 0
Notes place blocks old new = (from : ℕ) (wtxid : List ℕ) → from ≤ place → old wtxid ≡ list_any (confirms wtxid) (drop from (take place blocks))
    → new wtxid ≡ list_any (confirms wtxid) (drop from (take (place + 1) blocks))
