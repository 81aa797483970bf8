use Rattle.std.proofs.Common.{◌≡◌, ◌+◌, length, take}
use Rattle.std.specs.List.{flat_map, AllByRecursion}
use Rattle.gate_bytes.specs.Compact.{compact}
use Rattle.gate_tx.specs.Internal.{capped}
use Rattle.gate_tx.proofs.written.list_size.Given as goal

abbrev pub invariant-loop-item : goal.invariant-loop-item
invariant-loop-item g l =
    (l.size ≡ capped (length (compact (length l.items)) + length (flat_map g.T.Written.text_of (take l.item-index l.items))))
    × AllByRecursion g.T.Written.IsRangedPart (take l.item-index l.items)
