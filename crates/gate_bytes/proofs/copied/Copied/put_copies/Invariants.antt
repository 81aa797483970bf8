use Rattle.std.proofs.Common.{◌≡◌, ◌++◌, take}
use Rattle.gate_bytes.proofs.copied.Copied.put_copies.Given as goal

abbrev pub invariant-loop-item : goal.invariant-loop-item
invariant-loop-item g l = l.list.items ≡ l.fn.list.items ++ take l.item-index l.items
