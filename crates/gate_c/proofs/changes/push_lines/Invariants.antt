use Rattle.std.proofs.Common.{◌≡◌, ◌++◌, take, string_bytes}
use Rattle.std.specs.List.{flat_map}
use Rattle.gate_c.specs.Changes.{signed}
use Rattle.gate_c.proofs.changes.push_lines.Given as goal

abbrev pub invariant-loop-txid : goal.invariant-loop-txid
invariant-loop-txid l = string_bytes l.text ≡ string_bytes l.fn.text ++ flat_map (signed l.sign) (take l.txid-index l.txids)
