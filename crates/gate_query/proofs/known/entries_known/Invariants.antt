use Rattle.std.proofs.Common.{◌≡◌, take}
use Rattle.std.specs.List.{flat_map}
use Rattle.gate_query.specs.Queries.{known_at}
use Rattle.gate_query.proofs.known.entries_known.Given as goal

abbrev pub invariant-loop-txid : goal.invariant-loop-txid
invariant-loop-txid g l = l.known.items ≡ flat_map (known_at l.fn.pool.entries) (take l.txid-index l.txid-items)
