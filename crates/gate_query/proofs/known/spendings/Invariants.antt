use Rattle.std.proofs.Common.{◌≡◌, take, map}
use Rattle.gate_query.specs.Queries.{spending_of}
use Rattle.gate_query.proofs.known.spendings.Given as goal

abbrev pub invariant-loop-outpoint : goal.invariant-loop-outpoint
invariant-loop-outpoint g l = l.spendings.items ≡ map (spending_of l.fn.pool.entries) (take l.outpoint-index l.outpoints)
