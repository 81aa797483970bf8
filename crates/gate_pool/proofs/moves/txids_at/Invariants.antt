use Rattle.std.proofs.Common.{◌≡◌, map, take}
use Rattle.gate_pool.proofs.moves.txids_at.Given as goal

abbrev pub invariant-loop-seat : goal.invariant-loop-seat
invariant-loop-seat l = l.txids.items ≡ map (λ s. s.txid) (take l.seat-index l.seats)
