use Rattle.std.proofs.Common.{◌≡◌, true, take}
use Rattle.std.specs.Prelude.{Contains}
use Rattle.gate_tx.specs.Ids.{txid_of}
use Rattle.gate_pool.specs.Pool.{Admitted}
use Rattle.gate_admit.specs.Limits.{has_room_below}
use Rattle.gate_figures.specs.Rooms.{limits_by}
use Rattle.gate_figures.proofs.room.each_has_room.Given as goal

abbrev pub invariant-loop-txid : goal.invariant-loop-txid
invariant-loop-txid g l =
    (a : Admitted) → Contains l.pool.entries a → Contains (take l.txid-index l.above) (txid_of a.tx) → has_room_below (limits_by l.room) l.pool.entries l.vsize a ≡ true
