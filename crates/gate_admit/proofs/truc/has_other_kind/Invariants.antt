use Rattle.std.proofs.Common.{◌≡◌, false, take}
use Rattle.std.specs.Prelude.{Contains}
use Rattle.gate_tx.specs.Ids.{txid_of}
use Rattle.gate_pool.specs.Pool.{Admitted}
use Rattle.gate_admit.specs.Truc.{is_of_other_kind}
use Rattle.gate_admit.proofs.truc.has_other_kind.Given as goal

abbrev pub invariant-loop-txid : goal.invariant-loop-txid
invariant-loop-txid g l =
    (a : Admitted) → Contains l.pool.entries a → Contains (take l.txid-index l.above) (txid_of a.tx) → is_of_other_kind l.tx a ≡ false
