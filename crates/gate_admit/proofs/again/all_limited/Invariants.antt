use Rattle.std.proofs.Common.{◌≡◌, true, take}
use Rattle.std.specs.Prelude.{Contains}
use Rattle.gate_tx.specs.Ids.{txid_of}
use Rattle.gate_pool.specs.Pool.{Admitted}
use Rattle.gate_admit.specs.Limits.{is_limited}
use Rattle.gate_admit.proofs.again.all_limited.Given as goal

abbrev pub invariant-loop-txid : goal.invariant-loop-txid
invariant-loop-txid g l =
    (a : Admitted) → Contains (g.V.FamilyView.entries l.pool) a → Contains (take l.txid-index l.txids) (txid_of a.tx) → is_limited l.policy (g.V.FamilyView.entries l.pool) (txid_of a.tx) ≡ true
