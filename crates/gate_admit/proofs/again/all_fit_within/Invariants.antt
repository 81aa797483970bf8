use Rattle.std.proofs.Common.{◌≡◌, true, take}
use Rattle.std.specs.Prelude.{Contains}
use Rattle.gate_tx.specs.Ids.{txid_of}
use Rattle.gate_pool.specs.Pool.{Admitted}
use Rattle.gate_admit.specs.Limits.{fits_within}
use Rattle.gate_admit.proofs.again.all_fit_within.Given as goal

abbrev pub invariant-loop-txid : goal.invariant-loop-txid
invariant-loop-txid g l =
    (a : Admitted) → Contains l.pool.entries a → Contains (take l.txid-index l.txids) (txid_of a.tx) → fits_within l.limits l.pool.entries (txid_of a.tx) ≡ true
