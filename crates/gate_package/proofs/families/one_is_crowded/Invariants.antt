use Rattle.std.proofs.Common.{◌≡◌, false, take}
use Rattle.std.specs.Prelude.{Contains}
use Rattle.gate_tx.specs.Ids.{txid_of}
use Rattle.gate_pool.specs.Pool.{Admitted}
use Rattle.gate_package.specs.Together.{is_crowded}
use Rattle.gate_package.proofs.families.one_is_crowded.Given as goal

abbrev pub invariant-loop-txid : goal.invariant-loop-txid
invariant-loop-txid g l =
    (a : Admitted) → Contains l.pool.entries a → Contains (take l.txid-index l.above) (txid_of a.tx) → is_crowded l.limits l.pool.entries l.count l.vsize a ≡ false
