-- Entries of which no two share an id or spend one outpoint.
use Rattle.std.specs.Prelude.{◌≡◌, ◌≢◌, true, false, List}
use Rattle.std.specs.List.{AllPairs}
use Rattle.gate_tx.specs.declared.OutPoint.{OutPoint}
use Rattle.gate_tx.specs.Ids.{txid_of, wtxid_of}
use Rattle.gate_tx.specs.Coins.{spends}
use Rattle.gate_pool.specs.Pool.{Admitted}

pub record AreDistinct (entries : List Admitted) : Type 0 where
  -- no two entries share an id
  pub txids : AllPairs (λ (a : Admitted) (b : Admitted). txid_of a.tx ≢ txid_of b.tx) entries
  pub wtxids : AllPairs (λ (a : Admitted) (b : Admitted). wtxid_of a.tx ≢ wtxid_of b.tx) entries
  -- no two entries spend one outpoint
  pub points : AllPairs (λ (a : Admitted) (b : Admitted). (point : OutPoint) → spends a.tx.inputs point ≡ true → spends b.tx.inputs point ≡ false) entries
