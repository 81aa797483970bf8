-- What leaves with the entry of an id.
use Rattle.std.specs.Prelude.{◌≡◌, Bool, true}
use Rattle.gate_tx.specs.declared.OutPoint.{OutPoint}
use Rattle.gate_tx.specs.Coins.{spends}
use Rattle.gate_pool.specs.Pool.{Admitted}

-- each entry that spends an outpoint passes a test
abbrev pub PassesSpenders : (Admitted → Bool) → OutPoint → Type 0
PassesSpenders test point = (e : Admitted) → spends e.tx.inputs point ≡ true → test e ≡ true
