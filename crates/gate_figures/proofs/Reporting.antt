-- Reports are made of inputs with coins.
use Rattle.std.proofs.Common.{◌≡◌, List, [], ◌∷◌, refl}
use Rattle.gate_tx.specs.declared.TxIn.{TxIn}
use Rattle.gate_admit.specs.Reports.{reported}

-- without coins there are none
pub without_coins : (inputs : List TxIn) → reported inputs [] ≡ []
without_coins [] = refl
without_coins (input ∷ inputs) = refl
