use Rattle.std.proofs.Common.{◌≡◌, map, take}
use Rattle.gate_tx.specs.declared.TxIn.{TxIn}
use Rattle.gate_admit.specs.Coins.{view_coin}
use Rattle.gate_core.proofs.submitting.input_coins.Given as goal

abbrev pub invariant-loop-input : goal.invariant-loop-input
invariant-loop-input g l = l.coins.items ≡ map (λ (i : TxIn). view_coin l.chain l.pool.entries i.prevout) (take l.input-index l.inputs)
