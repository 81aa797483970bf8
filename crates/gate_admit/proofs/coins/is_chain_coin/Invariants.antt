use Rattle.std.proofs.Common.{◌≡◌, ◌≤◌, drop, length}
use Rattle.gate_admit.specs.Rules.{is_chain_coin_from}
use Rattle.gate_admit.proofs.coins.is_chain_coin.Given as goal

abbrev pub invariant-loop-output : goal.invariant-loop-output
invariant-loop-output g l =
    (l.index ≡ l._output-index)
    × (length l._output-items ≤ 0x0200_0000)
    × (is_chain_coin_from l.chain l.txid 0 l._output-items ≡ is_chain_coin_from l.chain l.txid l.index (drop l._output-index l._output-items))
