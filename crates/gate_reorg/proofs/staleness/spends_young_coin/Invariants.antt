use Rattle.std.proofs.Common.{◌≡◌, drop}
use Rattle.gate_reorg.specs.Reorganisation.{spends_young_coin}
use Rattle.gate_reorg.proofs.staleness.spends_young_coin.Given as goal

abbrev pub invariant-loop-input : goal.invariant-loop-input
invariant-loop-input g l = spends_young_coin l.chain l.pool.entries l.inputs ≡ spends_young_coin l.chain l.pool.entries (drop l.input-index l.inputs)
