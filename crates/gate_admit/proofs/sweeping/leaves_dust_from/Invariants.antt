use Rattle.std.proofs.Common.{◌≡◌, ◌≤◌, drop, length}
use Rattle.gate_admit.specs.Sweeping.{leaves_dust_from}
use Rattle.gate_admit.proofs.sweeping.leaves_dust_from.Given as goal

abbrev pub invariant-loop-output : goal.invariant-loop-output
invariant-loop-output l =
    (l.index ≡ l.output-index)
    × (length l.output-items ≤ 0x0200_0000)
    × (leaves_dust_from l.rate l.inputs l.txid 0 l.output-items ≡ leaves_dust_from l.rate l.inputs l.txid l.index (drop l.output-index l.output-items))
