use Rattle.std.proofs.Common.{◌≡◌, ◌≤◌, drop, length}
use Rattle.gate_figures.specs.Figures.{unswept_output}
use Rattle.gate_figures.proofs.sweeping.unswept_output.Given as goal

abbrev pub invariant-loop-output : goal.invariant-loop-output
invariant-loop-output l =
    (l.index ≡ l.output-index)
    × (length l.output-items ≤ 0x0200_0000)
    × (unswept_output l.rate l.inputs l.txid 0 l.output-items ≡ unswept_output l.rate l.inputs l.txid l.index (drop l.output-index l.output-items))
