use Rattle.std.proofs.Common.{◌≡◌, ◌≤◌, drop, length}
use Rattle.gate_figures.specs.Figures.{doubted}
use Rattle.gate_figures.proofs.verdicts.doubted.Given as goal

abbrev pub invariant-loop-input : goal.invariant-loop-input
invariant-loop-input g l =
    (l.input ≡ l._input-index)
    × (length l._input-items ≤ 0x0200_0000)
    × (doubted l.verdicts l.wtxid 0 l._input-items ≡ doubted l.verdicts l.wtxid l.input (drop l._input-index l._input-items))
