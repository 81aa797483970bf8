use Rattle.std.proofs.Common.{◌≡◌, ◌≤◌, drop, length}
use Rattle.gate_bytes.specs.Order.{first_failing}
use Rattle.gate_admit.specs.Reports.{verdict_rules}
use Rattle.gate_admit.proofs.verifying.check_verdicts.Given as goal

abbrev pub invariant-loop-input : goal.invariant-loop-input
invariant-loop-input g l =
    (l.index ≡ l._input-index)
    × (length l._input-items ≤ 0x0200_0000)
    × (first_failing (verdict_rules l.verdicts l.wtxid 0 l._input-items) ≡ first_failing (verdict_rules l.verdicts l.wtxid l.index (drop l._input-index l._input-items)))
