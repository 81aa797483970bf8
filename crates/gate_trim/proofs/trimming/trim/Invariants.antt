use Rattle.std.proofs.Common.{◌≡◌, length}
use Rattle.gate_trim.specs.Trimming.{trim_of}
use Rattle.gate_trim.proofs.trimming.trim.Given as goal

abbrev pub invariant-loop-pool : goal.invariant-loop-pool
invariant-loop-pool g l =
    (trim_of l.step l.budget l.pool.entries l.floor ≡ trim_of l.step l.budget l.fn.pool.entries l.fn.floor) × (l.pool.before ≡ l.fn.pool.before)

abbrev pub decreases-loop-pool : goal.decreases-loop-pool
decreases-loop-pool g l = length l.pool.entries
