use Rattle.std.proofs.Common.{◌≡◌, ◌≤◌, ◌*◌, take}
use Rattle.gate_pool.specs.Family.{fees_of}
use Rattle.gate_package.proofs.replacement.paid_by.Given as goal

abbrev pub invariant-loop-entry : goal.invariant-loop-entry
invariant-loop-entry l = record { is : l.paid ≡ fees_of (take l.entry-index l.entries); most : l.paid ≤ l.entry-index * 2_100_000_000_000_000 }
