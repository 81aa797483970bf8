use Rattle.std.proofs.Common.{◌≡◌, take}
use Rattle.gate_admit.proofs.verdicts.copy_rows.Given as goal

abbrev pub invariant-loop-place : goal.invariant-loop-place
invariant-loop-place g l = l.copies.entries ≡ take l.place l.rows.entries
