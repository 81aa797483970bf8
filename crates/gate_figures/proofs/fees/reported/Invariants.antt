use Rattle.std.proofs.Common.{◌≡◌, ◌++◌, drop, length}
use Rattle.gate_admit.specs.Reports.{reported}
use Rattle.gate_figures.proofs.fees.reported.Given as goal

abbrev pub invariant-loop-place : goal.invariant-loop-place
invariant-loop-place l =
    (l.found.items ++ reported (drop l.place l.inputs) (drop l.place l.coins) ≡ reported l.inputs l.coins) × (length l.found.items ≡ l.place)
