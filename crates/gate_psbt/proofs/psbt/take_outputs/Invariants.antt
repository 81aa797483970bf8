use Rattle.std.proofs.Common.{◌≡◌, ◌-◌}
use Rattle.gate_psbt.specs.Psbts.{outputs_at}
use Rattle.gate_psbt.proofs.psbt.take_outputs.Given as goal

abbrev pub invariant-loop-place : goal.invariant-loop-place
invariant-loop-place l = outputs_at l.place (l.count - l.place) l.cursor ≡ outputs_at 0 l.count l.initial.cursor
