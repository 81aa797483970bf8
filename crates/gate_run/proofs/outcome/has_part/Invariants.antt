use Rattle.std.proofs.Common.{◌≡◌, drop}
use Rattle.gate_run.specs.ReplyOutcomes.{has_part}
use Rattle.gate_run.proofs.outcome.has_part.Given as goal

abbrev pub invariant-loop-place : goal.invariant-loop-place
invariant-loop-place l = has_part l.part l.text ≡ has_part l.part (drop l.place l.text)
