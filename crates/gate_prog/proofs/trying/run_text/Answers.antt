use Rattle.std.proofs.Common.{ap, Some}
use Rattle.gate_prog.proofs.TextRuns.{some_left}
use Rattle.gate_prog.proofs.trying.run_text.Goals as goal

pub returns-clause-done : goal.returns-clause-done
returns-clause-done g c = rw c.as_bytes-input.ensures.value at c.run_gate.ensures.done

pub returns-clause-stopped : goal.returns-clause-stopped
returns-clause-stopped g c = some_left c.run_gate.result _ _ (Some c.run_gate.new.reader.now) _ _ (ap (λ bytes. Some bytes) c.as_bytes-input.ensures.value) c.run_gate.ensures.stopped
