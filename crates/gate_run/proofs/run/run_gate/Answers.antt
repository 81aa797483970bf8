use Rattle.std.proofs.Common.{ap, Err}
use Rattle.std.proofs.lemmas.Result.{err_from_is_err_and}
use Rattle.gate_run.proofs.GateRuns.{fault_ran, stopped_in_lane}
use Rattle.gate_run.proofs.run.run_gate.Goals as goal

pub returns-in_err-ran-in-Ok-clause-stopped : goal.returns-in_err-ran-in-Ok-clause-stopped
returns-in_err-ran-in-Ok-clause-stopped g c =
    let p = err_from_is_err_and c.from_residual.result c.from_residual.ensures.1 in
    rw (p.1, p.2) (stopped_in_lane c.in_err-ran-in-Ok.field-0.0 _ (g.R.Read.remaining c.read_opening.new.reader) _ _ _ c.in-Ok.state c.run_lane_on-ran.new.state c.in-Ok.ensures.opened c.in-Ok.ensures.left
    (λ e. c.in_err-ran-in-Ok.ensures.unread (ap Err e)) (λ e. c.in_err-ran-in-Ok.ensures.unwritten (ap Err e)) (λ e. c.in_err-ran-in-Ok.ensures.memory (ap Err e)))

pub returns-in-Err-Line-clause-done : goal.returns-in-Err-Line-clause-done
returns-in-Err-Line-clause-done g c =
    fault_ran _ _ _ _ c.in-Err-Line.line c.in-Err-Line.token (c.in-Err-Line.ensures.fault c.in-Err-Line.line c.in-Err-Line.token (ap Err c.in-Err-Line.field-0-is)) c.refuse_opening.ensures.done

pub returns-in_err-ran-in-Ok-clause-steady_reader : goal.returns-in_err-ran-in-Ok-clause-steady_reader
returns-in_err-ran-in-Ok-clause-steady_reader g c = λ steady.
    let p = err_from_is_err_and c.from_residual.result c.from_residual.ensures.1 in
    rw (p.1, p.2) (c.in_err-ran-in-Ok.ensures.steady_reader steady)

pub returns-in_err-ran-in-Ok-clause-steady_writer : goal.returns-in_err-ran-in-Ok-clause-steady_writer
returns-in_err-ran-in-Ok-clause-steady_writer g c = λ steady.
    let p = err_from_is_err_and c.from_residual.result c.from_residual.ensures.1 in
    rw (p.1, p.2) (c.in_err-ran-in-Ok.ensures.steady_writer steady)
