use Rattle.std.proofs.Common.{ap, Err}
use Rattle.std.proofs.KnownBytes.{Appends-nil}
use Rattle.std.proofs.lemmas.Result.{err_from_is_err_and}
use Rattle.gate_report.proofs.AuditRefusals.{answer_unsent, audit_unread, refused_audit}
use Rattle.gate_report.proofs.audit_job.run_audit.Goals as goal

pub returns-in_err-answer-in-Ok-clause-stopped : goal.returns-in_err-answer-in-Ok-clause-stopped
returns-in_err-answer-in-Ok-clause-stopped g c =
    let p = err_from_is_err_and c.from_residual.result c.from_residual.ensures.1 in
    rw (p.1, p.2) (audit_unread c.in_err-answer-in-Ok.field-0.0 _ (g.R.Read.remaining c.read_opening.new.reader) _ _ _ c.in-Ok.state
    c.in-Ok.ensures.opened c.in-Ok.ensures.left c.in_err-answer-in-Ok.ensures.kind (Appends-nil _))

pub returns-in_ok-answer-in-Ok-clause-stopped : goal.returns-in_ok-answer-in-Ok-clause-stopped
returns-in_ok-answer-in-Ok-clause-stopped g c =
    answer_unsent _ _ (g.R.Read.remaining c.read_opening.new.reader) _ _ _ c.in-Ok.state c.in_ok-answer-in-Ok.answer
    c.in-Ok.ensures.opened c.in-Ok.ensures.left c.in_ok-answer-in-Ok.ensures.told c.print_answer.ensures.stopped

pub returns-in-Err-Line-clause-done : goal.returns-in-Err-Line-clause-done
returns-in-Err-Line-clause-done g c =
    refused_audit _ _ _ _ c.in-Err-Line.line c.in-Err-Line.token (c.in-Err-Line.ensures.fault c.in-Err-Line.line c.in-Err-Line.token (ap Err c.in-Err-Line.field-0-is)) c.refuse_opening.ensures.done
