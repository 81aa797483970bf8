-- Audits whose opening is refused, and audits that stop behind it.
use Rattle.std.proofs.Common.{◌≡◌, ◌≢◌, ℕ, List, [], Option, Some, None, IfSome, Result, Ok, Err, IfOk, IfErr, inr, refl, sym, subst}
use Rattle.std.specs.Io.KnownBytes.{Appends}
use Rattle.gate_audit.specs.Audits.{Audited}
use Rattle.gate_audit.specs.declared.Audit.{Audit}
use Rattle.gate_core.specs.World.{World}
use Rattle.gate_lines.specs.Lines.{lines_of}
use Rattle.gate_lines.specs.declared.fault.LaneFault.{LaneFault}
use Rattle.gate_lines.specs.declared.fault.LaneFault.TheVariants as faults
use Rattle.gate_opening.specs.declared.OpeningFault.{OpeningFault}
use Rattle.gate_opening.specs.declared.OpeningFault.TheVariants.{Line}
use Rattle.gate_opening.specs.declared.OpeningToken.{OpeningToken}
use Rattle.gate_opening.specs.Openings.{LeavesRest}
use Rattle.gate_opening.specs.Said.{spelled}
use Rattle.gate_report.specs.AuditJobs.{AnswerStopped, AuditDone, AuditPrinted, AuditStopped}
use Rattle.gate_run.specs.Refusals.{FaultPrinted}
use Rattle.gate_run.proofs.Refusals.{opened_as, unread_behind}

audit_refused : (input before after : Option (List ℕ)) (line : ℕ) (token : OpeningToken) (status : ℕ)
    → IfSome input (λ text. spelled text ≡ Err (Line line token)) → FaultPrinted line token before after status → AuditPrinted input before after status
audit_refused None before after line token status h printed = tt
audit_refused (Some text) before after line token status h printed = subst (λ (r : Result World OpeningFault). AuditDone text r before after status) (sym h) printed

pub refused_audit : {E : Type 0} (r : Result ℕ E) (input before after : Option (List ℕ)) (line : ℕ) (token : OpeningToken)
    → IfSome input (λ text. spelled text ≡ Err (Line line token)) → IfOk r (λ status. FaultPrinted line token before after status)
    → IfOk r (λ status. AuditPrinted input before after status)
refused_audit (Ok status) input before after line token h printed = audit_refused input before after line token status h printed
refused_audit (Err fault) input before after line token h printed = tt

pub audit_unread : (fault : LaneFault) (input middle rest before after : Option (List ℕ)) (state : World)
    → IfSome input (λ text. spelled text ≡ Ok state) → LeavesRest input middle → fault ≢ faults.Write → Appends before after []
    → AuditStopped input rest before after fault
audit_unread faults.Read input middle rest before after state opened left kind kept = unread_behind input middle rest before after state opened left kept
audit_unread faults.Write input middle rest before after state opened left kind kept = absurd (kind refl)
audit_unread faults.Memory input middle rest before after state opened left kind kept = kept

pub answer_unsent : {T : Type 0} (r : Result T LaneFault) (input middle rest before after : Option (List ℕ)) (state : World) (answer : Audit)
    → IfSome input (λ text. spelled text ≡ Ok state) → LeavesRest input middle → IfSome middle (λ lines. Audited state (lines_of lines) (Some answer))
    → IfErr r (AnswerStopped answer before after) → IfErr r (AuditStopped input rest before after)
answer_unsent (Ok done) input middle rest before after state answer opened left told stopped = tt
answer_unsent (Err faults.Read) input middle rest before after state answer opened left told stopped = absurd stopped
answer_unsent (Err faults.Write) input middle rest before after state answer opened left told stopped =
    inr (middle, state, answer, opened_as input middle state opened left, told, stopped)
answer_unsent (Err faults.Memory) input middle rest before after state answer opened left told stopped = stopped
