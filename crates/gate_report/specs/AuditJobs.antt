-- What `gate audit` writes, and how it stops.
use Rattle.std.specs.Prelude.{◌≡◌, ℕ, ◌++◌, List, [], ◌∷◌, codes, Option, Some, None, IfSome, Result, Ok, Err, ◌⊎◌}
use Rattle.std.specs.Fmt.{decimal}
use Rattle.std.specs.Io.KnownBytes.{Appends}
use Rattle.gate_audit.specs.Audits.{Audited}
use Rattle.gate_audit.specs.declared.Audit.{Audit}
use Rattle.gate_audit.specs.declared.Audit.TheVariants.{Legal, Illegal}
use Rattle.gate_core.specs.World.{World}
use Rattle.gate_lines.specs.declared.fault.LaneFault.{LaneFault}
use Rattle.gate_lines.specs.declared.fault.LaneFault.TheVariants as lane
use Rattle.gate_opening.specs.declared.OpeningFault.{OpeningFault}
use Rattle.gate_opening.specs.declared.OpeningFault.TheVariants as faults
use Rattle.gate_lines.specs.Lines.{lines_of}
use Rattle.gate_opening.specs.Openings.{opening_part}
use Rattle.gate_opening.specs.Said.{spelled}
use Rattle.gate_print.specs.Printing.{PartSent}
use Rattle.gate_run.specs.Refusals.{FaultPrinted, OpenedAs, StoppedInRefusal, StoppedUnread}

abbrev pub answer_line : Audit → List ℕ
answer_line (Legal count) = codes "legal " ++ decimal count
answer_line (Illegal number) = codes "illegal " ++ decimal number

abbrev pub answer_status : Audit → ℕ
answer_status (Legal count) = 0
answer_status (Illegal number) = 1

abbrev pub AnswerPrinted : Audit → Option (List ℕ) → Option (List ℕ) → ℕ → Type 0
AnswerPrinted answer before after status = Appends before after (answer_line answer ++ 10 ∷ []) × (status ≡ answer_status answer)

-- writing the line of an answer stopped
abbrev pub AnswerStopped : Audit → Option (List ℕ) → Option (List ℕ) → LaneFault → Type 0
AnswerStopped answer before after lane.Read = ⊥
AnswerStopped answer before after lane.Write = PartSent before after (answer_line answer ++ 10 ∷ [])
AnswerStopped answer before after lane.Memory = Appends before after []

-- the answer to the lines behind the opening, from the opening's state
abbrev pub AuditDone : List ℕ → Result World OpeningFault → Option (List ℕ) → Option (List ℕ) → ℕ → Type 0
AuditDone text (Ok state) before after status = (rest : List ℕ) × (answer : Audit)
    × (text ≡ opening_part text ++ rest) × Audited state (lines_of rest) (Some answer) × AnswerPrinted answer before after status
AuditDone text (Err (faults.Line line token)) before after status = FaultPrinted line token before after status
AuditDone text (Err faults.Read) before after status = ⊥
AuditDone text (Err faults.Memory) before after status = ⊥

-- `gate audit`: an opening, and then a journal
abbrev pub AuditPrinted : Option (List ℕ) → Option (List ℕ) → Option (List ℕ) → ℕ → Type 0
AuditPrinted input before after status = IfSome input (λ text. AuditDone text (spelled text) before after status)

-- the answer was found, but its line was not sent whole
abbrev pub StoppedInAnswer : Option (List ℕ) → Option (List ℕ) → Option (List ℕ) → Type 0
StoppedInAnswer input before after = (middle : Option (List ℕ)) × (state : World) × (answer : Audit)
    × OpenedAs input middle state × IfSome middle (λ rest. Audited state (lines_of rest) (Some answer))
    × PartSent before after (answer_line answer ++ 10 ∷ [])

abbrev pub AuditStopped : Option (List ℕ) → Option (List ℕ) → Option (List ℕ) → Option (List ℕ) → LaneFault → Type 0
AuditStopped input rest before after lane.Read = StoppedUnread input rest before after
AuditStopped input rest before after lane.Write = StoppedInRefusal input before after ⊎ StoppedInAnswer input before after
AuditStopped input rest before after lane.Memory = Appends before after []

-- a line behind the opening is past the limits, and no entry before it is wrong
abbrev pub AuditPastLimits : Option (List ℕ) → Type 0
AuditPastLimits input = IfSome input (λ text. (state : World) × (rest : List ℕ)
    × (spelled text ≡ Ok state) × (text ≡ opening_part text ++ rest) × Audited state (lines_of rest) None)
