-- What `gate check` writes, and how it stops.
use Rattle.std.specs.Prelude.{◌≡◌, ℕ, List, [], Option, IfSome}
use Rattle.std.specs.Io.KnownBytes.{Appends}
use Rattle.gate_lines.specs.declared.fault.LaneFault.{LaneFault}
use Rattle.gate_lines.specs.declared.fault.LaneFault.TheVariants as lane
use Rattle.gate_tx.specs.Tx.{Tx}
use Rattle.gate_check.specs.Checks.{check_lines, check_status, input_spells}
use Rattle.gate_events.specs.EventLines.{prepared_of}
use Rattle.gate_lines.specs.Lines.{unlines}
use Rattle.gate_print.specs.Printing.{PartSent}

-- the lines of a check
abbrev pub CheckDone : Option Tx → Option (List ℕ) → Option (List ℕ) → ℕ → Type 0
CheckDone tx before after status = Appends before after (unlines (check_lines tx)) × (status ≡ check_status tx)

-- `gate check -`: the check of what the input spells
abbrev pub InputChecked : Option (List ℕ) → Option (List ℕ) → Option (List ℕ) → ℕ → Type 0
InputChecked input before after status = IfSome input (λ text. CheckDone (input_spells text) before after status)

-- ---- after a fault

-- a check reads nothing, and writes its lines at once
abbrev pub CheckStopped : List ℕ → Option (List ℕ) → Option (List ℕ) → LaneFault → Type 0
CheckStopped hex before after lane.Read = ⊥
CheckStopped hex before after lane.Write = PartSent before after (unlines (check_lines (prepared_of hex)))
CheckStopped hex before after lane.Memory = Appends before after []

-- the input is read before anything is written, and the lines are written at once
abbrev pub InputCheckStopped : Option (List ℕ) → Option (List ℕ) → Option (List ℕ) → LaneFault → Type 0
InputCheckStopped input before after lane.Read = Appends before after []
InputCheckStopped input before after lane.Write = IfSome input (λ text. PartSent before after (unlines (check_lines (input_spells text))))
InputCheckStopped input before after lane.Memory = Appends before after []
