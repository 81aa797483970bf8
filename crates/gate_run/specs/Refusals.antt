-- An opening that is refused, and a job that stops in it.
use Rattle.std.specs.Prelude.{◌≡◌, ℕ, ◌++◌, List, [], ◌∷◌, codes, Option, IfSome, Ok, Err, ◌⊎◌}
use Rattle.std.specs.Fmt.{decimal}
use Rattle.std.specs.Io.KnownBytes.{Appends, Consumes}
use Rattle.gate_core.specs.World.{World}
use Rattle.gate_lines.specs.declared.fault.LaneFault.{LaneFault}
use Rattle.gate_lines.specs.declared.fault.LaneFault.TheVariants as lane
use Rattle.gate_opening.specs.declared.OpeningFault.TheVariants as faults
use Rattle.gate_opening.specs.declared.OpeningToken.{OpeningToken}
use Rattle.gate_opening.specs.OpeningFaults.{token_text}
use Rattle.gate_opening.specs.Openings.{opening_part, OpeningUnread}
use Rattle.gate_opening.specs.Said.{spelled}
use Rattle.gate_print.specs.Printing.{PartSent}

-- the line of an opening's fault
abbrev pub opening_line : ℕ → OpeningToken → List ℕ
opening_line line token = codes "opening " ++ (decimal line ++ (codes " " ++ token_text token))

abbrev pub FaultPrinted : ℕ → OpeningToken → Option (List ℕ) → Option (List ℕ) → ℕ → Type 0
FaultPrinted line token before after status = Appends before after (opening_line line token ++ 10 ∷ []) × (status ≡ 2)

-- writing the line of an opening's fault stopped
abbrev pub RefusalStopped : ℕ → OpeningToken → Option (List ℕ) → Option (List ℕ) → LaneFault → Type 0
RefusalStopped line token before after lane.Read = ⊥
RefusalStopped line token before after lane.Write = PartSent before after (opening_line line token ++ 10 ∷ [])
RefusalStopped line token before after lane.Memory = Appends before after []

-- the opening was read as far as this, and opened this state
abbrev pub OpenedAs : Option (List ℕ) → Option (List ℕ) → World → Type 0
OpenedAs input middle state = IfSome input (λ text. (spelled text ≡ Ok state) × Consumes input middle (opening_part text))

-- the line of the opening's fault was not sent whole
abbrev pub StoppedInRefusal : Option (List ℕ) → Option (List ℕ) → Option (List ℕ) → Type 0
StoppedInRefusal input before after = (line : ℕ) × (token : OpeningToken)
    × IfSome input (λ text. spelled text ≡ Err (faults.Line line token)) × PartSent before after (opening_line line token ++ 10 ∷ [])

-- nothing was written, since the reader failed in the opening, or behind it
abbrev pub StoppedUnread : Option (List ℕ) → Option (List ℕ) → Option (List ℕ) → Option (List ℕ) → Type 0
StoppedUnread input rest before after = Appends before after []
    × (OpeningUnread input rest ⊎ ((middle : Option (List ℕ)) × (state : World) × OpenedAs input middle state))
