-- What holds of the texts of events.
use Rattle.std.specs.Prelude.{◌≡◌, ◌≤◌, ℕ, false, List, length, Some}
use Rattle.gate_lines.specs.Lines.{LacksNewline, is_skipped, line_limit}
use Rattle.gate_message.specs.declared.event.Event.{Event}
use Rattle.gate_events.specs.EventLines.{line_event}
use Rattle.gate_events.specs.EventTexts.{text_of}

-- each event that a line spells is spelled by its text
abbrev pub TextsSpell : Type 0
TextsSpell = (line : List ℕ) (event : Event) → line_event line ≡ Some event → line_event (text_of event) ≡ Some event

-- the text of an event that a line within the limits spells is one line within the limits, and isn't skipped
abbrev pub TextsAreLines : Type 0
TextsAreLines = (line : List ℕ) (event : Event) → line_event line ≡ Some event → LacksNewline line → length line ≤ line_limit
    → LacksNewline (text_of event) × (length (text_of event) ≤ line_limit) × (is_skipped (text_of event) ≡ false)
