-- What is printed of lanes.
use Rattle.std.specs.Prelude.{ℕ, ◌+◌, Bool, true, false, List, [], ◌∷◌, ◌++◌, codes, Option, Some, None}
use Rattle.std.specs.Global.{Vec}
use Rattle.std.specs.List.{flat_map}
use Rattle.std.specs.Fmt.{decimal}
use Rattle.gate_audit.specs.Journals.{base_line}
use Rattle.gate_message.specs.Texts.{reply_text}
use Rattle.gate_events.specs.EventTexts.{text_of}
use Rattle.gate_journal.specs.declared.Entry.{Entry}
use Rattle.gate_lanes.specs.declared.round.Conclusion.{Conclusion}
use Rattle.gate_lanes.specs.declared.round.Conclusion.TheVariants as conclusions
use Rattle.gate_lanes.specs.declared.round.RoundEnd.{RoundEnd}
use Rattle.gate_lines.specs.Lines.{unlines}
use Rattle.gate_shared.specs.declared.Settled.{Settled}
use Rattle.gate_rounds.specs.Texts.{texts_of}

abbrev pub lane_line : ℕ → List ℕ
lane_line number = codes "lane " ++ decimal number

-- the lanes from this number on: the line of each, and then what was written in it
abbrev pub lanes_text : ℕ → List (List ℕ) → List ℕ
lanes_text number [] = []
lanes_text number (text ∷ texts) = ((lane_line number ++ 10 ∷ []) ++ text) ++ lanes_text (number + 1) texts

abbrev pub settled_line : ℕ → List ℕ
settled_line count = codes "settled " ++ decimal count

-- an entry of the journal: its event, and its reply
abbrev pub entry_lines : Entry → List (List ℕ)
entry_lines entry = (codes "> " ++ text_of entry.event) ∷ (codes "< " ++ reply_text entry.reply) ∷ []

abbrev pub journal_lines : List Entry → List (List ℕ)
journal_lines entries = flat_map entry_lines entries

-- the lines of the journal, if it is asked for
abbrev pub asked_lines : Bool → List Entry → List (List ℕ)
asked_lines true entries = journal_lines entries
asked_lines false entries = []

-- how many calls were settled, and the journal if it is asked for
abbrev pub settled_lines : Bool → Settled → List (List ℕ)
settled_lines journal settled = settled_line settled.count ∷ asked_lines journal settled.journal.entries

-- memory ran out before it was known how the calls are settled
abbrev pub unknown_line : List ℕ
unknown_line = codes "unsettled memory"

-- ---- the end of a round

abbrev pub told_lines : Bool → Conclusion → List (List ℕ)
told_lines journal (conclusions.Settles settled) = settled_lines journal settled
told_lines journal conclusions.Unknown = unknown_line ∷ []

abbrev pub told_text : Bool → RoundEnd (Vec ℕ) → List ℕ
told_text journal told = lanes_text 1 (texts_of told.ends.items) ++ unlines (told_lines journal told.conclusion)

-- how many entries a conclusion settles
abbrev pub entries_by : Conclusion → ℕ
entries_by (conclusions.Settles settled) = settled.count
entries_by conclusions.Unknown = 0

-- ---- rounds

-- how many entries the rounds before a round have: 0 if there are no such rounds
abbrev pub count_before : Option ℕ → ℕ
count_before None = 0
count_before (Some count) = count

-- the line of the base that a round begins with, if there are rounds before it
abbrev pub base_text : Option ℕ → List ℕ
base_text None = []
base_text (Some count) = base_line count ++ 10 ∷ []
