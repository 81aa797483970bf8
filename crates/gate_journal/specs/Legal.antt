-- Journals, and which of them are those of a run; rounds, each of which goes on from the state that the round before it leaves.
use Rattle.std.specs.Prelude.{◌≡◌, ℕ, List, [], ◌∷◌, flat_map, map}
use Rattle.gate_message.specs.declared.event.Event.{Event}
use Rattle.gate_message.specs.declared.reply.Reply.{Reply}
use Rattle.gate_core.specs.World.{World}
use Rattle.gate_core.specs.Runs.{run_of}
use Rattle.gate_journal.specs.declared.entry.Entry.{Entry}

-- an event under the pass of this number, and its reply
abbrev pub entry : ℕ → Event → Reply → Entry
entry pass event reply = record { pass = pass; event = event; reply = reply }

-- the most entries of a journal, and so of a round
abbrev pub entry_limit : ℕ
entry_limit = 100000

-- the entries, oldest first, and how many more there can be without memory
pub record Recorded : Type 0 where
  pub entries : List Entry
  pub room : ℕ

abbrev pub events_of : List Entry → List Event
events_of entries = map (λ (e : Entry). e.event) entries

abbrev pub replies_of : List Entry → List Reply
replies_of entries = map (λ (e : Entry). e.reply) entries

-- a journal is legal from a state if its replies are those of the run over its events
abbrev pub IsLegal : World → List Entry → Type 0
IsLegal w entries = replies_of entries ≡ (run_of w (events_of entries)).0

-- the state that a journal leads to
abbrev pub state_after : World → List Entry → World
state_after w entries = (run_of w (events_of entries)).1

-- ---- rounds

-- a list of rounds is legal from a state if the first is legal from it, and each next from the state that the round before it
-- leaves
abbrev pub AreLegalRounds : World → List (List Entry) → Type 0
AreLegalRounds w [] = Unit {0}
AreLegalRounds w (round ∷ rounds) = IsLegal w round × AreLegalRounds (state_after w round) rounds

-- the state that the last of the rounds leaves
abbrev pub state_after_rounds : World → List (List Entry) → World
state_after_rounds w [] = w
state_after_rounds w (round ∷ rounds) = state_after_rounds (state_after w round) rounds

-- the entries of rounds, joined to one list
abbrev pub joined : List (List Entry) → List Entry
joined rounds = flat_map (λ (round : List Entry). round) rounds
