-- Laws of legal journals.
use Rattle.std.specs.Prelude.{◌≡◌, ℕ, List, ◌++◌, ◌↔◌, take}
use Rattle.gate_core.specs.World.{World}
use Rattle.gate_journal.specs.declared.entry.Entry.{Entry}
use Rattle.gate_journal.specs.Legal.{AreLegalRounds, IsLegal, joined, state_after, state_after_rounds}

abbrev pub LegalJournalsBeginLegal : Type 0
LegalJournalsBeginLegal = (w : World) (entries : List Entry) (n : ℕ) → IsLegal w entries → IsLegal w (take n entries)

abbrev pub LegalJournalsGoOn : Type 0
LegalJournalsGoOn =
    (w : World) (entries more : List Entry)
    → (IsLegal w (entries ++ more) ↔ (IsLegal w entries × IsLegal (state_after w entries) more))
    × (state_after w (entries ++ more) ≡ state_after (state_after w entries) more)

abbrev pub RoundsAreOneJournal : Type 0
RoundsAreOneJournal =
    (w : World) (rounds : List (List Entry))
    → (AreLegalRounds w rounds ↔ IsLegal w (joined rounds)) × (state_after_rounds w rounds ≡ state_after w (joined rounds))
