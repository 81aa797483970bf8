-- What a legal journal tells, and what legal rounds come to.
use Rattle.std.proofs.Common.{◌≡◌, ℕ, ◌+◌, ◌≤◌, List, [], ◌∷◌, ◌++◌, length, map, Some, refl, sym, ap, ap₂, subst, ◌∙◌, append-nil}
use Rattle.std.proofs.lemmas.List.{map-append, length-map}
use Rattle.std.proofs.lemmas.List.Elements.{All-cons, All-nil}
use Rattle.gate_message.specs.declared.event.Event.{Event}
use Rattle.gate_message.specs.Texts.{reply_text}
use Rattle.gate_core.specs.Runs.{run_of}
use Rattle.gate_core.specs.Steps.{step_of}
use Rattle.gate_core.specs.World.{World}
use Rattle.gate_journal.specs.Legal.{IsLegal as IsLegalJournal, events_of, joined, replies_of, entry_limit}
use Rattle.gate_journal.specs.declared.entry.Entry.{Entry}
use Rattle.gate_journal.proofs.Replaying.{rounds-join}
use Rattle.gate_audit.specs.Audits.{IsLegal}
use Rattle.gate_audit.specs.Journals.{AreWithin, IsJournal, Round, Rounds, asking, base_line, ended_lines, entries_of, entry_lines, round_lines, rounds_lines}
use Rattle.gate_audit.specs.Laws.{LegalJournalsAreRuns, RoundsHaveLegalJournals, RunsHaveLegalJournals, events_among, replies_among}
use Rattle.gate_audit.proofs.AskingTaken.{asking-append}
use Rattle.gate_audit.proofs.Journals.{all-last, earlier, length-spelled, made}
use Rattle.gate_audit.proofs.Marks.{asking-entry_lines, events-append, events-asking, events-entry_lines, replies-append, replies-asking, replies-entry_lines}

-- ---- what the lines of rounds tell

events-more : (xs ys : List Entry) → events_of (xs ++ ys) ≡ events_of xs ++ events_of ys
events-more xs ys = map-append (λ (e : Entry). e.event) xs ys

replies-more : (xs ys : List Entry) → map reply_text (replies_of (xs ++ ys)) ≡ map reply_text (replies_of xs) ++ map reply_text (replies_of ys)
replies-more xs ys = ap (map reply_text) (map-append (λ (e : Entry). e.reply) xs ys) ∙ map-append reply_text (replies_of xs) (replies_of ys)

events-round : (round : Round) → events_among (round_lines round) ≡ events_of round.entries
events-round round =
    events-entry_lines round.texts (events_of round.entries) (replies_of round.entries) round.spelled (length-spelled round.texts round.entries round.spelled)

replies-round : (round : Round) → replies_among (round_lines round) ≡ map reply_text (replies_of round.entries)
replies-round round = replies-entry_lines round.texts (replies_of round.entries) (length-spelled round.texts round.entries round.spelled)

events-ended : (count : ℕ) (rounds : List Round) → events_among (ended_lines count rounds) ≡ events_of (earlier rounds)
events-ended count [] = refl
events-ended count (round ∷ rounds) =
    let behind = count + length round.entries in
    events-append (round_lines round) (base_line behind ∷ ended_lines behind rounds)
    ∙ ap₂ (λ (xs ys : List Event). xs ++ ys) (events-round round) (events-ended behind rounds) ∙ sym (events-more round.entries (earlier rounds))

replies-ended : (count : ℕ) (rounds : List Round) → replies_among (ended_lines count rounds) ≡ map reply_text (replies_of (earlier rounds))
replies-ended count [] = refl
replies-ended count (round ∷ rounds) =
    let behind = count + length round.entries in
    replies-append (round_lines round) (base_line behind ∷ ended_lines behind rounds)
    ∙ ap₂ (λ (xs ys : List (List ℕ)). xs ++ ys) (replies-round round) (replies-ended behind rounds) ∙ sym (replies-more round.entries (earlier rounds))

told_events : (w : World) (lines : List (List ℕ)) (rounds : Rounds) → IsJournal w lines rounds → events_among lines ≡ events_of (joined (entries_of rounds))
told_events w lines rounds journal =
    events-asking lines ∙ ap events_among journal.told ∙ events-append (ended_lines 0 rounds.ended) (round_lines rounds.last)
    ∙ ap₂ (λ (xs ys : List Event). xs ++ ys) (events-ended 0 rounds.ended) (events-round rounds.last) ∙ sym (events-more (earlier rounds.ended) rounds.last.entries)
    ∙ ap events_of (sym (all-last rounds))

told_replies : (w : World) (lines : List (List ℕ)) (rounds : Rounds) → IsJournal w lines rounds → replies_among lines ≡ map reply_text (replies_of (joined (entries_of rounds)))
told_replies w lines rounds journal =
    replies-asking lines ∙ ap replies_among journal.told ∙ replies-append (ended_lines 0 rounds.ended) (round_lines rounds.last)
    ∙ ap₂ (λ (xs ys : List (List ℕ)). xs ++ ys) (replies-ended 0 rounds.ended) (replies-round rounds.last) ∙ sym (replies-more (earlier rounds.ended) rounds.last.entries)
    ∙ ap (λ es. map reply_text (replies_of es)) (sym (all-last rounds))

pub legal_journals_are_runs : LegalJournalsAreRuns
legal_journals_are_runs w lines count legal =
    let all = joined (entries_of legal.rounds) in
    let same = told_events w lines legal.rounds legal.journal in
    let flat : IsLegalJournal w all = rounds-join w (entries_of legal.rounds) legal.journal.legal in (
      legal.number ∙ sym (length-map all (λ (e : Entry). e.event)) ∙ ap length (sym same),
      told_replies w lines legal.rounds legal.journal ∙ ap (map reply_text) flat ∙ ap (λ es. map reply_text (run_of w es).0) (sym same),
    )

-- ---- legal rounds

asking-ended : (count : ℕ) (rounds : List Round) → asking (ended_lines count rounds) ≡ ended_lines count rounds
asking-ended count [] = refl
asking-ended count (round ∷ rounds) =
    let behind = count + length round.entries in
    asking-append (round_lines round) (base_line behind ∷ ended_lines behind rounds)
    ∙ ap₂ (λ (xs ys : List (List ℕ)). xs ++ ys) (asking-entry_lines round.texts (replies_of round.entries)) (ap (λ ls. base_line behind ∷ ls) (asking-ended behind rounds))

asking-rounds : (rounds : Rounds) → asking (rounds_lines rounds) ≡ rounds_lines rounds
asking-rounds rounds =
    asking-append (ended_lines 0 rounds.ended) (round_lines rounds.last)
    ∙ ap₂ (λ (xs ys : List (List ℕ)). xs ++ ys) (asking-ended 0 rounds.ended) (asking-entry_lines rounds.last.texts (replies_of rounds.last.entries))

pub rounds_have_legal_journals : RoundsHaveLegalJournals
rounds_have_legal_journals w rounds legal bounded within = record {
  rounds = rounds;
  journal = record { told = asking-rounds rounds; legal = legal };
  number = refl;
  bounded = bounded;
  within = within;
}

-- ---- one round

abbrev run_entries : World → List Event → List Entry
run_entries w [] = []
run_entries w (event ∷ events) = made w event ∷ run_entries (step_of w event).1 events

run_entries-events : (w : World) (events : List Event) → events_of (run_entries w events) ≡ events
run_entries-events w [] = refl
run_entries-events w (event ∷ events) = ap (λ es. event ∷ es) (run_entries-events (step_of w event).1 events)

run_entries-replies : (w : World) (events : List Event) → replies_of (run_entries w events) ≡ (run_of w events).0
run_entries-replies w [] = refl
run_entries-replies w (event ∷ events) = ap (λ rs. (step_of w event).0 ∷ rs) (run_entries-replies (step_of w event).1 events)

pub runs_have_legal_journals : RunsHaveLegalJournals
runs_have_legal_journals w events texts spelled few within =
    let entries = run_entries w events in
    let told : Round = record { entries = entries; texts = texts; spelled = spelled ∙ ap (map Some) (sym (run_entries-events w events)) } in
    let rounds : Rounds = record { ended = []; last = told } in
    let lines : entry_lines texts (run_of w events).0 ≡ rounds_lines rounds = ap (entry_lines texts) (sym (run_entries-replies w events)) in
    let count : length events ≡ length entries = ap length (sym (run_entries-events w events)) ∙ length-map entries (λ (e : Entry). e.event) in
    let legal : IsLegalJournal w entries = run_entries-replies w events ∙ ap (λ es. (run_of w es).0) (sym (run_entries-events w events)) in
    let bounded : length entries ≤ entry_limit = subst (λ (n : ℕ). n ≤ entry_limit) count few in
    let found = rounds_have_legal_journals w rounds (legal, tt) (All-cons (λ (es : List Entry). length es ≤ entry_limit) entries [] bounded (All-nil (λ (es : List Entry). length es ≤ entry_limit)))
    (subst (λ (ls : List (List ℕ)). AreWithin ls) lines within) in
    subst (λ (ls : List (List ℕ)). IsLegal w ls (length events)) (sym lines)
    (subst (λ (n : ℕ). IsLegal w (rounds_lines rounds) n) (ap length (append-nil entries) ∙ sym count) found)
