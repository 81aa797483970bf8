-- A journal with one more entry, with the base of a new round, and with more lines that ask for nothing.
use Rattle.std.proofs.Common.{◌≡◌, ℕ, ◌+◌, ◌<◌, ◌≤◌, List, [], ◌∷◌, ◌++◌, length, map, Some, refl, sym, ap, subst, ◌∙◌, arith, append_assoc, append-nil, length-append}
use Rattle.std.proofs.lemmas.List.{map-append, length-map}
use Rattle.std.proofs.lemmas.List.Concat.{flat_map-append}
use Rattle.std.proofs.lemmas.List.Elements.{All-cons, All-head, All-nil, All-push, All-tail}
use Rattle.std.specs.List.{All}
use Rattle.gate_message.specs.declared.event.Event.{Event}
use Rattle.gate_message.specs.declared.reply.Reply.{Reply}
use Rattle.gate_core.specs.Steps.{step_of}
use Rattle.gate_core.specs.World.{World}
use Rattle.gate_events.specs.EventLines.{line_event}
use Rattle.gate_journal.specs.Legal.{AreLegalRounds, IsLegal, entry, events_of, joined, replies_of, state_after, entry_limit}
use Rattle.gate_journal.specs.declared.entry.Entry.{Entry}
use Rattle.gate_journal.proofs.Replaying.{legal-push, rounds-join, rounds-part, state_after-joined, state_after-push}
use Rattle.gate_audit.specs.Journals.{AreBounded, IsJournal, Round, Rounds, asking, base_line, count_of, ended_lines, entries_of, entry_lines, event_line, reply_line, round_lines, rounds_lines, state_behind}
use Rattle.gate_audit.proofs.AskingTaken.{asking-append}

-- ---- the lines of entries

pub entry_lines-push : (texts : List (List ℕ)) (replies : List Reply) (text : List ℕ) (reply : Reply) → length texts ≡ length replies
    → entry_lines (texts ++ text ∷ []) (replies ++ reply ∷ []) ≡ entry_lines texts replies ++ event_line text ∷ reply_line reply ∷ []
entry_lines-push [] [] text reply same = refl
entry_lines-push [] (r ∷ rs) text reply same = absurd (omega (arith, same))
entry_lines-push (t ∷ ts) [] text reply same = absurd (omega (arith, same))
entry_lines-push (t ∷ ts) (r ∷ rs) text reply same =
    ap (λ ls. event_line t ∷ reply_line r ∷ ls) (entry_lines-push ts rs text reply (omega (arith, same)))

-- as many texts as replies
pub length-spelled : (texts : List (List ℕ)) (entries : List Entry) → map line_event texts ≡ map Some (events_of entries) → length texts ≡ length (replies_of entries)
length-spelled texts entries spelled =
    sym (length-map texts line_event) ∙ ap length spelled ∙ length-map (events_of entries) Some ∙ length-map entries (λ (e : Entry). e.event)
    ∙ sym (length-map entries (λ (e : Entry). e.reply))

-- ---- rounds

abbrev pub no_entries : Round
no_entries = record { entries = []; texts = []; spelled = refl }

abbrev pub no_rounds : Rounds
no_rounds = record { ended = []; last = no_entries }

-- a round with one entry more
abbrev pub round_with : (round : Round) (text : List ℕ) (e : Entry) → line_event text ≡ Some e.event → Round
round_with round text e spells = record {
  entries = round.entries ++ e ∷ [];
  texts = round.texts ++ text ∷ [];
  spelled = map-append line_event round.texts (text ∷ []) ∙ ap (λ es. es ++ line_event text ∷ []) round.spelled
      ∙ ap (λ x. map Some (events_of round.entries) ++ x ∷ []) spells ∙ sym (map-append Some (events_of round.entries) (e.event ∷ []))
      ∙ ap (λ es. map Some es) (sym (map-append (λ (x : Entry). x.event) round.entries (e ∷ [])));
}

-- the last round has one entry more
abbrev pub with_entry : (rounds : Rounds) (text : List ℕ) (e : Entry) → line_event text ≡ Some e.event → Rounds
with_entry rounds text e spells = record { ended = rounds.ended; last = round_with rounds.last text e spells }

-- a round begins behind the last
abbrev pub with_base : Rounds → Rounds
with_base rounds = record { ended = rounds.ended ++ rounds.last ∷ []; last = no_entries }

-- the entries of the rounds that a base ended
abbrev pub earlier : List Round → List Entry
earlier rounds = joined (map (λ (round : Round). round.entries) rounds)

joined-last : (rounds : List (List Entry)) (last : List Entry) → joined (rounds ++ last ∷ []) ≡ joined rounds ++ last
joined-last rounds last =
    flat_map-append (λ (r : List Entry). r) rounds (last ∷ []) ∙ ap (λ es. joined rounds ++ es) (append-nil last)

pub all-last : (rounds : Rounds) → joined (entries_of rounds) ≡ earlier rounds.ended ++ rounds.last.entries
all-last rounds = joined-last (map (λ (round : Round). round.entries) rounds.ended) rounds.last.entries

pub all-entry : (rounds : Rounds) (text : List ℕ) (e : Entry) (spells : line_event text ≡ Some e.event)
    → joined (entries_of (with_entry rounds text e spells)) ≡ joined (entries_of rounds) ++ e ∷ []
all-entry rounds text e spells =
    all-last (with_entry rounds text e spells) ∙ sym (append_assoc (earlier rounds.ended) rounds.last.entries (e ∷ []))
    ∙ ap (λ es. es ++ e ∷ []) (sym (all-last rounds))

entries-base : (rounds : Rounds) → entries_of (with_base rounds) ≡ entries_of rounds ++ [] ∷ []
entries-base rounds = ap (λ (es : List (List Entry)). es ++ [] ∷ []) (map-append (λ (round : Round). round.entries) rounds.ended (rounds.last ∷ []))

pub all-base : (rounds : Rounds) → joined (entries_of (with_base rounds)) ≡ joined (entries_of rounds)
all-base rounds = ap joined (entries-base rounds) ∙ joined-last (entries_of rounds) [] ∙ append-nil (joined (entries_of rounds))

-- ---- how many they are

pub count-last : (rounds : Rounds) → count_of rounds ≡ length (earlier rounds.ended) + length rounds.last.entries
count-last rounds = ap length (all-last rounds) ∙ length-append (earlier rounds.ended) rounds.last.entries

pub count-entry : (rounds : Rounds) (text : List ℕ) (e : Entry) (spells : line_event text ≡ Some e.event) → count_of (with_entry rounds text e spells) ≡ count_of rounds + 1
count-entry rounds text e spells = omega (arith, ap length (all-entry rounds text e spells), length-append (joined (entries_of rounds)) (e ∷ []))

pub count-base : (rounds : Rounds) → count_of (with_base rounds) ≡ count_of rounds
count-base rounds = ap length (all-base rounds)

-- ---- their bound

all_left : (xs ys : List (List Entry)) → All (λ (es : List Entry). length es ≤ entry_limit) (xs ++ ys) → All (λ (es : List Entry). length es ≤ entry_limit) xs
all_left [] ys h = All-nil (λ (es : List Entry). length es ≤ entry_limit)
all_left (x ∷ xs) ys h =
    All-cons (λ (es : List Entry). length es ≤ entry_limit) x xs (All-head (λ (es : List Entry). length es ≤ entry_limit) x (xs ++ ys) h)
    (all_left xs ys (All-tail (λ (es : List Entry). length es ≤ entry_limit) x (xs ++ ys) h))

all_right : (xs ys : List (List Entry)) → All (λ (es : List Entry). length es ≤ entry_limit) (xs ++ ys) → All (λ (es : List Entry). length es ≤ entry_limit) ys
all_right [] ys h = h
all_right (x ∷ xs) ys h = all_right xs ys (All-tail (λ (es : List Entry). length es ≤ entry_limit) x (xs ++ ys) h)

none_within : (es : List Entry) → es ≡ [] → length es ≤ entry_limit
none_within es is = omega (arith, ap length is)

pub bounded-last : (rounds : Rounds) → AreBounded rounds → length rounds.last.entries ≤ entry_limit
bounded-last rounds h =
    All-head (λ (es : List Entry). length es ≤ entry_limit) rounds.last.entries [] (all_right (map (λ (round : Round). round.entries) rounds.ended) (rounds.last.entries ∷ []) h)

pub bounded-entry : (rounds : Rounds) (text : List ℕ) (e : Entry) (spells : line_event text ≡ Some e.event) → AreBounded rounds → length rounds.last.entries < entry_limit
    → AreBounded (with_entry rounds text e spells)
bounded-entry rounds text e spells h few =
    let front = map (λ (round : Round). round.entries) rounds.ended in
    let most : length (rounds.last.entries ++ e ∷ []) ≤ entry_limit = omega (arith, few, length-append rounds.last.entries (e ∷ [])) in
    All-push (λ (es : List Entry). length es ≤ entry_limit) front (rounds.last.entries ++ e ∷ []) (all_left front (rounds.last.entries ∷ []) h) most

pub bounded-base : (rounds : Rounds) → AreBounded rounds → AreBounded (with_base rounds)
bounded-base rounds h =
    subst (λ (es : List (List Entry)). All (λ (x : List Entry). length x ≤ entry_limit) es) (sym (entries-base rounds))
    (All-push (λ (es : List Entry). length es ≤ entry_limit) (entries_of rounds) [] h (none_within [] refl))

pub bounded-none : AreBounded no_rounds
bounded-none = All-cons (λ (es : List Entry). length es ≤ entry_limit) [] [] (none_within [] refl) (All-nil (λ (es : List Entry). length es ≤ entry_limit))

-- ---- their lines

round_lines-entry : (round : Round) (text : List ℕ) (e : Entry) (spells : line_event text ≡ Some e.event)
    → round_lines (round_with round text e spells) ≡ round_lines round ++ event_line text ∷ reply_line e.reply ∷ []
round_lines-entry round text e spells =
    ap (entry_lines (round.texts ++ text ∷ [])) (map-append (λ (x : Entry). x.reply) round.entries (e ∷ []))
    ∙ entry_lines-push round.texts (replies_of round.entries) text e.reply (length-spelled round.texts round.entries round.spelled)

pub rounds_lines-entry : (rounds : Rounds) (text : List ℕ) (e : Entry) (spells : line_event text ≡ Some e.event)
    → rounds_lines (with_entry rounds text e spells) ≡ rounds_lines rounds ++ event_line text ∷ reply_line e.reply ∷ []
rounds_lines-entry rounds text e spells =
    ap (λ ls. ended_lines 0 rounds.ended ++ ls) (round_lines-entry rounds.last text e spells)
    ∙ sym (append_assoc (ended_lines 0 rounds.ended) (round_lines rounds.last) (event_line text ∷ reply_line e.reply ∷ []))

ended_lines-push : (count : ℕ) (rounds : List Round) (round : Round)
    → ended_lines count (rounds ++ round ∷ []) ≡ ended_lines count rounds ++ (round_lines round ++ base_line (count + length (earlier rounds) + length round.entries) ∷ [])
ended_lines-push count [] round =
    let same : count + length round.entries ≡ count + length (earlier []) + length round.entries = omega arith in
    ap (λ n. round_lines round ++ (base_line n ∷ [])) same
ended_lines-push count (first ∷ rounds) round =
    let behind = count + length first.entries in
    let same : behind + length (earlier rounds) + length round.entries ≡ count + length (earlier (first ∷ rounds)) + length round.entries =
    omega (arith, length-append first.entries (earlier rounds)) in
    ap (λ ls. round_lines first ++ (base_line behind ∷ ls)) (ended_lines-push behind rounds round)
    ∙ sym (append_assoc (round_lines first) (base_line behind ∷ ended_lines behind rounds) (round_lines round ++ base_line (behind + length (earlier rounds) + length round.entries) ∷ []))
    ∙ ap (λ n. ended_lines count (first ∷ rounds) ++ (round_lines round ++ base_line n ∷ [])) same

pub rounds_lines-base : (rounds : Rounds) → rounds_lines (with_base rounds) ≡ rounds_lines rounds ++ base_line (count_of rounds) ∷ []
rounds_lines-base rounds =
    let place : 0 + length (earlier rounds.ended) + length rounds.last.entries ≡ count_of rounds = omega (arith, count-last rounds) in
    append-nil (ended_lines 0 (rounds.ended ++ rounds.last ∷ [])) ∙ ended_lines-push 0 rounds.ended rounds.last
    ∙ sym (append_assoc (ended_lines 0 rounds.ended) (round_lines rounds.last) (base_line (0 + length (earlier rounds.ended) + length rounds.last.entries) ∷ []))
    ∙ ap (λ n. rounds_lines rounds ++ base_line n ∷ []) place

-- ---- the state behind them

behind-all : (w : World) (rounds : Rounds) → state_behind w rounds ≡ state_after w (joined (entries_of rounds))
behind-all w rounds = state_after-joined w (entries_of rounds)

pub behind-entry : (w : World) (rounds : Rounds) (text : List ℕ) (e : Entry) (spells : line_event text ≡ Some e.event)
    → state_behind w (with_entry rounds text e spells) ≡ (step_of (state_behind w rounds) e.event).1
behind-entry w rounds text e spells =
    behind-all w (with_entry rounds text e spells) ∙ ap (state_after w) (all-entry rounds text e spells) ∙ state_after-push w (joined (entries_of rounds)) e
    ∙ ap (λ v. (step_of v e.event).1) (sym (behind-all w rounds))

pub behind-base : (w : World) (rounds : Rounds) → state_behind w (with_base rounds) ≡ state_behind w rounds
behind-base w rounds = behind-all w (with_base rounds) ∙ ap (state_after w) (all-base rounds) ∙ sym (behind-all w rounds)

-- ---- legal rounds

legal-entry : (w : World) (rounds : Rounds) (text : List ℕ) (e : Entry) (spells : line_event text ≡ Some e.event) → AreLegalRounds w (entries_of rounds)
    → e.reply ≡ (step_of (state_behind w rounds) e.event).0 → AreLegalRounds w (entries_of (with_entry rounds text e spells))
legal-entry w rounds text e spells legal same =
    let all = joined (entries_of rounds) in
    rounds-part w (entries_of (with_entry rounds text e spells)) (subst (IsLegal w) (sym (all-entry rounds text e spells))
    (legal-push w all e (rounds-join w (entries_of rounds) legal) (same ∙ ap (λ v. (step_of v e.event).0) (behind-all w rounds))))

legal-base : (w : World) (rounds : Rounds) → AreLegalRounds w (entries_of rounds) → AreLegalRounds w (entries_of (with_base rounds))
legal-base w rounds legal =
    rounds-part w (entries_of (with_base rounds)) (subst (IsLegal w) (sym (all-base rounds)) (rounds-join w (entries_of rounds) legal))

-- ---- journals

pub IsJournal-nil : (w : World) → IsJournal w [] no_rounds
IsJournal-nil w = record { told = refl; legal = (refl, tt) }

-- the entry that an event and the state's reply to it make
abbrev pub made : World → Event → Entry
made w event = entry 0 event (step_of w event).0

pub IsJournal-entry : (w : World) (lines more : List (List ℕ)) (rounds : Rounds) (text : List ℕ) (event : Event) → IsJournal w lines rounds → (spells : line_event text ≡ Some event)
    → asking more ≡ event_line text ∷ reply_line (step_of (state_behind w rounds) event).0 ∷ []
    → IsJournal w (lines ++ more) (with_entry rounds text (made (state_behind w rounds) event) spells)
IsJournal-entry w lines more rounds text event journal spells asks = record {
  told = asking-append lines more ∙ ap (λ ls. ls ++ asking more) journal.told ∙ ap (λ ls. rounds_lines rounds ++ ls) asks
      ∙ sym (rounds_lines-entry rounds text (made (state_behind w rounds) event) spells);
  legal = legal-entry w rounds text (made (state_behind w rounds) event) spells journal.legal refl;
}

pub IsJournal-base : (w : World) (lines more : List (List ℕ)) (rounds : Rounds) → IsJournal w lines rounds → asking more ≡ base_line (count_of rounds) ∷ []
    → IsJournal w (lines ++ more) (with_base rounds)
IsJournal-base w lines more rounds journal asks = record {
  told = asking-append lines more ∙ ap (λ ls. ls ++ asking more) journal.told ∙ ap (λ ls. rounds_lines rounds ++ ls) asks ∙ sym (rounds_lines-base rounds);
  legal = legal-base w rounds journal.legal;
}

-- lines that ask for nothing
pub IsJournal-quiet : (w : World) (lines more : List (List ℕ)) (rounds : Rounds) → IsJournal w lines rounds → asking more ≡ [] → IsJournal w (lines ++ more) rounds
IsJournal-quiet w lines more rounds journal quiet = record {
  told = asking-append lines more ∙ ap (λ ls. asking lines ++ ls) quiet ∙ append-nil (asking lines) ∙ journal.told;
  legal = journal.legal;
}
