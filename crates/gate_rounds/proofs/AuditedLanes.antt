-- What lanes print is that of runs, and the journals in it are legal ones for an audit.
use Rattle.std.proofs.Common.{◌≡◌, ◌≢◌, ℕ, zero, suc, ◌+◌, ◌-◌, ◌<◌, ◌≤◌, ◌==◌, nat_lt, nat_le, Bool, true, false, if◌then◌else◌, filter, List, [], ◌∷◌, ◌++◌, length, take, get_or, map, Option, Some, None, IsOk, Result, Ok, Err, inl, inr, refl, sym, ap, ap₂, subst, ◌∙◌, append_assoc, append-nil, arith}
use Rattle.std.specs.List.{All, cons_option}
use Rattle.std.specs.Global.{Vec}
use Rattle.std.specs.Io.KnownBytes.{Appends}
use Rattle.std.specs.Prelude.{slice_get}
use Rattle.std.proofs.KnownBytes.{Appends-trans}
use Rattle.std.proofs.lemmas.List.Elements.{All-cons, All-head, All-nil, All-tail}
use Rattle.std.proofs.lemmas.Bool.{false≢true, leb-true, true≢false}
use Rattle.std.proofs.lemmas.Option.{none-some, same_Some, slice_get-get_or}
use Rattle.gate_audit.specs.Audits.{IsLegal}
use Rattle.gate_audit.specs.Journals.{AreBounded, AreWithin, Round, Rounds, base_line, count_of, ended_lines, entries_of, entry_lines, event_line, reply_line, round_lines, rounds_lines}
use Rattle.gate_audit.proofs.Journals.{no_rounds}
use Rattle.gate_audit.proofs.Telling.{rounds_have_legal_journals}
use Rattle.gate_core.specs.World.{World}
use Rattle.gate_message.specs.declared.event.Event.{Event}
use Rattle.gate_events.specs.EventLines.{line_event}
use Rattle.gate_events.specs.EventTexts.{text_of}
use Rattle.gate_events.proofs.SpelledTexts.{texts_spell}
use Rattle.gate_journal.specs.Legal.{AreLegalRounds, entry, entry_limit, events_of, joined, replies_of, state_after}
use Rattle.gate_journal.specs.Legal.{IsLegal as IsLegalJournal}
use Rattle.gate_journal.specs.declared.Entry.{Entry}
use Rattle.gate_lanes.specs.Ends.{Left, LaneRan, LanesRan, all_left, lane_over}
use Rattle.gate_lanes.specs.LaneReplies.{RepliesAsTheRun}
use Rattle.gate_split.specs.Parts.{rounds_of}
use Rattle.gate_lanes.specs.Rounds.{Concludes, left_by}
use Rattle.gate_lanes.specs.declared.round.Conclusion.{Conclusion}
use Rattle.gate_lanes.specs.declared.round.Conclusion.TheVariants as conclusions
use Rattle.gate_lanes.specs.declared.round.RoundEnd.{RoundEnd}
use Rattle.gate_lanes.specs.declared.lane.LaneEnd.{LaneEnd}
use Rattle.gate_lane.specs.LaneEvents.{lane_events, with_event}
use Rattle.gate_lanes.specs.LaneCalls.{Answer, HasCalls, calls_made}
use Rattle.gate_lanes.proofs.LaneReplies.{lanes_reply_as_the_run}
use Rattle.gate_lanes.proofs.LedCalls.{lanes_are_calls}
use Rattle.gate_lines.specs.Lines.{EachLacksNewline, LacksNewline, count_limit, is_skipped, line_limit, lines_of, onto_first, unlines}
use Rattle.gate_lines.specs.declared.fault.LaneFault.{LaneFault}
use Rattle.gate_opening.specs.Openings.{opening_part}
use Rattle.gate_opening.specs.Said.{spelled}
use Rattle.gate_opening.specs.declared.OpeningFault.{OpeningFault}
use Rattle.gate_shared.specs.Calls.{PassView}
use Rattle.gate_shared.specs.Settling.{AreTheCalls, owner_at}
use Rattle.gate_shared.specs.declared.receipt.Made.{Made}
use Rattle.gate_shared.specs.declared.settle.Owner.{Owner}
use Rattle.gate_shared.specs.declared.settle.Settled.{Settled}
use Rattle.gate_rounds.specs.LaneJobs.{LanesDone, LanesPrinted}
use Rattle.gate_rounds.proofs.JournalLines.{IsSpelled, Shows, shown, shows_base, shows_both, shows_end, shows_lanes, shows_none}
use Rattle.gate_rounds.specs.LaneJobs.{Answered, RoundsTold, behind_this, round_text}
use Rattle.gate_rounds.specs.LaneLines.{asked_lines, base_text, count_before, journal_lines, lanes_text, settled_line, told_lines}
use Rattle.gate_rounds.specs.PrintedJournals.{PrintedRound, base_lines, behind_round, end_lines, entries_in, is_journal_line, rounds_journal, rounds_text}
use Rattle.gate_rounds.specs.PrintedReplies.{GateLanesAreRuns, ReplyAsRuns}
use Rattle.gate_rounds.specs.Texts.{texts_of}
use Rattle.std.proofs.lemmas.List.{append_cancel_left}

-- ---- the calls of a lane

abbrev AreSpelled : List Event → Type 0
AreSpelled [] = Unit {0}
AreSpelled (event ∷ events) = IsSpelled event × AreSpelled events

abbrev CallsSpelled : List Made → Type 0
CallsSpelled [] = Unit {0}
CallsSpelled (call ∷ calls) = IsSpelled call.event × CallsSpelled calls

abbrev PassSpelled : Option PassView → Type 0
PassSpelled None = Unit {0}
PassSpelled (Some pass) = CallsSpelled pass.calls

event_spelled : (few short skipped : Bool) (rest : List Event) (event : Option Event) (line : List ℕ) → line_event line ≡ event → LacksNewline line → (short ≡ true → length line ≤ line_limit) → AreSpelled rest
    → AreSpelled (if few then if short then if skipped then rest else with_event event rest else [] else [])
event_spelled true true true rest event line is clean within h = h
event_spelled true true false rest None line is clean within h = h
event_spelled true true false rest (Some event) line is clean within h = ((line, is, clean, within refl), h)
event_spelled true false skipped rest event line is clean within h = tt
event_spelled false short skipped rest event line is clean within h = tt

events_spelled : (number : ℕ) (lines : List (List ℕ)) → EachLacksNewline lines → AreSpelled (lane_events number lines)
events_spelled number [] clean = tt
events_spelled number (line ∷ lines) clean = event_spelled (nat_lt number count_limit) (nat_le (length line) line_limit) (is_skipped line)
    (lane_events (number + 1) lines) (line_event line) line refl clean.0 (λ short. leb-true (length line) line_limit short) (events_spelled (number + 1) lines clean.1)

onto_clean : (x : ℕ) (lines : List (List ℕ)) → x ≢ 10 → EachLacksNewline lines → EachLacksNewline (onto_first x lines)
onto_clean x [] other h = ((other, tt), tt)
onto_clean x (line ∷ lines) other h = ((other, h.0), h.1)

-- the lines of a text have no newline
lines_clean : (text : List ℕ) → EachLacksNewline (lines_of text)
lines_clean [] = tt
lines_clean (x ∷ text) = by (x == 10) refl (lines_clean text)
  where
    by : (b : Bool) → (x == 10) ≡ b → EachLacksNewline (lines_of text) → EachLacksNewline (if b then [] ∷ lines_of text else onto_first x (lines_of text))
    by true is rest = (tt, rest)
    by false is rest = onto_clean x (lines_of text) (λ same. let k : (10 == 10) ≡ false = subst (λ (y : ℕ). (y == 10) ≡ false) same is in true≢false k) rest

made_spelled : (events : List Event) (answers : List Answer) → AreSpelled events → CallsSpelled (calls_made events answers)
made_spelled [] answers h = tt
made_spelled (event ∷ events) [] h = tt
made_spelled (event ∷ events) (Ok receipt ∷ answers) h = (h.0, made_spelled events answers h.1)
made_spelled (event ∷ events) (Err fault ∷ answers) h = made_spelled events answers h.1

pass_spelled : (events : List Event) (answers : List Answer) (pass : Option PassView) → AreSpelled events → HasCalls events answers pass → PassSpelled pass
pass_spelled [] answers pass h (none, is) = subst PassSpelled (sym is) tt
pass_spelled (event ∷ events) answers pass h (p, is, caller, calls, answered, rising, full) =
    subst PassSpelled (sym is) (subst CallsSpelled (sym calls) (made_spelled (event ∷ events) answers h))

lane_spelled : (bytes : List ℕ) (before after : Option (List ℕ)) (pass : Option PassView) (result : Result ℕ LaneFault) → IsOk result
    → LaneRan (Some bytes) before after pass result → PassSpelled pass
lane_spelled bytes before after pass (Ok count) ok (replies, wrote, counted, run) =
    let led = lanes_are_calls (lines_of bytes) replies pass run in
    pass_spelled (lane_events 0 (lines_of bytes)) led.0 pass (events_spelled 0 (lines_of bytes) (lines_clean bytes)) led.1
lane_spelled bytes before after pass (Err fault) ok ran = absurd (false≢true ok)

-- ---- the calls of all lanes

abbrev PassesSpelled : List PassView → Type 0
PassesSpelled [] = Unit {0}
PassesSpelled (pass ∷ passes) = CallsSpelled pass.calls × PassesSpelled passes

one_more : (pass : Option PassView) (passes : List PassView) → PassSpelled pass → PassesSpelled passes → PassesSpelled (cons_option pass passes)
one_more None passes h rest = rest
one_more (Some pass) passes h rest = (h, rest)

passes_spelled : (lanes : List (List ℕ)) (ends : List Left) (passes : List PassView) → LanesRan (map lane_over lanes) ends passes
    → All (λ (end : Left). IsOk end.result) ends → PassesSpelled passes
passes_spelled [] [] passes ran ended = subst PassesSpelled (sym ran) tt
passes_spelled [] (end ∷ ends) passes ran ended = absurd ran
passes_spelled (lane ∷ lanes) [] passes ran ended = absurd ran
passes_spelled (lane ∷ lanes) (end ∷ ends) passes (pass, rest, is, one, more) ended =
    let here = lane_spelled lane (Some []) end.after pass end.result (All-head (λ (x : Left). IsOk x.result) end ends ended) one in
    subst PassesSpelled (sym is) (one_more pass rest here (passes_spelled lanes ends rest more (All-tail (λ (x : Left). IsOk x.result) end ends ended)))

-- ---- the entries of a journal that settles with them

call_spelled : (calls : List Made) (i : ℕ) (call : Made) → CallsSpelled calls → slice_get calls i ≡ Some call → IsSpelled call.event
call_spelled [] i call h is = absurd (none-some call is)
call_spelled (first ∷ calls) zero call h is = subst (λ (c : Made). IsSpelled c.event) (same_Some _ _ is) h.0
call_spelled (first ∷ calls) (suc i) call h is = call_spelled calls i call h.1 is

calls_spelled : (passes : List PassView) (i : ℕ) (pass : PassView) → PassesSpelled passes → slice_get passes i ≡ Some pass → CallsSpelled pass.calls
calls_spelled [] i pass h is = absurd (none-some pass is)
calls_spelled (first ∷ passes) zero pass h is = subst (λ (p : PassView). CallsSpelled p.calls) (same_Some _ _ is) h.0
calls_spelled (first ∷ passes) (suc i) pass h is = calls_spelled passes i pass h.1 is

entries_spelled : (journal : List Entry) (passes : List PassView) (owners : List Owner) → AreTheCalls journal passes owners → PassesSpelled passes
    → All (λ (e : Entry). IsSpelled e.event) journal
entries_spelled journal passes owners calls told k d lt =
    let within : k < length owners = omega (arith, calls.size) in
    let o = get_or owners k (owner_at 0 0) in
    let found = calls.entries k o (slice_get-get_or owners k (owner_at 0 0) within) in
    let spelled : IsSpelled found.1.event = call_spelled found.0.calls o.call found.1 (calls_spelled passes o.pass found.0 told found.2.0) found.2.1 in
    let same : entry found.0.number found.1.event found.1.receipt.reply ≡ get_or journal k d = same_Some _ _ (sym found.4 ∙ slice_get-get_or journal k d lt) in
    subst (λ (e : Entry). IsSpelled e.event) same spelled

-- ---- the lines of the journal

texts_spelled : (entries : List Entry) → All (λ (e : Entry). IsSpelled e.event) entries → map line_event (map text_of (events_of entries)) ≡ map Some (events_of entries)
texts_spelled [] h = refl
texts_spelled (e ∷ entries) h =
    let here = All-head (λ (x : Entry). IsSpelled x.event) e entries h in
    ap₂ (λ (x : Option Event) (xs : List (Option Event)). x ∷ xs) (texts_spell here.0 e.event here.1)
    (texts_spelled entries (All-tail (λ (x : Entry). IsSpelled x.event) e entries h))

lines_same : (entries : List Entry) → journal_lines entries ≡ entry_lines (map text_of (events_of entries)) (replies_of entries)
lines_same [] = refl
lines_same (e ∷ entries) = ap (λ (lines : List (List ℕ)). event_line (text_of e.event) ∷ reply_line e.reply ∷ lines) (lines_same entries)

-- ---- the journals of rounds

-- the journal of a round is legal from this state, bounded, and its events are spelled
record IsSound (w : World) (entries : List Entry) : Type 0 where
  legal : IsLegalJournal w entries
  few : length entries ≤ entry_limit
  told : All (λ (e : Entry). IsSpelled e.event) entries

-- each from the state that the one before leads to
abbrev AreSound : World → List PrintedRound → Type 0
AreSound w [] = Unit {0}
AreSound w (round ∷ rounds) = IsSound w round.entries × AreSound (state_after w round.entries) rounds

sound_front : (n : ℕ) (w : World) (rounds : List PrintedRound) → AreSound w rounds → AreSound w (take n rounds)
sound_front zero w rounds h = tt
sound_front (suc n) w [] h = tt
sound_front (suc n) w (round ∷ rounds) (one, more) = (one, sound_front n (state_after w round.entries) rounds more)

-- such a round as an audit has it
abbrev made : (w : World) (round : PrintedRound) → IsSound w round.entries → Round
made w round sound = record { entries = round.entries; texts = map text_of (events_of round.entries); spelled = texts_spelled round.entries sound.told }

abbrev made_all : (w : World) (rounds : List PrintedRound) → AreSound w rounds → List Round
made_all w [] h = []
made_all w (round ∷ rounds) (one, more) = made w round one ∷ made_all (state_after w round.entries) rounds more

abbrev all_but_last : Round → List Round → List Round
all_but_last first [] = []
all_but_last first (next ∷ rounds) = first ∷ all_but_last next rounds

abbrev last_of : Round → List Round → Round
last_of first [] = first
last_of first (next ∷ rounds) = last_of next rounds

abbrev all : Round → List Round → Rounds
all first rounds = record { ended = all_but_last first rounds; last = last_of first rounds }

-- the lines of rounds that stand behind others
abbrev behind_lines : ℕ → List Round → List (List ℕ)
behind_lines count [] = []
behind_lines count (round ∷ rounds) = base_line count ∷ (round_lines round ++ behind_lines (count + length round.entries) rounds)

all_lines : (count : ℕ) (first : Round) (rounds : List Round)
    → ended_lines count (all_but_last first rounds) ++ round_lines (last_of first rounds) ≡ round_lines first ++ behind_lines (count + length first.entries) rounds
all_lines count first [] = sym (append-nil (round_lines first))
all_lines count first (next ∷ rounds) =
    let more = count + length first.entries in
    append_assoc (round_lines first) (base_line more ∷ ended_lines more (all_but_last next rounds)) (round_lines (last_of next rounds))
    ∙ ap (λ (ls : List (List ℕ)). round_lines first ++ (base_line more ∷ ls)) (all_lines more next rounds)

all_entries : (first : Round) (rounds : List Round) → entries_of (all first rounds) ≡ map (λ (round : Round). round.entries) (first ∷ rounds)
all_entries first [] = refl
all_entries first (next ∷ rounds) = ap (λ (es : List (List Entry)). first.entries ∷ es) (all_entries next rounds)

made_entries : (w : World) (rounds : List PrintedRound) (sound : AreSound w rounds)
    → map (λ (round : Round). round.entries) (made_all w rounds sound) ≡ map (λ (round : PrintedRound). round.entries) rounds
made_entries w [] sound = refl
made_entries w (round ∷ rounds) (one, more) = ap (λ (es : List (List Entry)). round.entries ∷ es) (made_entries (state_after w round.entries) rounds more)

made_lines : (count : ℕ) (w : World) (rounds : List PrintedRound) (sound : AreSound w rounds) → rounds_journal (Some count) rounds ≡ behind_lines count (made_all w rounds sound)
made_lines count w [] sound = refl
made_lines count w (round ∷ rounds) (one, more) =
    ap₂ (λ (xs ys : List (List ℕ)). base_line count ∷ (xs ++ ys)) (lines_same round.entries) (made_lines (count + length round.entries) (state_after w round.entries) rounds more)

sound_legal : (w : World) (rounds : List PrintedRound) → AreSound w rounds → AreLegalRounds w (map (λ (round : PrintedRound). round.entries) rounds)
sound_legal w [] sound = tt
sound_legal w (round ∷ rounds) (one, more) = (one.legal, sound_legal (state_after w round.entries) rounds more)

abbrev IsFew : List Entry → Type 0
IsFew entries = length entries ≤ entry_limit

sound_bounded : (w : World) (rounds : List PrintedRound) → AreSound w rounds → All IsFew (map (λ (round : PrintedRound). round.entries) rounds)
sound_bounded w [] sound = All-nil IsFew
sound_bounded w (round ∷ rounds) (one, more) =
    All-cons IsFew round.entries (map (λ (r : PrintedRound). r.entries) rounds) one.few (sound_bounded (state_after w round.entries) rounds more)

journal_legal : (w : World) (rounds : List PrintedRound) → AreSound w rounds → AreWithin (rounds_journal None rounds) → IsLegal w (rounds_journal None rounds) (entries_in rounds)
journal_legal w [] sound within = rounds_have_legal_journals w no_rounds (refl, tt) (All-cons IsFew [] [] (omega arith) (All-nil IsFew)) within
journal_legal w (round ∷ rounds) (one, more) within =
    let first = made w round one in
    let rest = made_all (state_after w round.entries) rounds more in
    let lines : rounds_journal None (round ∷ rounds) ≡ rounds_lines (all first rest) =
    ap₂ (λ (xs ys : List (List ℕ)). xs ++ ys) (lines_same round.entries) (made_lines (0 + length round.entries) (state_after w round.entries) rounds more)
    ∙ sym (all_lines 0 first rest) in
    let entries : map (λ (r : PrintedRound). r.entries) (round ∷ rounds) ≡ entries_of (all first rest) =
    sym (made_entries w (round ∷ rounds) (one, more)) ∙ sym (all_entries first rest) in
    let found = rounds_have_legal_journals w (all first rest)
    (subst (AreLegalRounds w) entries (sound_legal w (round ∷ rounds) (one, more)))
    (subst (All IsFew) entries (sound_bounded w (round ∷ rounds) (one, more)))
    (subst AreWithin lines within) in
    subst (λ (ls : List (List ℕ)). IsLegal w ls (entries_in (round ∷ rounds))) (sym lines)
    (subst (λ (n : ℕ). IsLegal w (rounds_lines (all first rest)) n) (ap (λ (es : List (List Entry)). length (joined es)) (sym entries)) found)

-- ---- what is printed

base_same : (before : Option ℕ) → base_text before ≡ unlines (base_lines before)
base_same None = refl
base_same (Some count) = refl

written : (ends : List (LaneEnd (Vec ℕ))) → map (λ (end : Left). end.after) (all_left (λ (list : Vec ℕ). Some list.items) ends) ≡ map Some (texts_of ends)
written [] = refl
written (end ∷ ends) = ap (λ (rest : List (Option (List ℕ))). Some end.writer.items ∷ rest) (written ends)

-- a round that settled, as it is printed
record Printed (journal : Bool) (w : World) (behind : Option ℕ) (lanes : List (List ℕ)) (end : RoundEnd (Vec ℕ)) (next : World) : Type 0 where
  round : PrintedRound
  is : round_text journal behind end ≡ unlines (base_lines behind) ++ (lanes_text 1 round.texts ++ unlines (end_lines journal round))
  sound : IsSound w round.entries
  replied : RepliesAsTheRun w (events_of round.entries) lanes round.texts
  state : next ≡ state_after w round.entries
  behind_it : behind_this behind end.conclusion ≡ behind_round behind round

printed_one : (journal : Bool) (w : World) (behind : Option ℕ) (lanes : List (List ℕ)) (end : RoundEnd (Vec ℕ)) (next : World) → Answered w lanes end (Some next) → Printed journal w behind lanes end next
printed_one journal w behind lanes end next ran = settled end.conclusion refl concludes
  where
    passes : List PassView
    passes = ran.0

    texts : List (List ℕ)
    texts = texts_of end.ends.items

    concludes : Concludes w passes end.conclusion (Some next)
    concludes = subst (λ (o : Option World). Concludes w passes end.conclusion o) ran.4.1 ran.3

    settled : (conclusion : Conclusion) → end.conclusion ≡ conclusion → Concludes w passes conclusion (Some next) → Printed journal w behind lanes end next
    settled (conclusions.Settles s) same to = record {
      round = record { texts = texts; entries = s.journal.entries };
      is = ap₂ (λ (xs ys : List ℕ). xs ++ ys) (base_same behind)
          (ap (λ (c : Conclusion). lanes_text 1 texts ++ unlines (told_lines journal c)) same
          ∙ ap (λ (n : ℕ). lanes_text 1 texts ++ unlines (settled_line n ∷ asked_lines journal s.journal.entries)) to.settles.1.1);
      sound = record {
        legal = to.settles.0;
        few = to.few;
        told = entries_spelled s.journal.entries passes s.owners to.settles.1.2
            (passes_spelled lanes (all_left (λ (list : Vec ℕ). Some list.items) end.ends.items) passes ran.2 ran.4.0);
      };
      replied = lanes_reply_as_the_run w next lanes texts (left_by (λ (list : Vec ℕ). Some list.items) end) s ran same (written end.ends.items);
      state = to.leads;
      behind_it = ap (λ (c : Conclusion). behind_this behind c) same ∙ ap (λ (n : ℕ). Some (count_before behind + n)) to.settles.1.1;
    }
    settled conclusions.Unknown same to = absurd to

record PrintedAll (journal : Bool) (w : World) (behind : Option ℕ) (rounds : List (List (List ℕ))) (before after : Option (List ℕ)) : Type 0 where
  printed : List PrintedRound
  count : length printed ≡ length rounds
  wrote : Appends before after (rounds_text journal behind printed)
  sound : AreSound w printed
  replied : ReplyAsRuns w rounds printed

printed_all : (journal : Bool) (w : World) (behind : Option ℕ) (rounds : List (List (List ℕ))) (before after : Option (List ℕ)) → RoundsTold journal w behind rounds before after
    → PrintedAll journal w behind rounds before after
printed_all journal w behind [] before after wrote = record { printed = []; count = refl; wrote = wrote; sound = tt; replied = tt }
printed_all journal w behind (lanes ∷ rounds) before after (next, later, middle, here, told) =
    let one = printed_one journal w behind lanes here.0 next here.1 in
    let more = printed_all journal next later rounds middle after told in
    let rest = rounds_text journal (behind_round behind one.round) more.printed in
    let base = unlines (base_lines behind) in
    let texts = lanes_text 1 one.round.texts in
    let ending = unlines (end_lines journal one.round) in
    let wrote_rest : Appends middle after rest = subst (λ (b : Option ℕ). Appends middle after (rounds_text journal b more.printed)) (here.2 ∙ one.behind_it) more.wrote in
    record {
      printed = one.round ∷ more.printed;
      count = ap suc more.count;
      wrote = subst (Appends before after) (append_assoc base (texts ++ ending) rest ∙ ap (λ (l : List ℕ). base ++ l) (append_assoc texts ending rest))
          (Appends-trans before middle after (base ++ (texts ++ ending)) rest (subst (Appends before middle) one.is here.3) wrote_rest);
      sound = (one.sound, subst (λ (v : World). AreSound v more.printed) one.state more.sound);
      replied = (one.replied, subst (λ (v : World). ReplyAsRuns v rounds more.printed) one.state more.replied);
    }

-- the lines of what is printed that are a journal's
shows_rounds : (before : Option ℕ) (w : World) (rounds : List (List (List ℕ))) (printed : List PrintedRound) → AreSound w printed → ReplyAsRuns w rounds printed
    → Shows (rounds_text true before printed) (rounds_journal before printed)
shows_rounds before w [] [] sound runs = shows_none
shows_rounds before w [] (round ∷ more) sound runs = absurd runs
shows_rounds before w (lanes ∷ rounds) [] sound runs = absurd runs
shows_rounds before w (lanes ∷ rounds) (round ∷ more) sound runs =
    let base = base_lines before in
    let journal = journal_lines round.entries in
    let rest = rounds_text true (behind_round before round) more in
    let later = rounds_journal (behind_round before round) more in
    let told : Shows (lanes_text 1 round.texts) [] = subst (λ (ts : List (List ℕ)). Shows (lanes_text 1 ts) []) (sym runs.0.written) (shows_lanes 1 lanes runs.0.answers) in
    shows_both (unlines base) (lanes_text 1 round.texts ++ (unlines (end_lines true round) ++ rest)) base (journal ++ later) (shows_base before)
    (shows_both (lanes_text 1 round.texts) (unlines (end_lines true round) ++ rest) [] (journal ++ later) told
    (shows_both (unlines (end_lines true round)) rest journal later (shows_end (length round.entries) round.entries sound.0.told)
    (shows_rounds (behind_round before round) (state_after w round.entries) rounds more sound.1 runs.1)))

marked_lines : (w : World) (rounds : List (List (List ℕ))) (printed : List PrintedRound) (journal : Bool) → AreSound w printed → ReplyAsRuns w rounds printed → journal ≡ true
    → filter is_journal_line (lines_of (rounds_text journal None printed)) ≡ rounds_journal None printed
marked_lines w rounds printed journal sound runs asked =
    subst (λ (j : Bool). filter is_journal_line (lines_of (rounds_text j None printed)) ≡ rounds_journal None printed) (sym asked)
    (shown (rounds_text true None printed) (rounds_journal None printed) (shows_rounds None w rounds printed sound runs))

-- what `gate lanes` writes of the rounds behind an opening
printed_lanes : (text rest before after : List ℕ) (w : World) (journal : Bool) → spelled text ≡ Ok w → text ≡ opening_part text ++ rest
    → LanesPrinted journal (Some text) (Some before) (Some after) 0 → PrintedAll journal w None (rounds_of rest) (Some before) (Some after)
printed_lanes text rest before after w journal is parted done =
    let d : LanesDone journal text (Ok w) (Some before) (Some after) 0 = subst (λ (r : Result World OpeningFault). LanesDone journal text r (Some before) (Some after) 0) is done in
    let same : d.0 ≡ rest = append_cancel_left (opening_part text) d.0 rest (sym d.1 ∙ parted) in
    printed_all journal w None (rounds_of rest) (Some before) (Some after)
    (subst (λ (t : List ℕ). RoundsTold journal w None (rounds_of t) (Some before) (Some after)) same d.3)

pub gate_lanes_are_runs : GateLanesAreRuns
gate_lanes_are_runs text rest before after w journal is parted done =
    let all = printed_lanes text rest before after w journal is parted done in (
      rounds_text journal None all.printed,
      all.wrote,
      record {
        rounds = all.printed;
        written = refl;
        replies = all.replied;
        legal = sound_legal w all.printed all.sound;
        marked = λ asked. marked_lines w (rounds_of rest) all.printed journal all.sound all.replied asked;
        audited = λ n within. journal_legal w (take n all.printed) (sound_front n w all.printed all.sound) within;
      },
    )
