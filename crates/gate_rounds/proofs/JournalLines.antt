-- The lines of what `gate lanes` prints, and which of them are a journal's.
use Rattle.std.proofs.Common.{◌≡◌, ℕ, ◌+◌, ◌≤◌, nat_lt, nat_le, Bool, true, false, if◌then◌else◌, filter, List, [], ◌∷◌, ◌++◌, length, codes, Option, Some, None, Ok, Err, refl, sym, ap, ap₂, subst, ◌∙◌, append_assoc, append-nil}
use Rattle.std.specs.Fmt.{decimal}
use Rattle.std.specs.List.{All}
use Rattle.std.proofs.lemmas.List.Elements.{All-head, All-tail, filter-append}
use Rattle.gate_audit.specs.Journals.{base_line}
use Rattle.gate_events.specs.EventLines.{line_event}
use Rattle.gate_events.specs.EventTexts.{text_of}
use Rattle.gate_events.proofs.TextLines.{texts_are_lines}
use Rattle.gate_journal.specs.declared.Entry.{Entry}
use Rattle.gate_lane.specs.LaneEvents.{with_answer}
use Rattle.gate_lanes.specs.LaneCalls.{Answer, answer_line, lane_lines}
use Rattle.gate_lanes.specs.LaneReplies.{lane_text, lane_texts}
use Rattle.gate_lines.proofs.LineLists.{lines_of-unlines, unlines-append}
use Rattle.gate_lines.specs.Lines.{EachLacksNewline, LacksNewline, count_limit, is_skipped, line_limit, lines_of, unlines}
use Rattle.gate_lines.specs.Refused.{bad_line, line_too_long, too_many_lines}
use Rattle.gate_message.specs.Texts.{reply_text}
use Rattle.gate_message.specs.declared.event.Event.{Event}
use Rattle.gate_message.specs.declared.reply.Reply.{Reply}
use Rattle.gate_message.specs.declared.reply.Reply.TheVariants as replies
use Rattle.gate_shared.specs.declared.shared.CallFault.TheVariants.{WrongCaller, PassFull, HistoryShort, AuditFull, Memory}
use Rattle.gate_rounds.specs.LaneLines.{entry_lines, journal_lines, lane_line, lanes_text, settled_line}
use Rattle.gate_rounds.specs.PrintedJournals.{base_lines, is_journal_line}
use Rattle.gate_rounds.proofs.ReplyLines.{lacks, number_plain, replies_lack_newlines}

-- ---- texts by their lines

-- the text is lines, and these of them are a journal's
pub record Shows (text : List ℕ) (journal : List (List ℕ)) : Type 0 where
  pub lines : List (List ℕ)
  pub is : text ≡ unlines lines
  pub clean : EachLacksNewline lines
  pub marked : filter is_journal_line lines ≡ journal

clean_both : (xs ys : List (List ℕ)) → EachLacksNewline xs → EachLacksNewline ys → EachLacksNewline (xs ++ ys)
clean_both [] ys h k = k
clean_both (x ∷ xs) ys h k = (h.0, clean_both xs ys h.1 k)

pub shows_none : Shows [] []
shows_none = record { lines = []; is = refl; clean = tt; marked = refl }

pub shows_both : (a b : List ℕ) (j k : List (List ℕ)) → Shows a j → Shows b k → Shows (a ++ b) (j ++ k)
shows_both a b j k first second = record {
  lines = first.lines ++ second.lines;
  is = ap₂ (λ (x y : List ℕ). x ++ y) first.is second.is ∙ sym (unlines-append first.lines second.lines);
  clean = clean_both first.lines second.lines first.clean second.clean;
  marked = filter-append is_journal_line first.lines second.lines ∙ ap₂ (λ (x y : List (List ℕ)). x ++ y) first.marked second.marked;
}

-- one line more in front
shows_line : (line text : List ℕ) (journal now : List (List ℕ)) → LacksNewline line → (if is_journal_line line then line ∷ journal else journal) ≡ now → Shows text journal → Shows (line ++ 10 ∷ text) now
shows_line line text journal now lacking is rest = record {
  lines = line ∷ rest.lines;
  is = ap (λ (t : List ℕ). line ++ 10 ∷ t) rest.is;
  clean = (lacking, rest.clean);
  marked = ap (λ (ls : List (List ℕ)). if is_journal_line line then line ∷ ls else ls) rest.marked ∙ is;
}

pub shown : (text : List ℕ) (journal : List (List ℕ)) → Shows text journal → filter is_journal_line (lines_of text) ≡ journal
shown text journal h =
    ap (λ (t : List ℕ). filter is_journal_line (lines_of t)) (h.is ∙ sym (append-nil (unlines h.lines)))
    ∙ ap (filter is_journal_line) (lines_of-unlines h.lines [] h.clean ∙ append-nil h.lines) ∙ h.marked

-- ---- the lines of a lane

record IsOther (line : List ℕ) : Type 0 where
  lacking : LacksNewline line
  other : is_journal_line line ≡ false

reply_other : (reply : Reply) → is_journal_line (reply_text reply) ≡ false
reply_other (replies.Entered flags) = refl
reply_other replies.Left = refl
reply_other (replies.Admitted txid fee vsize replaced) = refl
reply_other (replies.Listing txids) = refl
reply_other (replies.Block height time) = refl
reply_other (replies.Headers first count) = refl
reply_other (replies.Filter rate) = refl
reply_other (replies.Rpc answer) = refl
reply_other (replies.Denied denial action) = refl
reply_other (replies.Packaged action verdict members) = refl
reply_other (replies.Forgotten blocks coins rows) = refl
reply_other replies.Set = refl
reply_other (replies.Moved moved) = refl
reply_other (replies.Refused denial) = refl

answer_other : (answer : Answer) → IsOther (answer_line answer)
answer_other (Ok receipt) = record { lacking = replies_lack_newlines receipt.reply; other = reply_other receipt.reply }
answer_other (Err WrongCaller) = record { lacking = lacks (codes "fault wrong-caller") refl; other = refl }
answer_other (Err PassFull) = record { lacking = lacks (codes "fault pass-full") refl; other = refl }
answer_other (Err (HistoryShort receipt)) = record { lacking = lacks (codes "fault history-short") refl; other = refl }
answer_other (Err AuditFull) = record { lacking = lacks (codes "fault audit-full") refl; other = refl }
answer_other (Err Memory) = record { lacking = lacks (codes "fault memory") refl; other = refl }

bad_other : IsOther bad_line
bad_other = record { lacking = lacks bad_line refl; other = refl }

long_other : IsOther line_too_long
long_other = record { lacking = lacks line_too_long refl; other = refl }

many_other : IsOther too_many_lines
many_other = record { lacking = lacks too_many_lines refl; other = refl }

-- lines none of which is a journal's
abbrev ShowsNone : List (List ℕ) → Type 0
ShowsNone lines = Shows (unlines lines) []

one_other : (line : List ℕ) (lines : List (List ℕ)) → IsOther line → ShowsNone lines → ShowsNone (line ∷ lines)
one_other line lines other rest = shows_line line (unlines lines) [] [] other.lacking (ap (λ (b : Bool). if b then line ∷ [] else []) other.other) rest

with_other : (event : Option Event) (answers : List Answer) (following : List Answer → List (List ℕ)) → ((later : List Answer) → ShowsNone (following later)) → ShowsNone (with_answer answer_line event answers following)
with_other None answers following rest = one_other bad_line (following answers) bad_other (rest answers)
with_other (Some event) [] following rest = shows_none
with_other (Some event) (answer ∷ answers) following rest = one_other (answer_line answer) (following answers) (answer_other answer) (rest answers)

by_limits : (few short skipped : Bool) (a b c d : List (List ℕ)) → ShowsNone a → ShowsNone b → ShowsNone c → ShowsNone d
    → ShowsNone (if few then if short then if skipped then a else b else c else d)
by_limits true true true a b c d p q r s = p
by_limits true true false a b c d p q r s = q
by_limits true false skipped a b c d p q r s = r
by_limits false short skipped a b c d p q r s = s

lane_other : (number : ℕ) (lines : List (List ℕ)) (answers : List Answer) → ShowsNone (lane_lines number lines answers)
lane_other number [] answers = shows_none
lane_other number (line ∷ lines) answers =
    by_limits (nat_lt number count_limit) (nat_le (length line) line_limit) (is_skipped line) _ _ _ _
    (lane_other (number + 1) lines answers) (with_other (line_event line) answers (lane_lines (number + 1) lines) (lane_other (number + 1) lines))
    (one_other line_too_long [] long_other shows_none) (one_other too_many_lines [] many_other shows_none)

lane_line_other : (number : ℕ) → IsOther (lane_line number)
lane_line_other number = record { lacking = lacks (lane_line number) (number_plain number); other = refl }

pub shows_lanes : (number : ℕ) (lanes : List (List ℕ)) (answers : List (List Answer)) → Shows (lanes_text number (lane_texts lanes answers)) []
shows_lanes number [] answers = shows_none
shows_lanes number (lane ∷ lanes) [] = shows_none
shows_lanes number (lane ∷ lanes) (answers ∷ more) =
    shows_both ((lane_line number ++ 10 ∷ []) ++ lane_text lane answers) (lanes_text (number + 1) (lane_texts lanes more)) [] []
    (shows_both (lane_line number ++ 10 ∷ []) (lane_text lane answers) [] [] (one_other (lane_line number) [] (lane_line_other number) shows_none) (lane_other 0 (lines_of lane) answers))
    (shows_lanes (number + 1) lanes more)

-- ---- the lines behind the lanes

settled_other : (count : ℕ) → IsOther (settled_line count)
settled_other count = record { lacking = lacks (settled_line count) (number_plain count); other = refl }

pub shows_base : (before : Option ℕ) → Shows (unlines (base_lines before)) (base_lines before)
shows_base None = shows_none
shows_base (Some count) = shows_line (base_line count) [] [] (base_line count ∷ []) (lacks (base_line count) (number_plain count)) refl shows_none

-- some line without a newline, within the limit of lines, spells the event
abbrev pub IsSpelled : Event → Type 0
IsSpelled event = (line : List ℕ) × (line_event line ≡ Some event) × LacksNewline line × (length line ≤ line_limit)

shows_journal : (entries : List Entry) → All (λ (e : Entry). IsSpelled e.event) entries → Shows (unlines (journal_lines entries)) (journal_lines entries)
shows_journal [] told = shows_none
shows_journal (e ∷ entries) told =
    let here = All-head (λ (x : Entry). IsSpelled x.event) e entries told in
    let event : LacksNewline (text_of e.event) = (texts_are_lines here.0 e.event here.1 here.2 here.3).0 in
    let rest = shows_journal entries (All-tail (λ (x : Entry). IsSpelled x.event) e entries told) in
    let reply = codes "< " ++ reply_text e.reply in
    shows_line (codes "> " ++ text_of e.event) (reply ++ 10 ∷ unlines (journal_lines entries)) (reply ∷ journal_lines entries) (journal_lines (e ∷ entries))
    (λ same. cc, (λ same. cc, event)) refl
    (shows_line reply (unlines (journal_lines entries)) (journal_lines entries) (reply ∷ journal_lines entries) (λ same. cc, (λ same. cc, replies_lack_newlines e.reply)) refl rest)

pub shows_end : (count : ℕ) (entries : List Entry) → All (λ (e : Entry). IsSpelled e.event) entries → Shows (unlines (settled_line count ∷ journal_lines entries)) (journal_lines entries)
shows_end count entries told =
    shows_line (settled_line count) (unlines (journal_lines entries)) (journal_lines entries) (journal_lines entries) (settled_other count).lacking
    (ap (λ (b : Bool). if b then settled_line count ∷ journal_lines entries else journal_lines entries) (settled_other count).other) (shows_journal entries told)
