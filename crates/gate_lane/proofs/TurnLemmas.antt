-- One turn of a lane, from what was read and what was answered.
use Rattle.std.proofs.Common.{◌≡◌, ◌≢◌, ℕ, ◌<◌, ◌≤◌, List, [], ◌∷◌, ◌++◌, length, true, false, ◌+◌, OnSome, Some, None, Ok, Err, refl, ap, subst, ◌∙◌, arith, inl, inr, take, length-take-le}
use Rattle.std.specs.Io.KnownBytes.{Appends, Consumes, IsAtEnd}
use Rattle.std.proofs.KnownBytes.{Appends-nil, Appends-trans}
use Rattle.gate_lines.specs.declared.fault.LaneFault.{LaneFault}
use Rattle.gate_lines.specs.declared.fault.LaneFault.TheVariants as faults
use Rattle.gate_lines.specs.Lines.{LacksNewline, FirstLines, line_limit, lines_of, unlines, count_limit}
use Rattle.gate_lines.specs.Counting.{LastLine, NextAsked}
use Rattle.gate_lines.specs.Reading.{EndTold}
use Rattle.gate_lines.specs.Writing.{TextWritten}
use Rattle.gate_lines.specs.Refused.{line_too_long, too_many_lines}
use Rattle.gate_lane.specs.Lanes.{Answering, Known, LineAnswered, Run, SentOf, StoppedBy}
use Rattle.gate_lane.specs.Turns.{AllLines, AnswerMade, AnswerLost, LineTaken, Responded, Unresponded, TurnTaken}
use Rattle.gate_lane.specs.declared.lane.Turn.TheVariants.{Went, Ended}
use Rattle.gate_lines.proofs.LineLists.{lines_of-some}
use Rattle.gate_lines.proofs.FirstLines.{FirstLines-none, LongLine}
use Rattle.gate_lane.proofs.Runs.{Run-one, Run-long, Run-full}

-- ---- what stopped

-- what a text left in the writer where it was not written
pub text_stopped : (fault : LaneFault) (w w' : Known) (reply : List ℕ) → TextWritten w w' (unlines (reply ∷ [])) (Err fault)
    → (part : List ℕ) × Appends w w' part × SentOf fault (reply ∷ []) part
text_stopped faults.Read w w' reply h = absurd h
text_stopped faults.Write w w' reply (n, short, wrote) =
    (take n (unlines (reply ∷ [])), wrote, ap (λ k. take k (unlines (reply ∷ []))) (length-take-le n (unlines (reply ∷ [])) (omega arith)))
text_stopped faults.Memory w w' reply h = ([], h, refl)

nothing_sent : (fault : LaneFault) → fault ≢ faults.Read → SentOf fault [] []
nothing_sent faults.Read other = absurd (other refl)
nothing_sent faults.Write other = refl
nothing_sent faults.Memory other = refl

pub stopped_at_once : {V : Type 0} (A : Answering V) (fault : LaneFault) (number : ℕ) (r w w' : Known) (s s' : V) → fault ≢ faults.Read → Appends w w' [] → s' ≡ s → StoppedBy A fault number r w w' s s'
stopped_at_once A fault number r w w' s s' other kept same =
    ([], [], [], FirstLines-none r, (refl, same), kept, ([], [], [], refl, omega arith, refl, nothing_sent fault other))

-- the one line of a turn was answered, and its reply line not all sent
pub stopped_in_line : {V : Type 0} (A : Answering V) (fault : LaneFault) (number : ℕ) (r w w' : Known) (s s' : V) (line reply part : List ℕ)
    → FirstLines r (line ∷ []) → Run A number s (line ∷ []) (reply ∷ []) s' → Appends w w' part → SentOf fault (reply ∷ []) part
    → StoppedBy A fault number r w w' s s'
stopped_in_line A fault number r w w' s s' line reply part first goes sent starts =
    (line ∷ [], reply ∷ [], part, first, goes, sent, ([], reply ∷ [], part, refl, omega arith, refl, starts))

stopped_unresponded : {V : Type 0} (A : Answering V) (fault : LaneFault) (number : ℕ) (r w w' : Known) (s s' : V) (line : List ℕ) → fault ≢ faults.Read
    → FirstLines r (line ∷ []) → length line ≤ line_limit → number < count_limit → Unresponded A fault w w' s line s' → StoppedBy A fault number r w w' s s'
stopped_unresponded A fault number r w w' s s' line other first short few (inl h) = stopped_at_once A fault number r w w' s s' other h.0 h.1
stopped_unresponded A fault number r w w' s s' line other first short few (inr h) =
    stopped_in_line A fault number r w w' s s' line h.0 h.1 first (Run-one A number s s' line (h.0 ∷ []) few short h.2) h.3 h.4

-- ---- what answering a line ensures

pub line_lost : {V : Type 0} (A : Answering V) (fault : LaneFault) (w : Known) (s s' : V) (line : List ℕ) → fault ≡ faults.Memory → AnswerLost A s line s' → LineTaken A w w s line s' (Err fault)
line_lost A faults.Read w s s' line is lost = cc
line_lost A faults.Write w s s' line is lost = cc
line_lost A faults.Memory w s s' line is (inl same) = inl (Appends-nil w, same)
line_lost A faults.Memory w s s' line is (inr (reply, answered)) = inr (reply, [], answered, Appends-nil w, refl)

unresponded : {V : Type 0} (A : Answering V) (fault : LaneFault) (w w' : Known) (s s' : V) (line reply : List ℕ) → LineAnswered A s line (reply ∷ []) s'
    → TextWritten w w' (unlines (reply ∷ [])) (Err fault) → Unresponded A fault w w' s line s'
unresponded A fault w w' s s' line reply answered h =
    let part = text_stopped fault w w' reply h in
    inr (reply, part.0, answered, part.1, part.2)

pub line_unwritten : {V : Type 0} (A : Answering V) (fault : LaneFault) (w w' : Known) (s s' : V) (line text : List ℕ) → AnswerMade A s line true text s'
    → TextWritten w w' text (Err fault) → LineTaken A w w' s line s' (Err fault)
line_unwritten A faults.Read w w' s s' line text made h = absurd h
line_unwritten A faults.Write w w' s s' line text (reply, is, answered) h =
    unresponded A faults.Write w w' s s' line reply answered (subst (λ (t : List ℕ). TextWritten w w' t (Err faults.Write)) is h)
line_unwritten A faults.Memory w w' s s' line text (reply, is, answered) h =
    unresponded A faults.Memory w w' s s' line reply answered (subst (λ (t : List ℕ). TextWritten w w' t (Err faults.Memory)) is h)

pub line_written : {V : Type 0} (A : Answering V) (w w' : Known) (s s' : V) (line text : List ℕ) → AnswerMade A s line true text s'
    → Appends w w' text → LineTaken A w w' s line s' (Ok 1)
line_written A w w' s s' line text (reply, is, answered) h = (reply ∷ [], answered, subst (Appends w w') is h, refl)

-- ---- what a turn ensures

pub unread_turn : {V : Type 0} (A : Answering V) (fault : LaneFault) (r r' w w' : Known) (old now : LastLine) (s : V) → Appends w w' []
    → NextAsked r r' old now (Err fault) → TurnTaken A old.count now.count r r' w w' s s (Err fault)
unread_turn A faults.Read r r' w w' old now s kept h = (h, kept, refl)
unread_turn A faults.Write r r' w w' old now s kept h = stopped_at_once A faults.Write old.count r w w' s s (λ e. cc) kept refl
unread_turn A faults.Memory r r' w w' old now s kept h = stopped_at_once A faults.Memory old.count r w w' s s (λ e. cc) kept refl

sent_stop : {V : Type 0} (A : Answering V) (fault : LaneFault) (number : ℕ) (r w w' w'' : Known) (s s' : V) → Appends w w' []
    → StoppedBy A fault number r w' w'' s s' → StoppedBy A fault number r w w'' s s'
sent_stop A fault number r w w' w'' s s' kept (lines, replies, sent, first, goes, wrote, all) =
    (lines, replies, sent, first, goes, Appends-trans w w' w'' [] sent kept wrote, all)

-- ---- a turn in which what was written before was sent on

pub went_sent : {V : Type 0} (A : Answering V) (n n' : ℕ) (r r' w w' w'' : Known) (s s' : V) (count : ℕ) → Appends w w' []
    → TurnTaken A n n' r r' w' w'' s s' (Ok (Went count)) → TurnTaken A n n' r r' w w'' s s' (Ok (Went count))
went_sent A n n' r r' w w' w'' s s' count kept (line, replies, few, next, read, clean, short, answered, wrote, counts, one) =
    (line, replies, few, next, read, clean, short, answered, Appends-trans w w' w'' [] (unlines replies) kept wrote, counts, one)

pub ended_sent : {V : Type 0} (A : Answering V) (n n' : ℕ) (r r' w w' w'' : Known) (s s' : V) (count : ℕ) → Appends w w' []
    → TurnTaken A n n' r r' w' w'' s s' (Ok (Ended count)) → TurnTaken A n n' r r' w w'' s s' (Ok (Ended count))
ended_sent A n n' r r' w w' w'' s s' count kept (lines, replies, all, goes, wrote, counts, one) =
    (lines, replies, all, goes, Appends-trans w w' w'' [] (unlines replies) kept wrote, counts, one)

pub fault_sent : {V : Type 0} (A : Answering V) (fault : LaneFault) (n n' : ℕ) (r r' w w' w'' : Known) (s s' : V) → Appends w w' []
    → TurnTaken A n n' r r' w' w'' s s' (Err fault) → TurnTaken A n n' r r' w w'' s s' (Err fault)
fault_sent A faults.Read n n' r r' w w' w'' s s' kept (piece, wrote, same) = (piece, Appends-trans w w' w'' [] [] kept wrote, same)
fault_sent A faults.Write n n' r r' w w' w'' s s' kept h = sent_stop A faults.Write n r w w' w'' s s' kept h
fault_sent A faults.Memory n n' r r' w w' w'' s s' kept h = sent_stop A faults.Memory n r w w' w'' s s' kept h

-- ---- a turn that was stopped

turn_stopped : {V : Type 0} (A : Answering V) (fault : LaneFault) (n n' : ℕ) (r r' w w' : Known) (s s' : V) (line : List ℕ) → n < count_limit
    → FirstLines r (line ∷ []) → length line ≤ line_limit → LineTaken A w w' s line s' (Err fault) → TurnTaken A n n' r r' w w' s s' (Err fault)
turn_stopped A faults.Read n n' r r' w w' s s' line few first short h = absurd h
turn_stopped A faults.Write n n' r r' w w' s s' line few first short h = stopped_unresponded A faults.Write n r w w' s s' line (λ e. cc) first short few h
turn_stopped A faults.Memory n n' r r' w w' s s' line few first short h = stopped_unresponded A faults.Memory n r w w' s s' line (λ e. cc) first short few h

pub stopped_turn : {V : Type 0} (A : Answering V) (fault : LaneFault) (n n' : ℕ) (r r' w w' : Known) (s s' : V) (line lent : List ℕ) → n < count_limit
    → FirstLines r (line ∷ []) → length line ≤ line_limit → lent ≡ line → LineTaken A w w' s lent s' (Err fault)
    → TurnTaken A n n' r r' w w' s s' (Err fault)
stopped_turn A fault n n' r r' w w' s s' line lent few first short same h =
    turn_stopped A fault n n' r r' w w' s s' line few first short (subst (λ (l : List ℕ). LineTaken A w w' s l s' (Err fault)) same h)

pub one_reply : {V : Type 0} (A : Answering V) (s : V) (line : List ℕ) (replies : List (List ℕ)) (s' : V)
    → LineAnswered A s line replies s' → length replies ≤ 1
one_reply A s line [] s' h = omega arith
one_reply A s line (x ∷ []) s' h = omega arith
one_reply A s line (x ∷ y ∷ ys) s' h = absurd h

pub went_turn : {V : Type 0} (A : Answering V) (n n' : ℕ) (r r' w w' : Known) (s s' : V) (line : List ℕ) (count : ℕ) → n < count_limit → n' ≡ n + 1
    → Consumes r r' (line ++ 10 ∷ []) → LacksNewline line → length line ≤ line_limit → Responded A w w' s line s' count
    → TurnTaken A n n' r r' w w' s s' (Ok (Went count))
went_turn A n n' r r' w w' s s' line count few next read clean short h =
    (line, h.0, few, next, read, clean, short, h.1, h.2, h.3, omega (arith, h.3, one_reply A s line h.0 s' h.1))

pub last_turn : {V : Type 0} (A : Answering V) (n n' : ℕ) (r r' w w' : Known) (s s' : V) (line : List ℕ) (count : ℕ) → n < count_limit
    → AllLines r (line ∷ []) → length line ≤ line_limit → Responded A w w' s line s' count
    → TurnTaken A n n' r r' w w' s s' (Ok (Ended count))
last_turn A n n' r r' w w' s s' line count few only short h = (
  line ∷ [],
  h.0,
  only,
  Run-one A n s s' line h.0 few short h.1,
  h.2,
  h.3,
  omega (arith, h.3, one_reply A s line h.0 s' h.1),
)

pub no_lines : (r r' : Known) → Consumes r r' [] → OnSome r (IsAtEnd r') → AllLines r []
no_lines None r' read end = tt
no_lines (Some xs) None read end = absurd read
no_lines (Some xs) (Some ys) read end = ap lines_of (read ∙ end)

pub end_turn : {V : Type 0} (A : Answering V) (n n' : ℕ) (r r' w : Known) (s : V) → Consumes r r' [] → OnSome r (IsAtEnd r')
    → TurnTaken A n n' r r' w w s s (Ok (Ended 0))
end_turn A n n' r r' w s read end = ([], [], no_lines r r' read end, (refl, refl), Appends-nil w, refl, omega arith)

-- ---- a turn past a limit

-- the first line is past a limit: it is refused, whatever follows it
record IsRefused {V : Type 0} (A : Answering V) (n : ℕ) (s : V) (r : Known) (reply : List ℕ) : Type 0 where
  line : List ℕ
  first : FirstLines r (line ∷ [])
  goes : (more : List (List ℕ)) → Run A n s (line ∷ more) (reply ∷ []) s

-- all lines where the first of them are these
all_from_first : (r : Known) (lines : List (List ℕ)) → FirstLines r lines → (more : List (List ℕ)) × AllLines r (lines ++ more)
all_from_first None lines first = ([], tt)
all_from_first (Some xs) lines (more, is) = (more, is)

refused_turn : {V : Type 0} (A : Answering V) (n n' : ℕ) (r r' w w' : Known) (s : V) (reply : List ℕ) → IsRefused A n s r reply
    → Appends w w' (unlines (reply ∷ [])) → TurnTaken A n n' r r' w w' s s (Ok (Ended 1))
refused_turn A n n' r r' w w' s reply is sent =
    let all = all_from_first r (is.line ∷ []) is.first in
    (is.line ∷ all.0, reply ∷ [], all.1, is.goes all.0, sent, refl, omega arith)

refused_stop : {V : Type 0} (A : Answering V) (fault : LaneFault) (n : ℕ) (r w w' : Known) (s : V) (reply : List ℕ) → IsRefused A n s r reply
    → TextWritten w w' (unlines (reply ∷ [])) (Err fault) → StoppedBy A fault n r w w' s s
refused_stop A fault n r w w' s reply is h =
    let part = text_stopped fault w w' reply h in
    stopped_in_line A fault n r w w' s s is.line reply part.0 is.first (is.goes []) part.1 part.2

refused_stopped : {V : Type 0} (A : Answering V) (fault : LaneFault) (n n' : ℕ) (r r' w w' : Known) (s : V) (reply : List ℕ) → IsRefused A n s r reply
    → TextWritten w w' (unlines (reply ∷ [])) (Err fault) → TurnTaken A n n' r r' w w' s s (Err fault)
refused_stopped A faults.Read n n' r r' w w' s reply is h = absurd h
refused_stopped A faults.Write n n' r r' w w' s reply is h = refused_stop A faults.Write n r w w' s reply is h
refused_stopped A faults.Memory n n' r r' w w' s reply is h = refused_stop A faults.Memory n r w w' s reply is h

long_refused : {V : Type 0} (A : Answering V) (n : ℕ) (s : V) (r : Known) → n < count_limit → LongLine r → IsRefused A n s r line_too_long
long_refused A n s r few l = record { line = l.line; first = l.first; goes = λ more. Run-long A n s l.line more few l.long }

pub long_turn : {V : Type 0} (A : Answering V) (n n' : ℕ) (r r' w w' : Known) (s : V) → n < count_limit → LongLine r
    → Appends w w' (unlines (line_too_long ∷ [])) → TurnTaken A n n' r r' w w' s s (Ok (Ended 1))
long_turn A n n' r r' w w' s few l sent = refused_turn A n n' r r' w w' s line_too_long (long_refused A n s r few l) sent

pub stopped_long : {V : Type 0} (A : Answering V) (fault : LaneFault) (n n' : ℕ) (r r' w w' : Known) (s : V) → n < count_limit → LongLine r
    → TextWritten w w' (unlines (line_too_long ∷ [])) (Err fault) → TurnTaken A n n' r r' w w' s s (Err fault)
stopped_long A fault n n' r r' w w' s few l h = refused_stopped A fault n n' r r' w w' s line_too_long (long_refused A n s r few l) h

-- one byte more is one line more at least
first_of : (r r' : Known) → EndTold r r' (Ok false) → (line : List ℕ) × FirstLines r (line ∷ [])
first_of None r' told = ([], tt)
first_of (Some xs) None told = absurd told.1
first_of (Some xs) (Some ys) (byte, read) = let f = lines_of-some byte ys in (f.0, (f.1, ap lines_of read ∙ f.2))

full_refused : {V : Type 0} (A : Answering V) (n : ℕ) (s : V) (r r' : Known) → n ≡ count_limit → EndTold r r' (Ok false)
    → IsRefused A n s r too_many_lines
full_refused A n s r r' full told =
    let f = first_of r r' told in
    record { line = f.0; first = f.1; goes = λ more. Run-full A n s f.0 more (omega (arith, full)) }

pub full_turn : {V : Type 0} (A : Answering V) (n n' : ℕ) (r r' w w' : Known) (s : V) → n ≡ count_limit → EndTold r r' (Ok false)
    → Appends w w' (unlines (too_many_lines ∷ [])) → TurnTaken A n n' r r' w w' s s (Ok (Ended 1))
full_turn A n n' r r' w w' s full told sent = refused_turn A n n' r r' w w' s too_many_lines (full_refused A n s r r' full told) sent

pub stopped_full : {V : Type 0} (A : Answering V) (fault : LaneFault) (n n' : ℕ) (r r' w w' : Known) (s : V) → n ≡ count_limit
    → EndTold r r' (Ok false) → TextWritten w w' (unlines (too_many_lines ∷ [])) (Err fault) → TurnTaken A n n' r r' w w' s s (Err fault)
stopped_full A fault n n' r r' w w' s full told h = refused_stopped A fault n n' r r' w w' s too_many_lines (full_refused A n s r r' full told) h
