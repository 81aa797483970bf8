-- An audit's answer is that of reading line after line.
use Rattle.std.proofs.Common.{◌≡◌, ◌≢◌, ℕ, ◌+◌, ◌<◌, ◌≤◌, ◌&&◌, nat_lt, nat_le, if◌then◌else◌, Bool, true, false, List, [], ◌∷◌, ◌++◌, length, map, Option, Some, None, refl, sym, ap, subst, ◌∙◌, arith, append_assoc, append-nil, length-append, inl, inr}
use Rattle.std.proofs.lemmas.Bool.{lt-ltb}
use Rattle.std.proofs.lemmas.List.Elements.{All-cons, All-head, All-nil, All-tail}
use Rattle.std.proofs.lemmas.Slice.Eq.{bytes_eq-Decides}
use Rattle.std.specs.List.{All}
use Rattle.std.specs.Str.{bytes_eq}
use Rattle.gate_message.specs.declared.event.Event.{Event}
use Rattle.gate_message.specs.declared.reply.Reply.{Reply}
use Rattle.gate_core.specs.Steps.{step_of}
use Rattle.gate_core.specs.World.{World}
use Rattle.gate_events.specs.EventLines.{line_event}
use Rattle.gate_journal.specs.Legal.{AreLegalRounds, IsLegal as IsLegalJournal, events_of, joined, replies_of, state_after, state_after_rounds, entry_limit}
use Rattle.gate_journal.specs.declared.entry.Entry.{Entry}
use Rattle.gate_journal.proofs.Replaying.{legal-head, legal-tail}
use Rattle.gate_lines.proofs.Limits.{not-lt, not-le}
use Rattle.gate_lines.specs.Lines.{count_limit, line_limit}
use Rattle.gate_audit.specs.declared.answer.Audit.{Audit}
use Rattle.gate_audit.specs.declared.answer.Audit.TheVariants.{Legal, Illegal}
use Rattle.gate_audit.specs.Audits.{Audited, FailsFirst, IsBegun, IsFront, IsLegal, IsPast, IsWrong, PassesLimit, Spells}
use Rattle.gate_audit.specs.Journals.{IsJournal, Round, Rounds, asking, base_line, count_of, counted, ended_lines, entries_of, entry_lines, event_line, reply_line, round_lines, rounds_lines, state_behind}
use Rattle.gate_audit.specs.Laws.{marked_event}
use Rattle.gate_audit.specs.Reading.{AreTaken}
use Rattle.gate_audit.proofs.Finding.{Next, Parted, at_event, at_line, find, find-parted, find-quiet, parted_of}
use Rattle.gate_audit.proofs.Marks.{event_no_base, marked_spells, some_head, spells_marked}

-- ---- a line that asks for something

is_false : (b : Bool) → (b ≡ true → ⊥) → b ≡ false
is_false true h = absurd (h refl)
is_false false h = refl

not_equal : (xs ys : List ℕ) → xs ≢ ys → bytes_eq xs ys ≡ false
not_equal xs ys other = is_false (bytes_eq xs ys) (λ e. other ((bytes_eq-Decides xs ys).0 e))

-- the line of the base
line-base : (count size : ℕ) (w : World) (next : Next) → at_line count size w None (base_line count) next ≡ next count 0 w None
line-base count size w next =
    let full : Option Audit = Some (Illegal (count + 1)) in
    let other : Option Audit = if nat_lt size entry_limit then at_event count size w (marked_event (base_line count)) next else full in
    ap (λ (b : Bool). if b then next count 0 w None else other) ((bytes_eq-Decides (base_line count) (base_line count)).1 refl)

-- a line that is not that of the base
line-no_base : (count size : ℕ) (w : World) (line : List ℕ) (next : Next) → line ≢ base_line count
    → at_line count size w None line next ≡ (if nat_lt size entry_limit then at_event count size w (marked_event line) next else Some (Illegal (count + 1)))
line-no_base count size w line next other =
    let full : Option Audit = Some (Illegal (count + 1)) in
    let entry : Option Audit = if nat_lt size entry_limit then at_event count size w (marked_event line) next else full in
    ap (λ (b : Bool). if b then next count 0 w None else entry) (not_equal line (base_line count) other)

line-event : (count size : ℕ) (w : World) (line : List ℕ) (event : Event) (next : Next) → line ≢ base_line count → nat_lt size entry_limit ≡ true → marked_event line ≡ Some event
    → at_line count size w None line next ≡ next count size (step_of w event).1 (Some (reply_line (step_of w event).0))
line-event count size w line event next other few is =
    let full : Option Audit = Some (Illegal (count + 1)) in
    line-no_base count size w line next other
    ∙ ap (λ (b : Bool). if b then at_event count size w (marked_event line) next else full) few ∙ ap (λ (e : Option Event). at_event count size w e next) is

line-full : (count size : ℕ) (w : World) (line : List ℕ) (next : Next) → line ≢ base_line count → nat_lt size entry_limit ≡ false → at_line count size w None line next ≡ Some (Illegal (count + 1))
line-full count size w line next other full =
    let wrong : Option Audit = Some (Illegal (count + 1)) in
    line-no_base count size w line next other ∙ ap (λ (b : Bool). if b then at_event count size w (marked_event line) next else wrong) full

none_if : (b : Bool) (count size : ℕ) (w : World) (e : Option Event) (next : Next) → e ≡ None
    → (if b then at_event count size w e next else Some (Illegal (count + 1))) ≡ Some (Illegal (count + 1))
none_if true count size w e next is = ap (λ (x : Option Event). at_event count size w x next) is
none_if false count size w e next is = refl

line-none : (count size : ℕ) (w : World) (line : List ℕ) (next : Next) → line ≢ base_line count → marked_event line ≡ None → at_line count size w None line next ≡ Some (Illegal (count + 1))
line-none count size w line next other is = line-no_base count size w line next other ∙ none_if (nat_lt size entry_limit) count size w (marked_event line) next is

line-reply : (count size : ℕ) (w : World) (reply : List ℕ) (next : Next) → at_line count size w (Some reply) reply next ≡ next (count + 1) (size + 1) w None
line-reply count size w reply next =
    let wrong : Option Audit = Some (Illegal (count + 1)) in
    ap (λ (b : Bool). if b then next (count + 1) (size + 1) w None else wrong) ((bytes_eq-Decides reply reply).1 refl)

line-other : (count size : ℕ) (w : World) (reply line : List ℕ) (next : Next) → line ≢ reply → at_line count size w (Some reply) line next ≡ Some (Illegal (count + 1))
line-other count size w reply line next other =
    let wrong : Option Audit = Some (Illegal (count + 1)) in
    ap (λ (b : Bool). if b then next (count + 1) (size + 1) w None else wrong) (not_equal line reply other)

-- ---- what is found behind whole entries and bases

parted_length : (number : ℕ) (front : List (List ℕ)) (line : List ℕ) (asked : List (List ℕ)) (p : Parted number front line asked) → length front ≡ length p.quiet + (1 + length p.rest)
parted_length number front line asked p = omega (arith, ap length p.parted, length-append p.quiet (line ∷ p.rest))

-- what is found in front of these lines is found behind some of them, with these counts and in this state
pub record Found (number count size : ℕ) (w : World) (count' size' : ℕ) (v : World) (front asked more : List (List ℕ)) : Type 0 where
  pub rest : List (List ℕ)
  pub place : ℕ
  pub behind : AreTaken place rest asked
  pub same : place + length rest ≡ number + length front
  pub is : find number count size w None (front ++ more) ≡ find place count' size' v None (rest ++ more)

found-start : (number count size : ℕ) (w : World) (count' size' : ℕ) (v : World) (front asked more : List (List ℕ)) → count ≡ count' → size ≡ size' → w ≡ v → AreTaken number front asked
    → Found number count size w count' size' v front asked more
found-start number count size w count' size' v front asked more counts sizes states taken = record {
  rest = front;
  place = number;
  behind = taken;
  same = refl;
  is = ap (λ n. find number n size w None (front ++ more)) counts ∙ ap (λ n. find number count' n w None (front ++ more)) sizes
      ∙ ap (λ u. find number count' size' u None (front ++ more)) states;
}

found-then : (number count size : ℕ) (w : World) (count' size' : ℕ) (v : World) (count'' size'' : ℕ) (u : World) (front asked others more : List (List ℕ))
    → (f : Found number count size w count' size' v front asked more) → Found f.place count' size' v count'' size'' u f.rest others more
    → Found number count size w count'' size'' u front others more
found-then number count size w count' size' v count'' size'' u front asked others more f g = record {
  rest = g.rest;
  place = g.place;
  behind = g.behind;
  same = g.same ∙ f.same;
  is = f.is ∙ g.is;
}

-- the same, with numbers that are the same
found-at : (number count size : ℕ) (w : World) (count' size' n m : ℕ) (v : World) (front asked more : List (List ℕ)) → count' ≡ n → size' ≡ m
    → Found number count size w count' size' v front asked more → Found number count size w n m v front asked more
found-at number count size w count' size' n m v front asked more counts sizes f =
    subst (λ (k : ℕ). Found number count size w n k v front asked more) sizes (subst (λ (k : ℕ). Found number count size w k size' v front asked more) counts f)

find-entry : (front : List (List ℕ)) (number count size : ℕ) (w : World) (text : List ℕ) (event : Event) (asked more : List (List ℕ)) → size < entry_limit → line_event text ≡ Some event
    → AreTaken number front (event_line text ∷ reply_line (step_of w event).0 ∷ asked) → Found number count size w (count + 1) (size + 1) (step_of w event).1 front asked more
find-entry front number count size w text event asked more few spells taken =
    let reply = reply_line (step_of w event).0 in
    let v = (step_of w event).1 in
    let p = parted_of front number (event_line text) (reply ∷ asked) taken in
    let place = number + length p.quiet + 1 in
    let q = parted_of p.rest place reply asked p.behind in
    record {
      rest = q.rest;
      place = place + length q.quiet + 1;
      behind = q.behind;
      same = omega (arith, parted_length number front (event_line text) (reply ∷ asked) p, parted_length place p.rest reply asked q);
      is = find-parted front number count size w None (event_line text) (reply ∷ asked) more p
          ∙ line-event count size w (event_line text) event (λ n m u a. find place n m u a (p.rest ++ more)) (event_no_base text count) (lt-ltb _ _ few) spells
          ∙ find-parted p.rest place count size v (Some reply) reply asked more q
          ∙ line-reply count size v reply (λ n m u a. find (place + length q.quiet + 1) n m u a (q.rest ++ more));
    }

find-base : (front : List (List ℕ)) (number count size : ℕ) (w : World) (asked more : List (List ℕ)) → AreTaken number front (base_line count ∷ asked)
    → Found number count size w count 0 w front asked more
find-base front number count size w asked more taken =
    let p = parted_of front number (base_line count) asked taken in
    record {
      rest = p.rest;
      place = number + length p.quiet + 1;
      behind = p.behind;
      same = omega (arith, parted_length number front (base_line count) asked p);
      is = find-parted front number count size w None (base_line count) asked more p
          ∙ line-base count size w (λ n m u a. find (number + length p.quiet + 1) n m u a (p.rest ++ more));
    }

nil_spelled : (e : Event) (es : List Event) → map line_event [] ≡ map Some (e ∷ es) → ⊥
nil_spelled e es h = cc

cons_spelled : (t : List ℕ) (ts : List (List ℕ)) → map line_event (t ∷ ts) ≡ map {A = Event} Some [] → ⊥
cons_spelled t ts h = cc

-- the entries of a round
find-round : (texts : List (List ℕ)) (entries : List Entry) (front : List (List ℕ)) (number count size : ℕ) (w : World) (asked more : List (List ℕ)) → map line_event texts ≡ map Some (events_of entries)
    → IsLegalJournal w entries → size + length entries ≤ entry_limit → AreTaken number front (entry_lines texts (replies_of entries) ++ asked)
    → Found number count size w (count + length entries) (size + length entries) (state_after w entries) front asked more
find-round [] [] front number count size w asked more spelled legal few taken =
    found-start number count size w (count + 0) (size + 0) w front asked more (omega arith) (omega arith) refl taken
find-round [] (e ∷ es) front number count size w asked more spelled legal few taken = absurd (nil_spelled e.event (events_of es) spelled)
find-round (t ∷ ts) [] front number count size w asked more spelled legal few taken = absurd (cons_spelled t ts spelled)
find-round (t ∷ ts) (e ∷ es) front number count size w asked more spelled legal few taken =
    let v = (step_of w e.event).1 in
    let heads = some_head (line_event t) e.event (map line_event ts) (events_of es) spelled in
    let others = entry_lines ts (replies_of es) ++ asked in
    let first : AreTaken number front (event_line t ∷ reply_line (step_of w e.event).0 ∷ others) =
    subst (λ (r : Reply). AreTaken number front (event_line t ∷ reply_line r ∷ others)) (legal-head w e es legal) taken in
    let f = find-entry front number count size w t e.event others more (omega (arith, few)) heads.0 first in
    let g = find-round ts es f.rest f.place (count + 1) (size + 1) v asked more heads.1 (legal-tail w e es legal) (omega (arith, few)) f.behind in
    found-at number count size w (count + 1 + length es) (size + 1 + length es) (count + length (e ∷ es)) (size + length (e ∷ es)) (state_after w (e ∷ es)) front asked more (omega arith) (omega arith)
    (found-then number count size w (count + 1) (size + 1) v (count + 1 + length es) (size + 1 + length es) (state_after v es) front others asked more f g)

-- all rounds, and then nothing
find-rounds : (ended : List Round) (last : Round) (front : List (List ℕ)) (number count : ℕ) (w : World) (more : List (List ℕ))
    → AreLegalRounds w (map (λ (round : Round). round.entries) ended ++ last.entries ∷ []) → All (λ (entries : List Entry). length entries ≤ entry_limit) (map (λ (round : Round). round.entries) ended ++ last.entries ∷ [])
    → AreTaken number front (ended_lines count ended ++ round_lines last)
    → Found number count 0 w (count + length (joined (map (λ (round : Round). round.entries) ended ++ last.entries ∷ []))) (length last.entries)
    (state_after_rounds w (map (λ (round : Round). round.entries) ended ++ last.entries ∷ [])) front [] more
find-rounds [] last front number count w more legal bounded taken =
    let most : length last.entries ≤ entry_limit = All-head (λ (entries : List Entry). length entries ≤ entry_limit) last.entries [] bounded in
    let one : length (joined (last.entries ∷ [])) ≡ length last.entries = ap length (append-nil last.entries) in
    let all : AreTaken number front (round_lines last ++ []) = subst (λ (ls : List (List ℕ)). AreTaken number front ls) (sym (append-nil (round_lines last))) taken in
    found-at number count 0 w (count + length last.entries) (0 + length last.entries) (count + length (joined (last.entries ∷ []))) (length last.entries) (state_after w last.entries) front [] more
    (omega (arith, one)) (omega arith)
    (find-round last.texts last.entries front number count 0 w [] more last.spelled legal.0 (omega (arith, most)) all)
find-rounds (round ∷ rounds) last front number count w more legal bounded taken =
    let rest = map (λ (r : Round). r.entries) rounds ++ last.entries ∷ [] in
    let behind = count + length round.entries in
    let others = ended_lines behind rounds ++ round_lines last in
    let v = state_after w round.entries in
    let all : AreTaken number front (round_lines round ++ (base_line behind ∷ others)) =
    subst (λ (ls : List (List ℕ)). AreTaken number front ls) (append_assoc (round_lines round) (base_line behind ∷ ended_lines behind rounds) (round_lines last)) taken in
    let most : length round.entries ≤ entry_limit = All-head (λ (entries : List Entry). length entries ≤ entry_limit) round.entries rest bounded in
    let f = find-round round.texts round.entries front number count 0 w (base_line behind ∷ others) more round.spelled legal.0 (omega (arith, most)) all in
    let b = find-base f.rest f.place behind (0 + length round.entries) v others more f.behind in
    let g = find-rounds rounds last b.rest b.place behind v more legal.1 (All-tail (λ (entries : List Entry). length entries ≤ entry_limit) round.entries rest bounded) b.behind in
    found-at number count 0 w (behind + length (joined rest)) (length last.entries) (count + length (joined (round.entries ∷ rest))) (length last.entries) (state_after_rounds v rest) front [] more
    (omega (arith, length-append round.entries (joined rest))) refl
    (found-then number count 0 w behind (0 + length round.entries) v (behind + length (joined rest)) (length last.entries) (state_after_rounds v rest) front (base_line behind ∷ others) [] more f
    (found-then f.place behind (0 + length round.entries) v behind 0 v (behind + length (joined rest)) (length last.entries) (state_after_rounds v rest) f.rest others [] more b g))

-- ---- an entry that is wrong

unspelled : (m : Option Event) (first : List ℕ) → marked_event first ≡ m → ((event : Event) → Spells first event → ⊥) → marked_event first ≡ None
unspelled None first is none = is
unspelled (Some e) first is none = absurd (none e (spells_marked first e is))

-- nothing is left behind the line of an event
ends_there : (b : Bool) (m : Option Event) (count size place : ℕ) (w : World) (first : List ℕ) (quiet rest : List (List ℕ)) → first ≢ base_line count → nat_lt size entry_limit ≡ b → marked_event first ≡ m
    → AreTaken place quiet [] → rest ≡ [] → at_line count size w None first (λ n m v a. find place n m v a (quiet ++ rest)) ≡ Some (Illegal (count + 1))
ends_there false m count size place w first quiet rest other few is taken none = line-full count size w first (λ n k v a. find place n k v a (quiet ++ rest)) other few
ends_there true None count size place w first quiet rest other few is taken none = line-none count size w first (λ n k v a. find place n k v a (quiet ++ rest)) other is
ends_there true (Some e) count size place w first quiet rest other few is taken none =
    let reply = reply_line (step_of w e).0 in
    line-event count size w first e (λ n k v a. find place n k v a (quiet ++ rest)) other few is
    ∙ find-quiet quiet place count size (step_of w e).1 (Some reply) rest taken
    ∙ ap (λ ls. find (place + length quiet) count size (step_of w e).1 (Some reply) ls) none

spells_no_base : (first : List ℕ) (event : Event) (count : ℕ) → Spells first event → first ≢ base_line count
spells_no_base first event count (text, is, spells) = λ same. event_no_base text count (sym is ∙ same)

-- another line stands in the place of the reply's
replied_other : (b : Bool) (count size place : ℕ) (w : World) (first second : List ℕ) (event : Event) (front rest : List (List ℕ)) → nat_lt size entry_limit ≡ b → Spells first event
    → AreTaken place front (second ∷ []) → second ≢ reply_line (step_of w event).0 → at_line count size w None first (λ n m v a. find place n m v a (front ++ rest)) ≡ Some (Illegal (count + 1))
replied_other false count size place w first second event front rest few spells taken other =
    line-full count size w first (λ n m v a. find place n m v a (front ++ rest)) (spells_no_base first event count spells) few
replied_other true count size place w first second event front rest few spells taken other =
    let reply = reply_line (step_of w event).0 in
    let q = parted_of front place second [] taken in
    line-event count size w first event (λ n m v a. find place n m v a (front ++ rest)) (spells_no_base first event count spells) few (marked_spells first event spells)
    ∙ find-parted front place count size (step_of w event).1 (Some reply) second [] rest q
    ∙ line-other count size (step_of w event).1 reply second (λ n m v a. find (place + length q.quiet + 1) n m v a (q.rest ++ rest)) other

find-wrong : (asked entry rest : List (List ℕ)) (number count size : ℕ) (w : World) → AreTaken number entry asked → IsWrong count size w asked rest
    → find number count size w None (entry ++ rest) ≡ Some (Illegal (count + 1))
find-wrong [] entry rest number count size w taken wrong = absurd wrong
find-wrong (first ∷ []) entry rest number count size w taken (other, inl full) =
    let p = parted_of entry number first [] taken in
    find-parted entry number count size w None first [] rest p
    ∙ line-full count size w first (λ n m v a. find (number + length p.quiet + 1) n m v a (p.rest ++ rest)) other (not-lt size entry_limit (omega (arith, full)))
find-wrong (first ∷ []) entry rest number count size w taken (other, inr (inl none)) =
    let p = parted_of entry number first [] taken in
    find-parted entry number count size w None first [] rest p
    ∙ line-none count size w first (λ n m v a. find (number + length p.quiet + 1) n m v a (p.rest ++ rest)) other (unspelled (marked_event first) first refl none)
find-wrong (first ∷ []) entry rest number count size w taken (other, inr (inr end)) =
    let p = parted_of entry number first [] taken in
    find-parted entry number count size w None first [] rest p
    ∙ ends_there (nat_lt size entry_limit) (marked_event first) count size (number + length p.quiet + 1) w first p.rest rest other refl refl p.behind end
find-wrong (first ∷ second ∷ []) entry rest number count size w taken (event, spells, other) =
    let p = parted_of entry number first (second ∷ []) taken in
    find-parted entry number count size w None first (second ∷ []) rest p
    ∙ replied_other (nat_lt size entry_limit) count size (number + length p.quiet + 1) w first second event p.rest rest refl spells p.behind other
find-wrong (first ∷ second ∷ third ∷ lines) entry rest number count size w taken wrong = absurd wrong

-- ---- a line past a limit

and_false : (a : Bool) → (a && false) ≡ false
and_false true = refl
and_false false = refl

past_test : (number : ℕ) (line : List ℕ) → IsPast number line → (nat_lt number count_limit && nat_le (counted line) line_limit) ≡ false
past_test number line (inl full) = ap (λ b. b && nat_le (counted line) line_limit) (not-lt number count_limit (omega (arith, full)))
past_test number line (inr long) = ap (λ b. nat_lt number count_limit && b) (not-le (counted line) line_limit long) ∙ and_false (nat_lt number count_limit)

none_past : (b : Bool) (x y : Option Audit) → b ≡ false → (if b then x else y) ≡ y
none_past true x y h = ap (λ (c : Bool). if c then x else y) h
none_past false x y h = refl

find-past : (number count size : ℕ) (w : World) (awaited : Option (List ℕ)) (line : List ℕ) (lines : List (List ℕ)) → IsPast number line → find number count size w awaited (line ∷ lines) ≡ None
find-past number count size w awaited line lines past = none_past (nat_lt number count_limit && nat_le (counted line) line_limit) _ None (past_test number line past)

find-begun : (asked entry : List (List ℕ)) (line : List ℕ) (rest : List (List ℕ)) (number count size : ℕ) (w : World) → AreTaken number entry asked → IsBegun size asked
    → IsPast (number + length entry) line → find number count size w None (entry ++ (line ∷ rest)) ≡ None
find-begun [] entry line rest number count size w taken begun past =
    find-quiet entry number count size w None (line ∷ rest) taken ∙ find-past (number + length entry) count size w None line rest past
find-begun (first ∷ []) entry line rest number count size w taken (few, (event, spells)) past =
    let p = parted_of entry number first [] taken in
    let place = number + length p.quiet + 1 in
    let reply = reply_line (step_of w event).0 in
    find-parted entry number count size w None first [] (line ∷ rest) p
    ∙ line-event count size w first event (λ n m v a. find place n m v a (p.rest ++ (line ∷ rest))) (spells_no_base first event count spells) (lt-ltb _ _ few) (marked_spells first event spells)
    ∙ find-quiet p.rest place count size (step_of w event).1 (Some reply) (line ∷ rest) p.behind
    ∙ find-past (place + length p.rest) count size (step_of w event).1 (Some reply) line rest (subst (λ n. IsPast n line) (omega (arith, parted_length number entry first [] p)) past)
find-begun (first ∷ second ∷ lines) entry line rest number count size w taken begun past = absurd begun

-- ---- the one answer

short_left : (xs ys : List (List ℕ)) → All (λ l. counted l ≤ line_limit) (xs ++ ys) → All (λ l. counted l ≤ line_limit) xs
short_left [] ys short = All-nil (λ l. counted l ≤ line_limit)
short_left (x ∷ xs) ys short =
    All-cons (λ l. counted l ≤ line_limit) x xs (All-head (λ l. counted l ≤ line_limit) x (xs ++ ys) short) (short_left xs ys (All-tail (λ l. counted l ≤ line_limit) x (xs ++ ys) short))

short_right : (xs ys : List (List ℕ)) → All (λ l. counted l ≤ line_limit) (xs ++ ys) → All (λ l. counted l ≤ line_limit) ys
short_right [] ys short = short
short_right (x ∷ xs) ys short = short_right xs ys (All-tail (λ l. counted l ≤ line_limit) x (xs ++ ys) short)

-- a journal is read first
find-journal : (w : World) (lines : List (List ℕ)) (rounds : Rounds) (more : List (List ℕ)) → IsJournal w lines rounds → All (λ (entries : List Entry). length entries ≤ entry_limit) (entries_of rounds)
    → length lines ≤ count_limit → All (λ l. counted l ≤ line_limit) lines
    → find 0 0 0 w None (lines ++ more) ≡ find (length lines) (count_of rounds) (length rounds.last.entries) (state_behind w rounds) None more
find-journal w lines rounds more journal bounded few short =
    let taken : AreTaken 0 lines (rounds_lines rounds) = record { few = omega (arith, few); short = short; asks = journal.told } in
    let f = find-rounds rounds.ended rounds.last lines 0 0 w more journal.legal bounded taken in
    f.is ∙ find-quiet f.rest f.place (0 + count_of rounds) (length rounds.last.entries) (state_behind w rounds) None more f.behind
    ∙ ap (λ n. find n (0 + count_of rounds) (length rounds.last.entries) (state_behind w rounds) None more) (f.same ∙ zero-add (length lines))
    ∙ ap (λ n. find (length lines) n (length rounds.last.entries) (state_behind w rounds) None more) (zero-add (count_of rounds))
  where
    zero-add : (n : ℕ) → 0 + n ≡ n
    zero-add n = omega arith

find-front : (w : World) (before entry : List (List ℕ)) (rounds : Rounds) (more : List (List ℕ)) → IsFront w before entry rounds
    → find 0 0 0 w None ((before ++ entry) ++ more) ≡ find (length before) (count_of rounds) (length rounds.last.entries) (state_behind w rounds) None (entry ++ more)
find-front w before entry rounds more front =
    ap (find 0 0 0 w None) (append_assoc before entry more)
    ∙ find-journal w before rounds (entry ++ more) front.journal front.bounded (omega (arith, front.within.few, length-append before entry)) (short_left before entry front.within.short)

entry_taken : (w : World) (before entry : List (List ℕ)) (rounds : Rounds) → IsFront w before entry rounds → AreTaken (length before) entry (asking entry)
entry_taken w before entry rounds front = record {
  few = omega (arith, front.within.few, length-append before entry);
  short = short_right before entry front.within.short;
  asks = refl;
}

only_legal : (w : World) (lines : List (List ℕ)) (count : ℕ) → IsLegal w lines count → find 0 0 0 w None lines ≡ Some (Legal count)
only_legal w lines count legal =
    ap (find 0 0 0 w None) (sym (append-nil lines))
    ∙ find-journal w lines legal.rounds [] legal.journal legal.bounded legal.within.few legal.within.short
    ∙ ap (λ n. Some (Legal n)) (sym legal.number)

only_illegal : (w : World) (lines : List (List ℕ)) (number : ℕ) → FailsFirst w lines number → find 0 0 0 w None lines ≡ Some (Illegal number)
only_illegal w lines number f =
    ap (find 0 0 0 w None) f.parted ∙ find-front w f.before f.entry f.rounds f.rest f.front
    ∙ find-wrong (asking f.entry) f.entry f.rest (length f.before) (count_of f.rounds) (length f.rounds.last.entries) (state_behind w f.rounds) (entry_taken w f.before f.entry f.rounds f.front) f.wrong
    ∙ ap (λ n. Some (Illegal n)) (sym f.place)

only_past : (w : World) (lines : List (List ℕ)) → PassesLimit w lines → find 0 0 0 w None lines ≡ None
only_past w lines p =
    ap (find 0 0 0 w None) p.parted ∙ find-front w p.before p.entry p.rounds (p.line ∷ p.rest) p.front
    ∙ find-begun (asking p.entry) p.entry p.line p.rest (length p.before) (count_of p.rounds) (length p.rounds.last.entries) (state_behind w p.rounds) (entry_taken w p.before p.entry p.rounds p.front) p.begun
    (subst (λ n. IsPast n p.line) (length-append p.before p.entry) p.past)

pub only_answer : (w : World) (lines : List (List ℕ)) (answer : Option Audit) → Audited w lines answer → answer ≡ find 0 0 0 w None lines
only_answer w lines (Some (Legal count)) h = sym (only_legal w lines count h)
only_answer w lines (Some (Illegal number)) h = sym (only_illegal w lines number h)
only_answer w lines None h = sym (only_past w lines h)
