-- What is found by reading line after line is an audit's answer.
use Rattle.std.proofs.Common.{◌≡◌, ◌≢◌, ℕ, ◌+◌, ◌<◌, ◌≤◌, ◌&&◌, nat_lt, nat_le, if◌then◌else◌, Bool, true, false, List, [], ◌∷◌, ◌++◌, length, Option, Some, None, refl, sym, ap, subst, ◌∙◌, arith, append_assoc, append-nil, length-append, inl, inr}
use Rattle.std.proofs.lemmas.Bool.{ltb-true, leb-true, true≢false}
use Rattle.std.proofs.lemmas.Bool.Decides.{nat_tests}
use Rattle.std.proofs.lemmas.List.Elements.{All-nil, All-push}
use Rattle.std.proofs.lemmas.Slice.Eq.{bytes_eq-Decides}
use Rattle.std.specs.Str.{bytes_eq}
use Rattle.gate_message.specs.declared.event.Event.{Event}
use Rattle.gate_core.specs.Steps.{step_of}
use Rattle.gate_core.specs.World.{World}
use Rattle.gate_lines.specs.Lines.{count_limit, is_skipped, line_limit}
use Rattle.gate_audit.specs.declared.answer.Audit.TheVariants.{Illegal}
use Rattle.gate_audit.specs.Audits.{Audited, FailsFirst, IsBegun, IsFront, IsLegal, IsPast, IsWrong, Spells}
use Rattle.gate_audit.specs.Journals.{AreWithin, Rounds, asking, base_line, count_of, counted, event_line, reply_line, state_behind}
use Rattle.gate_journal.specs.Legal.{entry_limit}
use Rattle.gate_audit.specs.Laws.{AuditsAreExact, marked_event}
use Rattle.gate_audit.proofs.AskingTaken.{asking-append, asking-line, asking-skip}
use Rattle.gate_audit.proofs.Finding.{at_end, at_event, at_line, find}
use Rattle.gate_audit.proofs.Journals.{IsJournal-base, IsJournal-entry, IsJournal-nil, IsJournal-quiet, behind-base, behind-entry, bounded-base, bounded-entry, bounded-last, bounded-none, count-base, count-entry, made, no_rounds, with_base, with_entry}
use Rattle.gate_audit.proofs.Marks.{event_no_base, marked_spells, spells_marked}
use Rattle.gate_audit.proofs.OneAnswer.{only_answer}

-- the state behind these rounds and the lines of the next entry, and the line of a reply that is awaited
abbrev pub Awaits : World → Rounds → List (List ℕ) → World → Option (List ℕ) → Type 0
Awaits w rounds entry v None = (asking entry ≡ []) × (v ≡ state_behind w rounds)
Awaits w rounds entry v (Some reply) = (first : List ℕ) × (event : Event) × (asking entry ≡ first ∷ []) × Spells first event × (length rounds.last.entries < entry_limit)
    × (reply ≡ reply_line (step_of (state_behind w rounds) event).0) × (v ≡ (step_of (state_behind w rounds) event).1)

-- so many entries, of which so many are of the last round
pub record Counts (rounds : Rounds) (count size : ℕ) : Type 0 where
  pub all : count ≡ count_of rounds
  pub last : size ≡ length rounds.last.entries

-- what is to be shown of the lines that are left
abbrev pub Finds : List (List ℕ) → Type 0
Finds lines = (w : World) (before entry : List (List ℕ)) (rounds : Rounds) (number count size : ℕ) (v : World) (awaited : Option (List ℕ))
    → IsFront w before entry rounds → Awaits w rounds entry v awaited → number ≡ length (before ++ entry) → Counts rounds count size
    → Audited w ((before ++ entry) ++ lines) (find number count size v awaited lines)

-- ---- one line more

more_within : (lines : List (List ℕ)) (line : List ℕ) → AreWithin lines → length lines < count_limit → counted line ≤ line_limit → AreWithin (lines ++ line ∷ [])
more_within lines line within few short = record {
  few = omega (arith, few, length-append lines (line ∷ []));
  short = All-push (λ l. counted l ≤ line_limit) lines line within.short short;
}

shift : (before entry lines : List (List ℕ)) (line : List ℕ) → (before ++ (entry ++ line ∷ [])) ++ lines ≡ (before ++ entry) ++ (line ∷ lines)
shift before entry lines line = ap (λ ls. ls ++ lines) (sym (append_assoc before entry (line ∷ []))) ∙ append_assoc (before ++ entry) (line ∷ []) lines

front_more : (w : World) (before entry : List (List ℕ)) (rounds : Rounds) (line : List ℕ) → IsFront w before entry rounds → length (before ++ entry) < count_limit → counted line ≤ line_limit
    → IsFront w before (entry ++ line ∷ []) rounds
front_more w before entry rounds line front few short = record {
  journal = front.journal;
  bounded = front.bounded;
  within = subst (λ (ls : List (List ℕ)). AreWithin ls) (append_assoc before entry (line ∷ [])) (more_within (before ++ entry) line front.within few short);
}

number_more : (before entry : List (List ℕ)) (line : List ℕ) (number : ℕ) → number ≡ length (before ++ entry) → number + 1 ≡ length (before ++ (entry ++ line ∷ []))
number_more before entry line number is =
    omega (arith, is, length-append before entry, length-append before (entry ++ line ∷ []), length-append entry (line ∷ []))

asking_more : (entry asked : List (List ℕ)) (line : List ℕ) → asking entry ≡ asked → is_skipped line ≡ false → asking (entry ++ line ∷ []) ≡ asked ++ line ∷ []
asking_more entry asked line is asks = asking-append entry (line ∷ []) ∙ ap (λ ls. ls ++ asking (line ∷ [])) is ∙ ap (λ ls. asked ++ ls) (asking-line line asks)

asking_same : (entry : List (List ℕ)) (line : List ℕ) → is_skipped line ≡ true → asking (entry ++ line ∷ []) ≡ asking entry
asking_same entry line skipped = asking-append entry (line ∷ []) ∙ ap (λ ls. asking entry ++ ls) (asking-skip line skipped) ∙ append-nil (asking entry)

awaits_same : (w : World) (rounds : Rounds) (entry : List (List ℕ)) (line : List ℕ) (v : World) (awaited : Option (List ℕ)) → is_skipped line ≡ true → Awaits w rounds entry v awaited
    → Awaits w rounds (entry ++ line ∷ []) v awaited
awaits_same w rounds entry line v None skipped (asks, is) = (asking_same entry line skipped ∙ asks, is)
awaits_same w rounds entry line v (Some reply) skipped (first, event, asks, spells, few, is, moved) = (first, event, asking_same entry line skipped ∙ asks, spells, few, is, moved)

-- ---- a wrong entry

fails_at : (w : World) (before entry : List (List ℕ)) (rounds : Rounds) (line : List ℕ) (lines asked : List (List ℕ)) (count : ℕ) → IsFront w before (entry ++ line ∷ []) rounds
    → asking (entry ++ line ∷ []) ≡ asked → IsWrong (count_of rounds) (length rounds.last.entries) (state_behind w rounds) asked lines → count ≡ count_of rounds
    → FailsFirst w ((before ++ entry) ++ (line ∷ lines)) (count + 1)
fails_at w before entry rounds line lines asked count front asks wrong is = record {
  before = before;
  entry = entry ++ line ∷ [];
  rest = lines;
  rounds = rounds;
  parted = sym (shift before entry lines line);
  front = front;
  wrong = subst (λ (ls : List (List ℕ)). IsWrong (count_of rounds) (length rounds.last.entries) (state_behind w rounds) ls lines) (sym asks) wrong;
  place = omega (arith, is);
}

-- ---- the line of an event, or of a base

not_some : (line : List ℕ) (event : Event) → marked_event line ≡ None → marked_event line ≡ Some event → ⊥
not_some line event none some = cc

found_event : (m : Option Event) (w : World) (before entry : List (List ℕ)) (rounds : Rounds) (number count size : ℕ) (v : World) (line : List ℕ) (lines : List (List ℕ)) → marked_event line ≡ m
    → line ≢ base_line (count_of rounds) → IsFront w before (entry ++ line ∷ []) rounds → asking (entry ++ line ∷ []) ≡ line ∷ [] → v ≡ state_behind w rounds
    → number + 1 ≡ length (before ++ (entry ++ line ∷ [])) → Counts rounds count size → size < entry_limit → Finds lines
    → Audited w ((before ++ entry) ++ (line ∷ lines)) (at_event count size v m (λ n k u a. find (number + 1) n k u a lines))
found_event None w before entry rounds number count size v line lines none other front asks is place same few next =
    fails_at w before entry rounds line lines (line ∷ []) count front asks (other, inr (inl (λ event spells. not_some line event none (marked_spells line event spells)))) same.all
found_event (Some event) w before entry rounds number count size v line lines some other front asks is place same few next =
    let moved = step_of v event in
    let awaits : Awaits w rounds (entry ++ line ∷ []) moved.1 (Some (reply_line moved.0)) =
    (line, event, asks, spells_marked line event some, omega (arith, few, same.last), ap (λ u. reply_line (step_of u event).0) is, ap (λ u. (step_of u event).1) is) in
    subst (λ (ls : List (List ℕ)). Audited w ls (find (number + 1) count size moved.1 (Some (reply_line moved.0)) lines)) (shift before entry lines line)
    (next w before (entry ++ line ∷ []) rounds (number + 1) count size moved.1 (Some (reply_line moved.0)) front awaits place same)

at_limit : (size : ℕ) (rounds : Rounds) → nat_lt size entry_limit ≡ false → size ≡ length rounds.last.entries → length rounds.last.entries ≤ entry_limit → length rounds.last.entries ≡ entry_limit
at_limit size rounds full same few = grind (arith, nat_tests)

found_entry : (b : Bool) (w : World) (before entry : List (List ℕ)) (rounds : Rounds) (number count size : ℕ) (v : World) (line : List ℕ) (lines : List (List ℕ)) → nat_lt size entry_limit ≡ b
    → line ≢ base_line (count_of rounds) → IsFront w before (entry ++ line ∷ []) rounds → asking (entry ++ line ∷ []) ≡ line ∷ [] → v ≡ state_behind w rounds
    → number + 1 ≡ length (before ++ (entry ++ line ∷ [])) → Counts rounds count size → Finds lines
    → Audited w ((before ++ entry) ++ (line ∷ lines)) (if b then at_event count size v (marked_event line) (λ n k u a. find (number + 1) n k u a lines) else Some (Illegal (count + 1)))
found_entry true w before entry rounds number count size v line lines few other front asks is place same next =
    found_event (marked_event line) w before entry rounds number count size v line lines refl other front asks is place same (ltb-true size entry_limit few) next
found_entry false w before entry rounds number count size v line lines full other front asks is place same next =
    fails_at w before entry rounds line lines (line ∷ []) count front asks (other, inl (at_limit size rounds full same.last (bounded-last rounds front.bounded))) same.all

found_first : (b : Bool) (w : World) (before entry : List (List ℕ)) (rounds : Rounds) (number count size : ℕ) (v : World) (line : List ℕ) (lines : List (List ℕ)) → bytes_eq line (base_line count) ≡ b
    → IsFront w before (entry ++ line ∷ []) rounds → asking (entry ++ line ∷ []) ≡ line ∷ [] → v ≡ state_behind w rounds → number + 1 ≡ length (before ++ (entry ++ line ∷ []))
    → Counts rounds count size → Finds lines
    → Audited w ((before ++ entry) ++ (line ∷ lines))
    (if b then find (number + 1) count 0 v None lines
    else if nat_lt size entry_limit then at_event count size v (marked_event line) (λ n k u a. find (number + 1) n k u a lines) else Some (Illegal (count + 1)))
found_first true w before entry rounds number count size v line lines base front asks is place same next =
    let all = before ++ (entry ++ line ∷ []) in
    let told : line ≡ base_line (count_of rounds) = (bytes_eq-Decides line (base_line count)).0 base ∙ ap base_line same.all in
    let behind : IsFront w all [] (with_base rounds) = record {
      journal = IsJournal-base w before (entry ++ line ∷ []) rounds front.journal (asks ∙ ap (λ l. l ∷ []) told);
      bounded = bounded-base rounds front.bounded;
      within = subst (λ (ls : List (List ℕ)). AreWithin ls) (sym (append-nil all)) front.within;
    } in
    subst (λ (ls : List (List ℕ)). Audited w ls (find (number + 1) count 0 v None lines)) (ap (λ ls. ls ++ lines) (append-nil all) ∙ shift before entry lines line)
    (next w all [] (with_base rounds) (number + 1) count 0 v None behind (refl, is ∙ sym (behind-base w rounds)) (place ∙ ap length (sym (append-nil all)))
    (record { all = same.all ∙ sym (count-base rounds); last = refl }))
found_first false w before entry rounds number count size v line lines base front asks is place same next =
    let other : line ≢ base_line (count_of rounds) = λ told. true≢false (sym ((bytes_eq-Decides line (base_line count)).1 (told ∙ ap base_line (sym same.all))) ∙ base) in
    found_entry (nat_lt size entry_limit) w before entry rounds number count size v line lines refl other front asks is place same next

-- ---- the line of a reply

found_reply : (b : Bool) (w : World) (before entry : List (List ℕ)) (rounds : Rounds) (number count size : ℕ) (v : World) (reply line first : List ℕ) (event : Event) (lines : List (List ℕ)) → bytes_eq line reply ≡ b
    → IsFront w before (entry ++ line ∷ []) rounds → asking (entry ++ line ∷ []) ≡ first ∷ line ∷ [] → Spells first event → length rounds.last.entries < entry_limit
    → reply ≡ reply_line (step_of (state_behind w rounds) event).0 → v ≡ (step_of (state_behind w rounds) event).1 → number + 1 ≡ length (before ++ (entry ++ line ∷ []))
    → Counts rounds count size → Finds lines
    → Audited w ((before ++ entry) ++ (line ∷ lines)) (if b then find (number + 1) (count + 1) (size + 1) v None lines else Some (Illegal (count + 1)))
found_reply true w before entry rounds number count size v reply line first event lines right front asks (text, spelled, spells) few is moved place same next =
    let now = state_behind w rounds in
    let said : line ≡ reply_line (step_of now event).0 = (bytes_eq-Decides line reply).0 right ∙ is in
    let all = before ++ (entry ++ line ∷ []) in
    let more = with_entry rounds text (made now event) spells in
    let told : asking (entry ++ line ∷ []) ≡ event_line text ∷ reply_line (step_of now event).0 ∷ [] = asks ∙ ap (λ l. l ∷ line ∷ []) spelled ∙ ap (λ l. event_line text ∷ l ∷ []) said in
    let behind : IsFront w all [] more = record {
      journal = IsJournal-entry w before (entry ++ line ∷ []) rounds text event front.journal spells told;
      bounded = bounded-entry rounds text (made now event) spells front.bounded few;
      within = subst (λ (ls : List (List ℕ)). AreWithin ls) (sym (append-nil all)) front.within;
    } in
    let counts : Counts more (count + 1) (size + 1) = record {
      all = ap (λ n. n + 1) same.all ∙ sym (count-entry rounds text (made now event) spells);
      last = omega (arith, same.last, length-append rounds.last.entries (made now event ∷ []));
    } in
    subst (λ (ls : List (List ℕ)). Audited w ls (find (number + 1) (count + 1) (size + 1) v None lines)) (ap (λ ls. ls ++ lines) (append-nil all) ∙ shift before entry lines line)
    (next w all [] more (number + 1) (count + 1) (size + 1) v None behind (refl, moved ∙ sym (behind-entry w rounds text (made now event) spells)) (place ∙ ap length (sym (append-nil all))) counts)
found_reply false w before entry rounds number count size v reply line first event lines wrong front asks spells few is moved place same next =
    fails_at w before entry rounds line lines (first ∷ line ∷ []) count front asks
    (event, spells, λ said. true≢false (sym ((bytes_eq-Decides line reply).1 (said ∙ sym is)) ∙ wrong)) same.all

-- ---- any line

found_asking : (w : World) (before entry : List (List ℕ)) (rounds : Rounds) (number count size : ℕ) (v : World) (awaited : Option (List ℕ)) (line : List ℕ) (lines : List (List ℕ)) → is_skipped line ≡ false
    → IsFront w before (entry ++ line ∷ []) rounds → Awaits w rounds entry v awaited → number + 1 ≡ length (before ++ (entry ++ line ∷ [])) → Counts rounds count size
    → Finds lines → Audited w ((before ++ entry) ++ (line ∷ lines)) (at_line count size v awaited line (λ n k u a. find (number + 1) n k u a lines))
found_asking w before entry rounds number count size v None line lines asks front (none, is) place same next =
    found_first (bytes_eq line (base_line count)) w before entry rounds number count size v line lines refl front (asking_more entry [] line none asks) is place same next
found_asking w before entry rounds number count size v (Some reply) line lines asks front (first, event, one, spells, few, is, moved) place same next =
    found_reply (bytes_eq line reply) w before entry rounds number count size v reply line first event lines refl front (asking_more entry (first ∷ []) line one asks) spells few is moved place same next

found_within : (b : Bool) (w : World) (before entry : List (List ℕ)) (rounds : Rounds) (number count size : ℕ) (v : World) (awaited : Option (List ℕ)) (line : List ℕ) (lines : List (List ℕ)) → is_skipped line ≡ b
    → IsFront w before (entry ++ line ∷ []) rounds → Awaits w rounds entry v awaited → number + 1 ≡ length (before ++ (entry ++ line ∷ [])) → Counts rounds count size
    → Finds lines
    → Audited w ((before ++ entry) ++ (line ∷ lines))
    (if b then find (number + 1) count size v awaited lines else at_line count size v awaited line (λ n k u a. find (number + 1) n k u a lines))
found_within true w before entry rounds number count size v awaited line lines skipped front awaits place same next =
    subst (λ (ls : List (List ℕ)). Audited w ls (find (number + 1) count size v awaited lines)) (shift before entry lines line)
    (next w before (entry ++ line ∷ []) rounds (number + 1) count size v awaited front (awaits_same w rounds entry line v awaited skipped awaits) place same)
found_within false w before entry rounds number count size v awaited line lines asks front awaits place same next =
    found_asking w before entry rounds number count size v awaited line lines asks front awaits place same next

begun : (w : World) (rounds : Rounds) (entry : List (List ℕ)) (v : World) (awaited : Option (List ℕ)) → Awaits w rounds entry v awaited → IsBegun (length rounds.last.entries) (asking entry)
begun w rounds entry v None (none, is) = subst (λ (ls : List (List ℕ)). IsBegun (length rounds.last.entries) ls) (sym none) tt
begun w rounds entry v (Some reply) (first, event, one, spells, few, is, moved) = subst (λ (ls : List (List ℕ)). IsBegun (length rounds.last.entries) ls) (sym one) (few, (event, spells))

tests_both : (a b : Bool) → (a && b) ≡ true → (a ≡ true) × (b ≡ true)
tests_both true true h = (refl, refl)
tests_both true false h = absurd (true≢false (sym h))
tests_both false b h = absurd (true≢false (sym h))

is_past : (number : ℕ) (line : List ℕ) (a b : Bool) → nat_lt number count_limit ≡ a → nat_le (counted line) line_limit ≡ b → (a && b) ≡ false → number ≤ count_limit → IsPast number line
is_past number line false b few short h most = inl (grind (arith, nat_tests))
is_past number line true false few short h most = inr (grind (arith, nat_tests))
is_past number line true true few short h most = absurd (true≢false h)

found_line : (b : Bool) (w : World) (before entry : List (List ℕ)) (rounds : Rounds) (number count size : ℕ) (v : World) (awaited : Option (List ℕ)) (line : List ℕ) (lines : List (List ℕ))
    → (nat_lt number count_limit && nat_le (counted line) line_limit) ≡ b → IsFront w before entry rounds → Awaits w rounds entry v awaited → number ≡ length (before ++ entry)
    → Counts rounds count size → Finds lines
    → Audited w ((before ++ entry) ++ (line ∷ lines))
    (if b then if is_skipped line then find (number + 1) count size v awaited lines else at_line count size v awaited line (λ n k u a. find (number + 1) n k u a lines) else None)
found_line true w before entry rounds number count size v awaited line lines limits front awaits place same next =
    let tests = tests_both (nat_lt number count_limit) (nat_le (counted line) line_limit) limits in
    let few : length (before ++ entry) < count_limit = omega (arith, ltb-true number count_limit tests.0, place) in
    found_within (is_skipped line) w before entry rounds number count size v awaited line lines refl (front_more w before entry rounds line front few (leb-true (counted line) line_limit tests.1)) awaits
    (number_more before entry line number place) same next
found_line false w before entry rounds number count size v awaited line lines limits front awaits place same next = record {
  before = before;
  entry = entry;
  line = line;
  rest = lines;
  rounds = rounds;
  parted = refl;
  front = front;
  begun = begun w rounds entry v awaited awaits;
  past = subst (λ n. IsPast n line) place (is_past number line (nat_lt number count_limit) (nat_le (counted line) line_limit) refl refl limits (omega (arith, front.within.few, place)));
}

-- ---- all lines

spells_some : (first : List ℕ) (event : Event) (count : ℕ) → Spells first event → first ≢ base_line count
spells_some first event count (text, is, spells) = λ same. event_no_base text count (sym is ∙ same)

found_end : (w : World) (before entry : List (List ℕ)) (rounds : Rounds) (count size : ℕ) (v : World) (awaited : Option (List ℕ)) → IsFront w before entry rounds → Awaits w rounds entry v awaited
    → Counts rounds count size → Audited w ((before ++ entry) ++ []) (at_end count awaited)
found_end w before entry rounds count size v None front (none, is) same =
    subst (λ (ls : List (List ℕ)). IsLegal w ls count) (sym (append-nil (before ++ entry))) (record {
      rounds = rounds;
      journal = IsJournal-quiet w before entry rounds front.journal none;
      number = same.all;
      bounded = front.bounded;
      within = front.within;
    })
found_end w before entry rounds count size v (Some reply) front (first, event, one, spells, few, is, moved) same = record {
  before = before;
  entry = entry;
  rest = [];
  rounds = rounds;
  parted = refl;
  front = front;
  wrong = subst (λ (ls : List (List ℕ)). IsWrong (count_of rounds) (length rounds.last.entries) (state_behind w rounds) ls []) (sym one) (spells_some first event (count_of rounds) spells, inr (inr refl));
  place = omega (arith, same.all);
}

found : (lines : List (List ℕ)) → Finds lines
found [] = λ w before entry rounds number count size v awaited front awaits place same. found_end w before entry rounds count size v awaited front awaits same
found (line ∷ lines) = λ w before entry rounds number count size v awaited front awaits place same.
    found_line (nat_lt number count_limit && nat_le (counted line) line_limit) w before entry rounds number count size v awaited line lines refl front awaits place same (found lines)

nothing_read : (w : World) → IsFront w [] [] no_rounds
nothing_read w = record {
  journal = IsJournal-nil w;
  bounded = bounded-none;
  within = record { few = omega arith; short = All-nil (λ l. counted l ≤ line_limit) };
}

pub audits_are_exact : AuditsAreExact
audits_are_exact w lines = (
  find 0 0 0 w None lines,
  found lines w [] [] no_rounds 0 0 0 w None (nothing_read w) (refl, refl) refl (record { all = refl; last = refl }),
  λ other h. only_answer w lines other h,
)
