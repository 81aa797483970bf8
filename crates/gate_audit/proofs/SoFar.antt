-- An audit after some entries and bases, and how it ends from there.
use Rattle.std.proofs.Common.{◌≡◌, ℕ, ◌+◌, ◌-◌, ◌<◌, ◌≤◌, Bool, false, List, [], ◌∷◌, ◌++◌, length, Option, OnSome, Some, None, IfSome, refl, sym, ap, subst, ◌∙◌, arith, append_assoc, length-append}
use Rattle.std.proofs.lemmas.Bool.{true≢false}
use Rattle.std.specs.List.{All}
use Rattle.std.proofs.lemmas.List.Elements.{All-nil, All-append}
use Rattle.gate_message.specs.declared.event.Event.{Event}
use Rattle.gate_core.specs.Steps.{step_of}
use Rattle.gate_core.specs.World.{World}
use Rattle.gate_lines.specs.Lines.{count_limit, line_limit, lines_of}
use Rattle.gate_audit.specs.declared.counts.EntryCounts.{EntryCounts}
use Rattle.gate_audit.specs.Audits.{FailsFirst, IsBegun, IsFront, IsLegal, IsPast, IsWrong, PassesLimit, Spells}
use Rattle.gate_audit.specs.Journals.{AreBounded, AreWithin, IsJournal, Rounds, asking, base_line, count_of, counted, event_line, reply_line, state_behind}
use Rattle.gate_journal.specs.Legal.{entry_limit}
use Rattle.gate_audit.specs.Reading.{AreAll, AreTaken, EntryIsPast, IsWrongIn, Leads, TellsEnd, TellsRest}
use Rattle.gate_audit.proofs.AskingTaken.{Leads-nil, Leads-trans, end_told, rest_told}
use Rattle.gate_audit.proofs.Journals.{IsJournal-base, IsJournal-entry, IsJournal-nil, IsJournal-quiet, behind-base, behind-entry, bounded-base, bounded-entry, bounded-none, count-base, count-entry, made, no_rounds, with_base, with_entry}

pub record SoFar (w : World) (r r' : Option (List ℕ)) (number : ℕ) (ended : Bool) (w' : World) (all in_round : ℕ) : Type 0 where
  pub lines : List (List ℕ)
  pub rounds : Rounds
  pub leads : Leads r r' lines
  pub short : All (λ line. counted line ≤ line_limit) lines
  pub read : number ≡ length lines
  pub journal : IsJournal w lines rounds
  pub bounded : AreBounded rounds
  pub entries : all ≡ count_of rounds
  pub last : in_round ≡ length rounds.last.entries
  pub state : w' ≡ state_behind w rounds
  pub ends : OnSome r (TellsEnd ended r')
  pub most : all ≤ number

unended : (ended : Bool) (r : Option (List ℕ)) → ended ≡ false → OnSome r (TellsEnd ended r)
unended ended None h = tt
unended ended (Some xs) h = λ e. absurd (true≢false (sym e ∙ h))

pub SoFar-start : (w : World) (r : Option (List ℕ)) (number : ℕ) (ended : Bool) (all in_round : ℕ) → number ≡ 0 → ended ≡ false → all ≡ 0 → in_round ≡ 0 → SoFar w r r number ended w all in_round
SoFar-start w r number ended all in_round none still no_entry no_round = record {
  lines = [];
  rounds = no_rounds;
  leads = Leads-nil r;
  short = All-nil (λ line. counted line ≤ line_limit);
  read = none;
  journal = IsJournal-nil w;
  bounded = bounded-none;
  entries = no_entry;
  last = no_round;
  state = refl;
  ends = unended ended r still;
  most = omega (arith, none, no_entry);
}

-- ---- one entry more

-- lines that ask for something are some
nil_some : (x : List ℕ) (xs : List (List ℕ)) → [] ≡ x ∷ xs → ⊥
nil_some x xs h = cc

pub some_lines : (number : ℕ) (lines : List (List ℕ)) (first : List ℕ) (asked : List (List ℕ)) → AreTaken number lines (first ∷ asked) → 0 < length lines
some_lines number [] first asked taken = absurd (nil_some first asked taken.asks)
some_lines number (line ∷ lines) first asked taken = omega arith

-- the lines of an entry
abbrev pub EntryRead : Option (List ℕ) → Option (List ℕ) → ℕ → ℕ → Bool → World → World → ℕ → Type 0
EntryRead r' r'' number new now_ended w' w'' in_round = (lines : List (List ℕ)) × (first : List ℕ) × (event : Event) × (in_round < entry_limit) × Spells first event
    × AreTaken number lines (first ∷ reply_line (step_of w' event).0 ∷ [])
    × Leads r' r'' lines × (new ≡ number + length lines) × TellsRest now_ended r' r'' × (w'' ≡ (step_of w' event).1)

pub SoFar-entry : (w : World) (r r' r'' : Option (List ℕ)) (number new : ℕ) (ended now_ended : Bool) (w' w'' : World) (all in_round : ℕ) → SoFar w r r' number ended w' all in_round
    → EntryRead r' r'' number new now_ended w' w'' in_round → SoFar w r r'' new now_ended w'' (all + 1) (in_round + 1)
SoFar-entry w r r' r'' number new ended now_ended w' w'' all in_round so (lines, first, event, few, (text, is, spells), taken, leads, grown, rest, moved) =
    let before = state_behind w so.rounds in
    let e = made before event in
    let asks : asking lines ≡ event_line text ∷ reply_line (step_of before event).0 ∷ [] =
    taken.asks ∙ ap (λ l. l ∷ reply_line (step_of w' event).0 ∷ []) is ∙ ap (λ v. event_line text ∷ reply_line (step_of v event).0 ∷ []) so.state in
    record {
      lines = so.lines ++ lines;
      rounds = with_entry so.rounds text e spells;
      leads = Leads-trans r r' r'' so.lines lines so.leads leads;
      short = All-append (λ line. counted line ≤ line_limit) so.lines lines so.short taken.short;
      read = omega (arith, so.read, grown, length-append so.lines lines);
      journal = IsJournal-entry w so.lines lines so.rounds text event so.journal spells asks;
      bounded = bounded-entry so.rounds text e spells so.bounded (omega (arith, few, so.last));
      entries = ap (λ n. n + 1) so.entries ∙ sym (count-entry so.rounds text e spells);
      last = omega (arith, so.last, length-append so.rounds.last.entries (e ∷ []));
      state = moved ∙ ap (λ v. (step_of v event).1) so.state ∙ sym (behind-entry w so.rounds text e spells);
      ends = end_told now_ended r r'' (rest_told now_ended r r' r'' so.lines so.leads rest);
      most = omega (arith, so.most, grown, some_lines number lines first (reply_line (step_of w' event).0 ∷ []) taken);
    }

-- ---- the line of a base

abbrev pub BaseRead : Option (List ℕ) → Option (List ℕ) → ℕ → ℕ → Bool → World → World → ℕ → Type 0
BaseRead r' r'' number new now_ended w' w'' all = (lines : List (List ℕ)) × AreTaken number lines (base_line all ∷ [])
    × Leads r' r'' lines × (new ≡ number + length lines) × TellsRest now_ended r' r'' × (w'' ≡ w')

pub SoFar-base : (w : World) (r r' r'' : Option (List ℕ)) (number new : ℕ) (ended now_ended : Bool) (w' w'' : World) (all in_round : ℕ) → SoFar w r r' number ended w' all in_round
    → BaseRead r' r'' number new now_ended w' w'' all → SoFar w r r'' new now_ended w'' all 0
SoFar-base w r r' r'' number new ended now_ended w' w'' all in_round so (lines, taken, leads, grown, rest, same) = record {
  lines = so.lines ++ lines;
  rounds = with_base so.rounds;
  leads = Leads-trans r r' r'' so.lines lines so.leads leads;
  short = All-append (λ line. counted line ≤ line_limit) so.lines lines so.short taken.short;
  read = omega (arith, so.read, grown, length-append so.lines lines);
  journal = IsJournal-base w so.lines lines so.rounds so.journal (taken.asks ∙ ap (λ n. base_line n ∷ []) so.entries);
  bounded = bounded-base so.rounds so.bounded;
  entries = so.entries ∙ sym (count-base so.rounds);
  last = refl;
  state = same ∙ so.state ∙ sym (behind-base w so.rounds);
  ends = end_told now_ended r r'' (rest_told now_ended r r' r'' so.lines so.leads rest);
  most = omega (arith, so.most, grown);
}

-- ---- it goes on

pub entry_moves : (r' r'' : Option (List ℕ)) (number new : ℕ) (now_ended : Bool) (w' w'' : World) (in_round : ℕ) → EntryRead r' r'' number new now_ended w' w'' in_round → number < new
entry_moves r' r'' number new now_ended w' w'' in_round (lines, first, event, few, spells, taken, leads, grown, rest, moved) =
    omega (arith, grown, some_lines number lines first (reply_line (step_of w' event).0 ∷ []) taken)

pub base_moves : (r' r'' : Option (List ℕ)) (number new : ℕ) (now_ended : Bool) (w' w'' : World) (all : ℕ) → BaseRead r' r'' number new now_ended w' w'' all → number < new
base_moves r' r'' number new now_ended w' w'' all (lines, taken, leads, grown, rest, same) = omega (arith, grown, some_lines number lines (base_line all) [] taken)

pub fewer_left : (number new : ℕ) → number < new → new ≤ count_limit → count_limit - new < count_limit - number
fewer_left number new more few = omega (arith, more, few)

-- ---- the lines read, and more of them

within : (number : ℕ) (lines more asked : List (List ℕ)) → All (λ line. counted line ≤ line_limit) lines → number ≡ length lines → AreTaken number more asked → AreWithin (lines ++ more)
within number lines more asked short read taken = record {
  few = omega (arith, taken.few, read, length-append lines more);
  short = All-append (λ line. counted line ≤ line_limit) lines more short taken.short;
}

front : (w : World) (r r' : Option (List ℕ)) (number : ℕ) (ended : Bool) (w' : World) (all in_round : ℕ) (so : SoFar w r r' number ended w' all in_round) (more asked : List (List ℕ))
    → AreTaken number more asked → IsFront w so.lines more so.rounds
front w r r' number ended w' all in_round so more asked taken = record {
  journal = so.journal;
  bounded = so.bounded;
  within = within number so.lines more asked so.short so.read taken;
}

-- ---- the end of the input

legal : (w : World) (xs ys : List ℕ) (number : ℕ) (ended : Bool) (w' : World) (all in_round : ℕ) → SoFar w (Some xs) (Some ys) number ended w' all in_round
    → (more : List (List ℕ)) → AreTaken number more [] → lines_of ys ≡ more → IsLegal w (lines_of xs) all
legal w xs ys number ended w' all in_round so more taken is =
    subst (λ (ls : List (List ℕ)). IsLegal w ls all) (sym (so.leads ∙ ap (λ ls. so.lines ++ ls) is)) (record {
      rounds = so.rounds;
      journal = IsJournal-quiet w so.lines more so.rounds so.journal taken.asks;
      number = so.entries;
      bounded = so.bounded;
      within = within number so.lines more [] so.short so.read taken;
    })

pub SoFar-end : (w : World) (r r' : Option (List ℕ)) (number : ℕ) (ended : Bool) (w' : World) (all in_round : ℕ) → SoFar w r r' number ended w' all in_round
    → (lines : List (List ℕ)) × AreTaken number lines [] × (TellsEnd ended r' → AreAll r' lines) → IfSome r (λ input. IsLegal w (lines_of input) all)
SoFar-end w None r' number ended w' all in_round so h = tt
SoFar-end w (Some xs) None number ended w' all in_round so h = absurd so.leads
SoFar-end w (Some xs) (Some ys) number ended w' all in_round so (more, taken, is) = legal w xs ys number ended w' all in_round so more taken (is so.ends)

-- ---- a wrong entry

fails : (w : World) (xs ys : List ℕ) (number : ℕ) (ended : Bool) (w' : World) (all in_round : ℕ) → SoFar w (Some xs) (Some ys) number ended w' all in_round
    → (entry asked rest : List (List ℕ)) → AreTaken number entry asked → lines_of ys ≡ entry ++ rest → IsWrong all in_round w' asked rest → FailsFirst w (lines_of xs) (all + 1)
fails w xs ys number ended w' all in_round so entry asked rest taken parted wrong =
    let n = count_of so.rounds in
    let size = length so.rounds.last.entries in
    record {
      before = so.lines;
      entry = entry;
      rest = rest;
      rounds = so.rounds;
      parted = so.leads ∙ ap (λ ls. so.lines ++ ls) parted ∙ sym (append_assoc so.lines entry rest);
      front = front w (Some xs) (Some ys) number ended w' all in_round so entry asked taken;
      wrong = subst (λ (ls : List (List ℕ)). IsWrong n size (state_behind w so.rounds) ls rest) (sym taken.asks)
          (subst (λ (v : World). IsWrong n size v asked rest) so.state (subst (λ (k : ℕ). IsWrong n k w' asked rest) so.last (subst (λ (k : ℕ). IsWrong k in_round w' asked rest) so.entries wrong)));
      place = omega (arith, so.entries);
    }

pub SoFar-wrong : (w : World) (r r' : Option (List ℕ)) (number : ℕ) (ended : Bool) (w' : World) (counts : EntryCounts) → SoFar w r r' number ended w' counts.all counts.in_round
    → (lines : List (List ℕ)) × (asked : List (List ℕ)) × AreTaken number lines asked × (TellsEnd ended r' → IsWrongIn counts w' r' lines asked)
    → IfSome r (λ input. FailsFirst w (lines_of input) (counts.all + 1))
SoFar-wrong w None r' number ended w' counts so h = tt
SoFar-wrong w (Some xs) None number ended w' counts so h = absurd so.leads
SoFar-wrong w (Some xs) (Some ys) number ended w' counts so (entry, asked, taken, wrong) =
    let found = wrong so.ends in fails w xs ys number ended w' counts.all counts.in_round so entry asked found.0 taken found.1 found.2

-- ---- a line past a limit

passes : (w : World) (xs ys : List ℕ) (number : ℕ) (ended : Bool) (w' : World) (all in_round : ℕ) → SoFar w (Some xs) (Some ys) number ended w' all in_round
    → (entry asked : List (List ℕ)) → AreTaken number entry asked → IsBegun in_round asked
    → (line : List ℕ) × (rest : List (List ℕ)) × (lines_of ys ≡ entry ++ (line ∷ rest)) × IsPast (number + length entry) line → PassesLimit w (lines_of xs)
passes w xs ys number ended w' all in_round so entry asked taken begun (line, rest, parted, past) = record {
  before = so.lines;
  entry = entry;
  line = line;
  rest = rest;
  rounds = so.rounds;
  parted = so.leads ∙ ap (λ ls. so.lines ++ ls) parted ∙ sym (append_assoc so.lines entry (line ∷ rest));
  front = front w (Some xs) (Some ys) number ended w' all in_round so entry asked taken;
  begun = subst (λ (ls : List (List ℕ)). IsBegun (length so.rounds.last.entries) ls) (sym taken.asks) (subst (λ n. IsBegun n asked) so.last begun);
  past = subst (λ n. IsPast n line) (omega (arith, so.read, length-append so.lines entry)) past;
}

pub SoFar-past : (w : World) (r r' : Option (List ℕ)) (number : ℕ) (ended : Bool) (w' : World) (all in_round : ℕ) → SoFar w r r' number ended w' all in_round
    → EntryIsPast r' number in_round → IfSome r (λ input. PassesLimit w (lines_of input))
SoFar-past w None r' number ended w' all in_round so h = tt
SoFar-past w (Some xs) None number ended w' all in_round so h = absurd so.leads
SoFar-past w (Some xs) (Some ys) number ended w' all in_round so (entry, asked, taken, begun, past) =
    passes w xs ys number ended w' all in_round so entry asked taken begun past
