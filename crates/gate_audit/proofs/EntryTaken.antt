-- The lines of one entry, from those of its event and of its reply.
use Rattle.std.proofs.Common.{◌≡◌, ◌≢◌, ◌⊎◌, ℕ, ◌+◌, ◌<◌, ◌≤◌, ◌↔◌, IsTrue, Bool, false, List, [], ◌∷◌, ◌++◌, codes, length, Option, OnSome, Some, None, Result, Ok, Err, sym, ap, subst, ◌∙◌, arith, append_assoc, length-append, inl, inr}
use Rattle.std.proofs.lemmas.Bool.{true≢false}
use Rattle.std.proofs.lemmas.List.Elements.{All-append}
use Rattle.std.specs.Result.{IsErrOf}
use Rattle.gate_message.specs.declared.event.Event.{Event}
use Rattle.gate_core.specs.Steps.{step_of}
use Rattle.gate_message.specs.Texts.{reply_text}
use Rattle.gate_core.specs.World.{World}
use Rattle.gate_lines.specs.Lines.{line_limit, lines_of}
use Rattle.gate_lines.specs.declared.fault.LaneFault.{LaneFault}
use Rattle.gate_audit.specs.Audits.{IsPast, IsWrong, Spells}
use Rattle.gate_audit.specs.declared.counts.EntryCounts.{EntryCounts}
use Rattle.gate_audit.specs.Journals.{asking, base_line, counted, reply_line}
use Rattle.gate_journal.specs.Legal.{entry_limit}
use Rattle.gate_audit.specs.Reading.{AreTaken, AskingIsPast, EntryIsPast, IsNoReply, IsWrongIn, LacksReply, Leads, NextIsPast, Replied, TellsEnd, TellsRest}
use Rattle.gate_audit.proofs.AskingTaken.{Leads-trans, asking-append, rest_told}

-- the error that a `?` hands on
pub handed_on : {T : Type 0} (r : Result T LaneFault) (e f : LaneFault) → (y : LaneFault) × (r ≡ Err y) × (y ≡ e) → IsErrOf r f → e ≡ f
handed_on (Ok x) e f (y, is, same) err = cc
handed_on (Err x) e f (y, is, same) err = cc

-- ---- lines behind lines

pub AreTaken-append : (old mid : ℕ) (lines more asked others : List (List ℕ)) → AreTaken old lines asked → mid ≡ old + length lines → AreTaken mid more others
    → AreTaken old (lines ++ more) (asked ++ others)
AreTaken-append old mid lines more asked others h number k = record {
  few = omega (arith, h.few, number, k.few, length-append lines more);
  short = All-append (λ line. counted line ≤ line_limit) lines more h.short k.short;
  asks = asking-append lines more ∙ ap (λ ls. ls ++ asking more) h.asks ∙ ap (λ ls. asked ++ ls) k.asks;
}

number_behind : (old mid new : ℕ) (lines more : List (List ℕ)) → mid ≡ old + length lines → new ≡ mid + length more → new ≡ old + length (lines ++ more)
number_behind old mid new lines more first second = omega (arith, first, second, length-append lines more)

-- a round that is not full
pub round_goes_on : (size : ℕ) (full : Bool) → size ≤ entry_limit → IsTrue full ↔ (size ≡ entry_limit) → full ≡ false → size < entry_limit
round_goes_on size full most is still = less (λ (e : size ≡ entry_limit). true≢false (sym (is.1 e) ∙ still))
  where
    less : size ≢ entry_limit → size < entry_limit
    less other = omega (arith, other, most)

-- ---- the line of a base

-- what was read up to the first line that asks
abbrev pub FirstTaken : Option (List ℕ) → Option (List ℕ) → ℕ → ℕ → Bool → List ℕ → Type 0
FirstTaken r r' old mid ended first = (lines : List (List ℕ)) × AreTaken old lines (first ∷ []) × Leads r r' lines × (mid ≡ old + length lines) × TellsRest ended r r'

pub entry_base : (r r' : Option (List ℕ)) (old mid : ℕ) (ended : Bool) (w w' : World) (first : List ℕ) (count : ℕ) → FirstTaken r r' old mid ended first → first ≡ base_line count → w' ≡ w
    → (lines : List (List ℕ)) × AreTaken old lines (base_line count ∷ []) × Leads r r' lines × (mid ≡ old + length lines) × TellsRest ended r r' × (w' ≡ w)
entry_base r r' old mid ended w w' first count (lines, taken, leads, number, rest) is same =
    (lines, subst (λ (l : List ℕ). AreTaken old lines (l ∷ [])) is taken, leads, number, rest, same)

-- ---- an entry that is wrong

wrong_first : (r r' : Option (List ℕ)) (w : World) (counts : EntryCounts) (lines : List (List ℕ)) (first : List ℕ) → Leads r r' lines → first ≢ base_line counts.all
    → (counts.in_round ≡ entry_limit) ⊎ ((event : Event) → Spells first event → ⊥) → IsWrongIn counts w r lines (first ∷ [])
wrong_first None r' w counts lines first leads other why = tt
wrong_first (Some xs) None w counts lines first leads other why = absurd leads
wrong_first (Some xs) (Some ys) w counts lines first leads other (inl full) = (lines_of ys, leads, (other, inl full))
wrong_first (Some xs) (Some ys) w counts lines first leads other (inr none) = (lines_of ys, leads, (other, inr (inl none)))

-- the first line is no base, and the round is full, or the line spells no event
pub entry_wrong : (r r' : Option (List ℕ)) (old mid : ℕ) (was_ended ended : Bool) (w : World) (counts : EntryCounts) (first : List ℕ) → FirstTaken r r' old mid ended first
    → first ≢ base_line counts.all → (counts.in_round ≡ entry_limit) ⊎ ((event : Event) → Spells first event → ⊥)
    → (lines : List (List ℕ)) × (asked : List (List ℕ)) × AreTaken old lines asked × (TellsEnd was_ended r → IsWrongIn counts w r lines asked)
entry_wrong r r' old mid was_ended ended w counts first (lines, taken, leads, number, rest) other why =
    (lines, first ∷ [], taken, λ known. wrong_first r r' w counts lines first leads other why)

wrong_reply : (w : World) (counts : EntryCounts) (first : List ℕ) (event : Event) (reply : List ℕ) (asked more : List (List ℕ)) → first ≢ base_line counts.all → Spells first event
    → reply ≡ reply_text (step_of w event).0 → IsNoReply asked more reply → IsWrong counts.all counts.in_round w (first ∷ asked) more
wrong_reply w counts first event reply [] more other spells is none = (other, inr (inr none))
wrong_reply w counts first event reply (line ∷ []) more other spells is none = (event, spells, λ e. none (e ∙ ap (λ l. codes "< " ++ l) (sym is)))
wrong_reply w counts first event reply (line ∷ next ∷ lines) more other spells is none = absurd none

wrong_second : (r r' : Option (List ℕ)) (w : World) (counts : EntryCounts) (lines more asked : List (List ℕ)) (first : List ℕ) (event : Event) (reply : List ℕ) → Leads r r' lines
    → LacksReply r' more asked reply → first ≢ base_line counts.all → Spells first event → reply ≡ reply_text (step_of w event).0 → IsWrongIn counts w r (lines ++ more) (first ∷ asked)
wrong_second None r' w counts lines more asked first event reply leads lacks other spells is = tt
wrong_second (Some xs) None w counts lines more asked first event reply leads lacks other spells is = absurd leads
wrong_second (Some xs) (Some ys) w counts lines more asked first event reply leads (rest, parted, none) other spells is =
    (rest, leads ∙ ap (λ ls. lines ++ ls) parted ∙ sym (append_assoc lines more rest), wrong_reply w counts first event reply asked rest other spells is none)

lacks_known : (r r' : Option (List ℕ)) (ended : Bool) (lines more asked : List (List ℕ)) (reply : List ℕ) → Leads r r' lines → TellsRest ended r r'
    → (TellsEnd ended r' → LacksReply r' more asked reply) → OnSome r (LacksReply r' more asked reply)
lacks_known None r' ended lines more asked reply leads rest lacks = tt
lacks_known (Some xs) r' ended lines more asked reply leads rest lacks = lacks rest

some_wrong : (r r' : Option (List ℕ)) (w : World) (counts : EntryCounts) (lines more asked : List (List ℕ)) (first : List ℕ) (event : Event) (reply : List ℕ) → Leads r r' lines
    → OnSome r (LacksReply r' more asked reply) → first ≢ base_line counts.all → Spells first event → reply ≡ reply_text (step_of w event).0 → IsWrongIn counts w r (lines ++ more) (first ∷ asked)
some_wrong None r' w counts lines more asked first event reply leads lacks other spells is = tt
some_wrong (Some xs) r' w counts lines more asked first event reply leads lacks other spells is =
    wrong_second (Some xs) r' w counts lines more asked first event reply leads lacks other spells is

-- the line behind that of an event is not that of its reply
pub entry_unreplied : (r r' : Option (List ℕ)) (old mid : ℕ) (was_ended ended : Bool) (w w' : World) (counts : EntryCounts) (first reply : List ℕ) → FirstTaken r r' old mid ended first
    → first ≢ base_line counts.all → Replied w first w' (Some reply)
    → (more : List (List ℕ)) × (asked : List (List ℕ)) × AreTaken mid more asked × (TellsEnd ended r' → LacksReply r' more asked reply)
    → (lines : List (List ℕ)) × (asked : List (List ℕ)) × AreTaken old lines asked × (TellsEnd was_ended r → IsWrongIn counts w r lines asked)
entry_unreplied r r' old mid was_ended ended w w' counts first reply (lines, taken, leads, number, rest) other (event, spells, is, moved) (more, asked, others, lacks) = (
  lines ++ more,
  first ∷ asked,
  AreTaken-append old mid lines more (first ∷ []) asked taken number others,
  λ known. some_wrong r r' w counts lines more asked first event reply leads (lacks_known r r' ended lines more asked reply leads rest lacks) other spells is,
)

-- ---- an entry that is legal

pub entry_legal : (r r' r'' : Option (List ℕ)) (old mid new : ℕ) (ended now_ended : Bool) (w w' : World) (size : ℕ) (first reply : List ℕ) → FirstTaken r r' old mid ended first
    → size < entry_limit → Replied w first w' (Some reply)
    → (more : List (List ℕ)) × AreTaken mid more ((codes "< " ++ reply) ∷ []) × Leads r' r'' more × (new ≡ mid + length more) × TellsRest now_ended r' r''
    → (lines : List (List ℕ)) × (first : List ℕ) × (event : Event) × (size < entry_limit) × Spells first event × AreTaken old lines (first ∷ reply_line (step_of w event).0 ∷ [])
    × Leads r r'' lines × (new ≡ old + length lines) × TellsRest now_ended r r'' × (w' ≡ (step_of w event).1)
entry_legal r r' r'' old mid new ended now_ended w w' size first reply (lines, taken, leads, number, rest) few (event, spells, is, moved) (more, others, leads', number', rest') = (
  lines ++ more,
  first,
  event,
  few,
  spells,
  subst (λ (text : List ℕ). AreTaken old (lines ++ more) (first ∷ (codes "< " ++ text) ∷ [])) is (AreTaken-append old mid lines more (first ∷ []) ((codes "< " ++ reply) ∷ []) taken number others),
  Leads-trans r r' r'' lines more leads leads',
  number_behind old mid new lines more number number',
  rest_told now_ended r r' r'' lines leads rest',
  moved,
)

-- ---- a line past a limit

pub past_first : (r : Option (List ℕ)) (old size : ℕ) → AskingIsPast r old → EntryIsPast r old size
past_first r old size (lines, taken, past) = (lines, [], taken, tt, past)

past_more : (r r' : Option (List ℕ)) (old mid : ℕ) (lines more : List (List ℕ)) → Leads r r' lines → mid ≡ old + length lines → NextIsPast r' mid more → NextIsPast r old (lines ++ more)
past_more None r' old mid lines more leads number past = tt
past_more (Some xs) None old mid lines more leads number past = absurd leads
past_more (Some xs) (Some ys) old mid lines more leads number (line, rest, is, past) =
    (line, rest, leads ∙ ap (λ ls. lines ++ ls) is ∙ sym (append_assoc lines more (line ∷ rest)), subst (λ n. IsPast n line) (omega (arith, number, length-append lines more)) past)

pub past_second : (r r' : Option (List ℕ)) (old mid : ℕ) (ended : Bool) (w w' : World) (size : ℕ) (first reply : List ℕ) → FirstTaken r r' old mid ended first
    → size < entry_limit → Replied w first w' (Some reply) → AskingIsPast r' mid → EntryIsPast r old size
past_second r r' old mid ended w w' size first reply (lines, taken, leads, number, rest) few (event, spells, is, moved) (more, others, past) = (
  lines ++ more,
  first ∷ [],
  AreTaken-append old mid lines more (first ∷ []) [] taken number others,
  (few, (event, spells)),
  past_more r r' old mid lines more leads number past,
)
