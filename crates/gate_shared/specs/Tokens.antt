-- What tokens know of a journal: one of them the journal itself, and each of the others calls that stand in it, or that it is full.
use Rattle.std.specs.Prelude.{◌≡◌, ℕ, zero, suc, ◌+◌, ◌-◌, ◌≤◌, Bool, List, [], ◌∷◌, ◌++◌, length, take, drop, true, false}
use mathlib.Core.Option.{some}
use lib.ListN.{get_elem?}
use Rattle.gate_message.specs.declared.event.Event.TheVariants as events
use Rattle.gate_message.specs.declared.reply.Reply.TheVariants as replies
use Rattle.gate_journal.specs.declared.entry.Entry.{Entry}
use Rattle.gate_journal.specs.Legal.{entry, entry_limit}
use Rattle.gate_shared.specs.declared.receipt.Made.{Made}
use Rattle.gate_shared.specs.declared.tokens.Known.{Known}
use Rattle.gate_shared.specs.Calls.{PassView, Stands}

-- the seats of a gate: as many as its passes can ever be
abbrev pub seat_limit : ℕ
seat_limit = 18446744073709551615

-- ---- the calls of passes, each with the number of its pass

abbrev pub PassCall : Type 0
PassCall = ℕ × Made

-- these calls of the pass with this number
abbrev pub calls_under : ℕ → List Made → List PassCall
calls_under number [] = []
calls_under number (c ∷ cs) = (number, c) ∷ calls_under number cs

-- the calls of these passes, in their order
abbrev pub calls_in : List PassView → List PassCall
calls_in [] = []
calls_in (p ∷ ps) = calls_under p.number p.calls ++ calls_in ps

-- each call stands in the journal
abbrev pub EachStands : List Entry → List PassCall → Type 0
EachStands journal [] = Unit {0}
EachStands journal (c ∷ cs) = Stands journal c.0 c.1 × EachStands journal cs

-- the sum of a weight over the numbers of these calls
abbrev pub weigh : (ℕ → ℕ) → List PassCall → ℕ
weigh h [] = 0
weigh h (c ∷ cs) = h c.1.receipt.number + weigh h cs

-- the sum of a weight over the numbers from 1 to this one
abbrev pub weigh_to : (ℕ → ℕ) → ℕ → ℕ
weigh_to h zero = 0
weigh_to h (suc n) = weigh_to h n + h (suc n)

-- the entry of a call
abbrev pub entry_of : PassCall → Entry
entry_of c = entry c.0 c.1.event c.1.receipt.reply

-- a call where none is named
abbrev pub no_call : PassCall
no_call = (0, record { event = events.Leave 0; receipt = record { number = 0; reply = replies.Left } })

-- ---- what one token knows

-- the token that knows a journal
abbrev pub knower : List Entry → Known
knower all = record { keeps = true; seats = 0; all = all; calls = []; full = false }

-- a token with seats and calls
abbrev pub holder : ℕ → List PassCall → Known
holder seats calls = record { keeps = false; seats = seats; all = []; calls = calls; full = false }

-- a token that knows whether the journal was full, and nothing else
abbrev pub marker : Bool → Known
marker full = record { keeps = false; seats = 0; all = []; calls = []; full = full }

-- the token that knows a journal, with seats and calls
abbrev pub of_journal : ℕ → List Entry → List PassCall → Known
of_journal seats journal calls = record { keeps = true; seats = seats; all = journal; calls = calls; full = false }

-- the token of a journal without entries, with all seats
abbrev pub opener : Known
opener = record { keeps = true; seats = seat_limit; all = []; calls = []; full = false }

-- the first of two, with the seats and calls of both
abbrev pub gathered : Known → Known → Known
gathered v w = record { keeps = v.keeps; seats = v.seats + w.seats; all = v.all; calls = v.calls ++ w.calls; full = v.full }

-- a token without seats has no calls
abbrev pub IsIdleEmpty : Known → Type 0
IsIdleEmpty v = v.seats ≡ 0 → v.calls ≡ []

-- What a token that knows the journal is told. Its calls stand in the journal, and no number from 1 to the journal's length is that of two of them; if
-- it has all seats, each is that of one. The journal is full if the token says so.
pub record IsTold (v : Known) : Type 0 where
  pub stand : EachStands v.all v.calls
  pub once : (h : ℕ → ℕ) → weigh h v.calls ≤ weigh_to h (length v.all)
  pub all : v.seats ≡ seat_limit → (h : ℕ → ℕ) → weigh h v.calls ≡ weigh_to h (length v.all)
  pub full : v.full ≡ true → entry_limit ≤ length v.all

-- ---- the parts of a token

-- what is left of a token that has entered a call, and what the pass gets: seats and calls go to the pass
abbrev pub kept_call : PassCall → Known → Known
kept_call c v = record { keeps = v.keeps; seats = 0; all = v.all ++ entry_of c ∷ []; calls = []; full = false }

abbrev pub entered : PassCall → Known → Known
entered c v = holder v.seats (v.calls ++ c ∷ [])

-- a token without its seats and calls, and the token of these
abbrev pub emptied : Known → Known
emptied v = record { keeps = v.keeps; seats = 0; all = v.all; calls = []; full = v.full }

abbrev pub yielded : Known → Known
yielded v = holder v.seats v.calls

-- a token without so many of its seats and the last so many of its calls, and the token of these
abbrev pub first_part : ℕ → ℕ → Known → Known
first_part seats calls v = record { keeps = v.keeps; seats = v.seats - seats; all = v.all; calls = take (length v.calls - calls) v.calls; full = v.full }

abbrev pub last_part : ℕ → ℕ → Known → Known
last_part seats calls v = holder seats (drop (length v.calls - calls) v.calls)

-- the token has these seats and calls, and neither part is without seats but with calls
abbrev pub CanPart : ℕ → ℕ → Known → Type 0
CanPart seats calls v = (seats ≤ v.seats) × (calls ≤ length v.calls) × (v.seats ≡ seats → calls ≡ length v.calls) × (seats ≡ 0 → calls ≡ 0)

-- a token with the mark of another, and a token without its mark
abbrev pub marked : Known → Known → Known
marked v w = record { keeps = v.keeps; seats = v.seats; all = v.all; calls = v.calls; full = w.full }

abbrev pub unmarked : Known → Known
unmarked v = record { keeps = v.keeps; seats = v.seats; all = v.all; calls = v.calls; full = false }

-- ---- what all tokens know

abbrev pub total : (Known → ℕ) → List Known → ℕ
total f [] = 0
total f (v ∷ vs) = f v + total f vs

-- the rule for the token of this number
abbrev pub Fits : ℕ → List Entry → ℕ → Known → Type 0
Fits keeper journal by v = (v.keeps ≡ true → (by ≡ keeper) × (v.all ≡ journal)) × EachStands journal v.calls × IsIdleEmpty v × (v.full ≡ true → entry_limit ≤ length journal)

-- One token at most knows the journal. All calls stand in it, each number from 1 to its length is that of one call, and the seats are those of the
-- gate. A token without seats has no calls, and the journal is full if a token says so.
pub record AreKept (views : List Known) : Type 0 where
  pub keeper : ℕ
  pub journal : List Entry
  pub each : (by : ℕ) (v : Known) → get_elem? views by ≡ some v → Fits keeper journal by v
  pub seats : total (λ v. v.seats) views ≡ seat_limit
  pub calls : (h : ℕ → ℕ) → total (λ v. weigh h v.calls) views ≡ weigh_to h (length journal)
