-- What a pass holds, and where its calls stand in a journal.
use Rattle.std.specs.Prelude.{◌≡◌, ℕ, ◌-◌, ◌<◌, ◌≤◌, Bool, true, List, length, [], ◌∷◌, Option, Some, None, slice_get, IfSome}
use Rattle.gate_message.specs.declared.caller.Caller.{Caller}
use Rattle.gate_message.specs.declared.event.Event.{Event}
use Rattle.gate_message.specs.declared.reply.Reply.{Reply}
use Rattle.gate_journal.specs.declared.entry.Entry.{Entry}
use Rattle.gate_journal.specs.Legal.{entry, entry_limit}
use Rattle.gate_shared.specs.declared.receipt.Made.{Made}
use Rattle.gate_shared.specs.declared.receipt.Receipt.{Receipt}

-- a pass by its number: its caller, its calls, oldest first, and whether a call of it met a full journal
pub record PassView : Type 0 where
  pub number : ℕ
  pub caller : Caller
  pub calls : List Made
  pub met_full : Bool

-- the most calls of a pass
abbrev pub call_limit : ℕ
call_limit = 65536

abbrev pub receipt : ℕ → Reply → Receipt
receipt number reply = record { number = number; reply = reply }

abbrev pub made : Event → Receipt → Made
made event receipt = record { event = event; receipt = receipt }

-- the numbers of the receipts rise, from above n
abbrev pub Rises : ℕ → List Made → Type 0
Rises n [] = Unit {0}
Rises n (c ∷ cs) = (n < c.receipt.number) × Rises c.receipt.number cs

-- each number is below n
abbrev pub EachBelow : ℕ → List Made → Type 0
EachBelow n [] = Unit {0}
EachBelow n (c ∷ cs) = (c.receipt.number < n) × EachBelow n cs

-- the last of a call and those after it
abbrev pub last_from : Made → List Made → Made
last_from c [] = c
last_from c (d ∷ ds) = last_from d ds

abbrev pub last_call : List Made → Option Made
last_call [] = None
last_call (c ∷ cs) = Some (last_from c cs)

-- a call of the pass with this number stands in the journal at the place that its receipt names
abbrev pub Stands : List Entry → ℕ → Made → Type 0
Stands journal pass c = (0 < c.receipt.number) × (slice_get journal (c.receipt.number - 1) ≡ Some (entry pass c.event c.receipt.reply))

-- the last call of a pass, if it has one, stands in the journal at the place that its receipt names
abbrev pub LastStands : List Entry → PassView → Type 0
LastStands journal p = IfSome (last_call p.calls) (Stands journal p.number)

-- the journal is full if a call of the pass met a full one
abbrev pub IsFullIfMet : List Entry → PassView → Type 0
IsFullIfMet journal p = p.met_full ≡ true → entry_limit ≤ length journal
