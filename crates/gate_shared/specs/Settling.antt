-- Passes against a journal.
use Rattle.std.specs.Prelude.{◌≡◌, ◌≢◌, ℕ, ◌+◌, ◌-◌, ◌<◌, List, [], ◌∷◌, ◌++◌, ◌⊎◌, length, Some, map, slice_get, Contains}
use Rattle.std.specs.List.{All, AllPairs}
use Rattle.gate_core.specs.World.{World}
use Rattle.gate_journal.specs.declared.entry.Entry.{Entry}
use Rattle.gate_journal.specs.Legal.{entry, IsLegal}
use Rattle.gate_shared.specs.declared.receipt.Made.{Made}
use Rattle.gate_shared.specs.declared.receipt.Receipt.{Receipt}
use Rattle.gate_shared.specs.declared.settle.Owner.{Owner}
use Rattle.gate_shared.specs.declared.settle.Settled.{Settled}
use Rattle.gate_shared.specs.declared.settle.Unsettled.{Unsettled}
use Rattle.gate_shared.specs.declared.settle.Unsettled.TheVariants.{Missing, CountDiffers, Memory}
use Rattle.gate_shared.specs.Calls.{PassView, Stands}

-- a call of the pass with this number, and its place: that of the pass in the list, and its own in the pass
pub record Claim : Type 0 where
  pub owner : Owner
  pub pass : ℕ
  pub call : Made

abbrev pub owner_at : ℕ → ℕ → Owner
owner_at pass call = record { pass = pass; call = call }

abbrev pub claim : ℕ → ℕ → ℕ → Made → Claim
claim place at pass c = record { owner = owner_at place at; pass = pass; call = c }

-- the calls of the pass at this place in the list, the first of them at this place in the pass
abbrev pub claim_list : ℕ → ℕ → ℕ → List Made → List Claim
claim_list place at pass [] = []
claim_list place at pass (c ∷ cs) = claim place at pass c ∷ claim_list place (at + 1) pass cs

-- the calls of all passes, in their order
abbrev pub claims_from : ℕ → List PassView → List Claim
claims_from place [] = []
claims_from place (p ∷ ps) = claim_list place 0 p.number p.calls ++ claims_from (place + 1) ps

abbrev pub claims_of : List PassView → List Claim
claims_of passes = claims_from 0 passes

abbrev pub number_of : Claim → ℕ
number_of c = c.call.receipt.number

-- each of these calls stands in the journal, no two at one number
pub record HavePlaces (journal : List Entry) (claims : List Claim) : Type 0 where
  pub stand : All (λ (c : Claim). Stands journal c.pass c.call) claims
  pub apart : AllPairs (λ (c d : Claim). number_of c ≢ number_of d) claims

-- the receipt is that of the first call without a place of its own: all calls before it have places, and it doesn't stand in
-- the journal, or one of the calls before it has its number
abbrev pub FirstMissing : List Entry → List PassView → Receipt → Type 0
FirstMissing journal passes r =
    (before : List Claim) × (c : Claim) × (after : List Claim)
    × (claims_of passes ≡ before ++ c ∷ after) × (r ≡ c.call.receipt)
    × HavePlaces journal before × (¬ Stands journal c.pass c.call ⊎ Contains (map number_of before) (number_of c))

-- this call of this pass is the one at a place
abbrev pub IsAt : List PassView → Owner → PassView → Made → Type 0
IsAt passes o p c = (slice_get passes o.pass ≡ Some p) × (slice_get p.calls o.call ≡ Some c)

-- there is an owner for each entry, and there are as many calls; each entry is the call that its owner names, whose receipt
-- has the entry's number; and each call of a pass is named at its own number
pub record AreTheCalls (journal : List Entry) (passes : List PassView) (owners : List Owner) : Type 0 where
  pub size : length owners ≡ length journal
  pub count : length (claims_of passes) ≡ length journal
  pub entries : (k : ℕ) (o : Owner) → slice_get owners k ≡ Some o
      → (p : PassView) × (c : Made) × IsAt passes o p c × (c.receipt.number ≡ k + 1) × (slice_get journal k ≡ Some (entry p.number c.event c.receipt.reply))
  pub calls : (o : Owner) (p : PassView) (c : Made) → IsAt passes o p c → (0 < c.receipt.number) × (slice_get owners (c.receipt.number - 1) ≡ Some o)

-- the entries are exactly the calls of the passes, and the count is their number
abbrev pub IsSettled : List Entry → List PassView → Settled → Type 0
IsSettled journal passes s = (s.journal.entries ≡ journal) × (s.count ≡ length journal) × AreTheCalls journal passes s.owners

-- a receipt that is missing, or, if all calls have places, the two counts, which differ
abbrev pub WhyUnsettled : List Entry → List PassView → Unsettled → Type 0
WhyUnsettled journal passes (Missing r) = FirstMissing journal passes r
WhyUnsettled journal passes (CountDiffers n m) = (n ≡ length journal) × (m ≡ length (claims_of passes)) × (n ≢ m) × HavePlaces journal (claims_of passes)
WhyUnsettled journal passes Memory = Unit {0}

-- the cause is not a receipt that is missing
abbrev pub IsNotMissing : Unsettled → Type 0
IsNotMissing (Missing r) = ⊥
IsNotMissing (CountDiffers n m) = Unit {0}
IsNotMissing Memory = Unit {0}

-- the journal that was settled is legal
abbrev pub SettlesAll : World → List PassView → Settled → Type 0
SettlesAll base passes s = IsLegal base s.journal.entries × IsSettled s.journal.entries passes s
