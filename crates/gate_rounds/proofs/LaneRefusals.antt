-- Lanes whose opening is refused, and an input that is not divided into rounds.
use Rattle.std.proofs.Common.{◌≡◌, ℕ, Bool, List, [], Option, Some, None, IfSome, Result, Ok, Err, IfOk, IfErr, IsErrOf, inl, refl, sym, subst, arith}
use Rattle.std.specs.Io.KnownBytes.{Appends}
use Rattle.gate_core.specs.World.{World}
use Rattle.gate_split.specs.Parts.{HasTooManyLanes, IsIllFormed}
use Rattle.gate_split.specs.declared.fault.SplitFault.{SplitFault}
use Rattle.gate_split.specs.declared.fault.SplitFault.TheVariants as split
use Rattle.gate_lines.specs.declared.fault.LaneFault.{LaneFault}
use Rattle.gate_lines.specs.declared.fault.LaneFault.TheVariants as faults
use Rattle.gate_opening.specs.declared.OpeningFault.{OpeningFault}
use Rattle.gate_opening.specs.declared.OpeningFault.TheVariants.{Line}
use Rattle.gate_opening.specs.declared.OpeningToken.{OpeningToken}
use Rattle.gate_opening.specs.Said.{spelled}
use Rattle.gate_rounds.specs.LaneJobs.{InputStopped, IsUnreadable, lane_fault_of, LanesDone, LanesPrinted, LanesStopped}
use Rattle.gate_run.specs.Refusals.{FaultPrinted, RefusalStopped}

lanes_refused : (journal : Bool) (input before after : Option (List ℕ)) (line : ℕ) (token : OpeningToken) (status : ℕ)
    → IfSome input (λ text. spelled text ≡ Err (Line line token)) → FaultPrinted line token before after status → LanesPrinted journal input before after status
lanes_refused journal None before after line token status h printed = tt
lanes_refused journal (Some text) before after line token status h printed = subst (λ (r : Result World OpeningFault). LanesDone journal text r before after status) (sym h) printed

pub refused_lanes : {E : Type 0} (journal : Bool) (r : Result ℕ E) (input before after : Option (List ℕ)) (line : ℕ) (token : OpeningToken)
    → IfSome input (λ text. spelled text ≡ Err (Line line token)) → IfOk r (λ status. FaultPrinted line token before after status)
    → IfOk r (λ status. LanesPrinted journal input before after status)
refused_lanes journal (Ok status) input before after line token h printed = lanes_refused journal input before after line token status h printed
refused_lanes journal (Err fault) input before after line token h printed = tt

pub lanes_stopped_in_refusal : {T : Type 0} (journal : Bool) (r : Result T LaneFault) (input rest before after : Option (List ℕ)) (line : ℕ) (token : OpeningToken)
    → IfSome input (λ text. spelled text ≡ Err (Line line token)) → IfErr r (RefusalStopped line token before after) → IfErr r (LanesStopped journal input rest before after)
lanes_stopped_in_refusal journal (Ok done) input rest before after line token h stopped = tt
lanes_stopped_in_refusal journal (Err faults.Read) input rest before after line token h stopped = absurd stopped
lanes_stopped_in_refusal journal (Err faults.Write) input rest before after line token h stopped = inl (line, token, h, stopped)
lanes_stopped_in_refusal journal (Err faults.Memory) input rest before after line token h stopped = inl stopped

-- ---- an input that is not divided into rounds

-- no lane was run, and nothing was written
pub unrun : (fault : SplitFault) (journal : Bool) (w : World) (input before after : Option (List ℕ)) → Appends before after []
    → InputStopped journal w input before after (lane_fault_of fault)
unrun split.Read journal w input before after kept = kept
unrun split.TooManyLanes journal w input before after kept = kept
unrun split.Memory journal w input before after kept = inl kept

too_many : (input : Option (List ℕ)) → HasTooManyLanes input → IsUnreadable input
too_many None many = tt
too_many (Some text) many = λ readable. omega (arith, readable.lanes, many)

ill_formed : (input : Option (List ℕ)) → IsIllFormed input → IsUnreadable input
ill_formed None ill = tt
ill_formed (Some text) ill = λ readable. ill readable.form

pub fault_is : (T : Type 0) (a b : LaneFault) → IsErrOf {T = T} (Err a) b → a ≡ b
fault_is T a b h = cc

-- a reader in memory that is read badly holds an input that is not one of rounds within the limits
pub unparted : (fault : SplitFault) (input : Option (List ℕ)) → (fault ≡ split.TooManyLanes → HasTooManyLanes input) → (fault ≡ split.Read → IsIllFormed input)
    → lane_fault_of fault ≡ faults.Read → IsUnreadable input
unparted split.Read input many past is = ill_formed input (past refl)
unparted split.TooManyLanes input many past is = too_many input (many refl)
unparted split.Memory input many past is = cc
