-- What `gate run` writes, from what its opening came to.
use Rattle.std.proofs.Common.{◌≡◌, ℕ, List, Option, Some, None, IfSome, Result, Ok, Err, IfOk, IfErr, inl, inr, refl, sym, subst}
use Rattle.gate_core.specs.World.{World}
use Rattle.gate_opening.specs.declared.OpeningFault.{OpeningFault}
use Rattle.gate_opening.specs.declared.OpeningFault.TheVariants.{Line}
use Rattle.gate_opening.specs.declared.OpeningToken.{OpeningToken}
use Rattle.gate_lines.specs.declared.fault.LaneFault.{LaneFault}
use Rattle.gate_lines.specs.declared.fault.LaneFault.TheVariants as faults
use Rattle.gate_run.specs.Refusals.{FaultPrinted, RefusalStopped}
use Rattle.gate_run.specs.GateJobs.{GateRan, TextRan, GateStopped}
use Rattle.gate_run.specs.Lanes.{LaneUnread, StoppedBy}
use Rattle.gate_opening.specs.Openings.{LeavesRest}
use Rattle.gate_opening.specs.Said.{spelled}
use Rattle.gate_run.proofs.Refusals.{opened_as}

gate_refused : (input before after : Option (List ℕ)) (line : ℕ) (token : OpeningToken) (status : ℕ)
    → IfSome input (λ text. spelled text ≡ Err (Line line token)) → FaultPrinted line token before after status → GateRan input before after status
gate_refused None before after line token status h printed = tt
gate_refused (Some text) before after line token status h printed = subst (λ (r : Result World OpeningFault). TextRan text r before after status) (sym h) printed

pub fault_ran : {E : Type 0} (r : Result ℕ E) (input before after : Option (List ℕ)) (line : ℕ) (token : OpeningToken)
    → IfSome input (λ text. spelled text ≡ Err (Line line token)) → IfOk r (λ status. FaultPrinted line token before after status)
    → IfOk r (λ status. GateRan input before after status)
fault_ran (Ok status) input before after line token h printed = gate_refused input before after line token status h printed
fault_ran (Err fault) input before after line token h printed = tt

-- ---- after a fault

pub stopped_in_refusal : {T : Type 0} (r : Result T LaneFault) (input rest before after : Option (List ℕ)) (line : ℕ) (token : OpeningToken)
    → IfSome input (λ text. spelled text ≡ Err (Line line token)) → IfErr r (RefusalStopped line token before after) → IfErr r (GateStopped input rest before after)
stopped_in_refusal (Ok done) input rest before after line token h stopped = tt
stopped_in_refusal (Err faults.Read) input rest before after line token h stopped = absurd stopped
stopped_in_refusal (Err faults.Write) input rest before after line token h stopped = inl (line, token, h, stopped)
stopped_in_refusal (Err faults.Memory) input rest before after line token h stopped = inl stopped

pub stopped_in_lane : (fault : LaneFault) (input middle rest before after : Option (List ℕ)) (state new : World)
    → IfSome input (λ text. spelled text ≡ Ok state) → LeavesRest input middle
    → (fault ≡ faults.Read → LaneUnread middle rest before after state new)
    → (fault ≡ faults.Write → StoppedBy faults.Write 0 middle before after state new)
    → (fault ≡ faults.Memory → StoppedBy faults.Memory 0 middle before after state new)
    → GateStopped input rest before after fault
stopped_in_lane faults.Read input middle rest before after state new opened left unread unwritten memory = inr (middle, state, new, opened_as input middle state opened left, unread refl)
stopped_in_lane faults.Write input middle rest before after state new opened left unread unwritten memory = inr (middle, state, new, opened_as input middle state opened left, unwritten refl)
stopped_in_lane faults.Memory input middle rest before after state new opened left unread unwritten memory = inr (middle, state, new, opened_as input middle state opened left, memory refl)
