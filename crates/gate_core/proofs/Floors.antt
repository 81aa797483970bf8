-- The budget, the floor and the age of entries along a run.
use Rattle.std.proofs.Common.{◌≡◌, ◌≢◌, ◌≤◌, ℕ, List, [], ◌∷◌, All, Option, Some, None, Result, Ok, Err, refl, sym, ap, subst, arith}
use Rattle.std.proofs.lemmas.List.Elements.{All-head, All-tail}
use Rattle.gate_bytes.specs.Order.{first_failing}
use Rattle.gate_tx.specs.Tx.{Tx}
use Rattle.gate_rules.specs.declared.Denial.{Denial}
use Rattle.gate_pool.specs.Pool.{Admitted as Entry, size_of}
use Rattle.gate_trim.specs.Expiry.{expired}
use Rattle.gate_pool.specs.Counting.{entered_beside}
use Rattle.gate_trim.proofs.Trimmings.{trim_within}
use Rattle.gate_admit.specs.Good.{Limits}
use Rattle.gate_admit.specs.declared.Attempt.TheVariants.{First}
use Rattle.gate_admit.specs.Rules.{decision_of}
use Rattle.gate_admit.specs.Standing.{Standing}
use Rattle.gate_admit.specs.declared.Grant.{Grant}
use Rattle.gate_admit.specs.Submission.{admitted, entry_of, submitted_by, submit_of}
use Rattle.gate_admit.specs.Truc.{sibling_of}
use Rattle.gate_admit.proofs.Submissions.{AreYoung, granted_young, submission_floor}
use Rattle.gate_package.specs.Shapes.{members_of}
use Rattle.gate_package.proofs.Landing.{package_rises, package_within}
use Rattle.gate_submission.specs.Blocks.{present}
use Rattle.gate_reorg.proofs.Origins.{floors_never_fall}
use Rattle.gate_reorg.proofs.Spending.{events_keep_the_budget}
use Rattle.gate_message.specs.declared.caller.Caller.TheVariants.{Operator}
use Rattle.gate_message.specs.declared.event.Event.{Event}
use Rattle.gate_message.specs.declared.event.Event.TheVariants.{Enter, Leave, Tx as Submit, Package, Mempool, GetBlock, Headers, FeeFilter, Rpc, SetFloor, Set as Turn, Chain as OfChain}
use Rattle.gate_rules.specs.declared.PeerDenial.{PeerDenial}
use Rattle.gate_message.specs.declared.reply.Reply.{Reply}
use Rattle.gate_message.specs.declared.reply.Reply.TheVariants.{Admitted}
use Rattle.gate_core.specs.Access.{entering_rules, session_rules, submission_rules, listing_rules, block_rules, headers_rules}
use Rattle.gate_message.specs.Callers.{caller_of}
use Rattle.gate_core.specs.Opening.{Start}
use Rattle.gate_core.specs.PeerSteps.{decided, answered, entered, left, submitted, listed, block_given, headers_given, filter_set}
use Rattle.gate_core.specs.Runs.{run_of}
use Rattle.gate_core.specs.Steps.{step_of}
use Rattle.gate_core.specs.World.{World, opened_world, standing_of}
use Rattle.gate_rpc.specs.Calls.{request_of}
use Rattle.gate_core.proofs.Calls.{call_gives}
use Rattle.gate_core.proofs.Pairs.{pair_gives}
use Rattle.gate_core.proofs.Following.{chain_gives}
use Rattle.gate_core.proofs.Running.{run_same_limits}

-- ---- the budget

-- the entries are within the budget
abbrev IsWithin : World → Type 0
IsWithin w = size_of w.pool ≤ w.budget

same_within : (w v : World) → v.pool ≡ w.pool → v.budget ≡ w.budget → IsWithin w → IsWithin v
same_within w v p b h = subst (λ (n : ℕ). size_of v.pool ≤ n) (sym b) (subst (λ (l : List Entry). size_of l ≤ w.budget) (sym p) h)

submission_within : (over : Standing) (transaction : Option Tx) (now budget : ℕ) (decision : Result Grant Denial) → size_of over.entries ≤ budget → size_of (submitted_by over transaction now budget decision).entries ≤ budget
unfolding entry_of
submission_within over transaction now budget (Err denial) h = h
submission_within over None now budget (Ok grant) h = h
submission_within over (Some tx) now budget (Ok grant) h = let e = admitted tx grant now in trim_within over.policy.incremental_rate budget (expired over.policy.stay e.time (entered_beside over.entries (sibling_of First over.policy over.entries tx) e)) over.floor

after_within : (w : World) (now : ℕ) (transaction : Option Tx) → IsWithin w → size_of (submit_of (standing_of w) transaction now w.budget).entries ≤ w.budget
unfolding submit_of
after_within w now transaction h = submission_within (standing_of w) transaction now w.budget (decision_of First (standing_of w) transaction) h

decided_within : (w : World) (peer : ℕ) (transaction : Option Tx) (decision : Result Grant Denial) → IsWithin w → IsWithin (decided w peer transaction decision).1
decided_within w peer None decision h = h
decided_within w peer (Some tx) (Ok grant) h = h
decided_within w peer (Some tx) (Err denial) h = h

answered_within : (w : World) (peer : ℕ) (served : Reply × World) (denial : Option PeerDenial) → IsWithin w → IsWithin served.1 → IsWithin (answered w peer served denial).1
answered_within w peer served (Some denial) h done = h
answered_within w peer served None h done = done

step_within : (w : World) (event : Event) → IsWithin w → IsWithin (step_of w event).1
unfolding step_of
step_within w (Enter peer address) h = answered_within w peer (entered w peer address) (first_failing (entering_rules w.sessions peer)) h h
step_within w (Leave peer) h = answered_within w peer (left w peer) (first_failing (session_rules w.sessions peer)) h h
step_within w (Submit peer now transaction) h =
    let s = submit_of (standing_of w) transaction now w.budget in
    answered_within w peer (submitted w peer now transaction) (first_failing (submission_rules w peer transaction)) h
    (decided_within (record w { pool = s.entries; floor = s.floor }) peer transaction s.decision (after_within w now transaction h))
step_within w (Package peer now parent child) h =
    pair_gives (λ p. IsWithin p.1) w peer now parent child (λ denial. h) (λ denial. h) (λ txs is. package_within 0 (standing_of w) txs now w.budget h)
step_within w (Mempool peer) h = answered_within w peer (listed w peer) (first_failing (listing_rules w peer)) h h
step_within w (GetBlock peer height) h = answered_within w peer (block_given w height) (first_failing (block_rules w peer height)) h h
step_within w (Headers peer height) h = answered_within w peer (headers_given w height) (first_failing (headers_rules w peer height)) h h
step_within w (FeeFilter peer rate) h = answered_within w peer (filter_set w peer rate) (first_failing (session_rules w.sessions peer)) h h
step_within w (Rpc call) h =
    call_gives (λ p. IsWithin p.1) w call.time call.user (request_of call.json) (λ answer. h) (λ id transaction is. after_within w call.time transaction h)
    (λ id offer is. package_within offer.max_rate (standing_of w) (members_of offer.members) call.time w.budget h)
step_within w (SetFloor rate) h = h
step_within w (Turn switch on) h = h
step_within w (OfChain event) h =
    chain_gives (λ p. IsWithin p.1) w event (λ denial. h) (λ disconnect now blocks is passes. events_keep_the_budget (standing_of w) disconnect (present blocks) now w.budget h) (λ coin passes. h) (λ row. h) (λ blocks. h)

run_within : (events : List Event) (w : World) → IsWithin w → IsWithin (run_of w events).1
run_within [] w h = h
run_within (event ∷ events) w h = run_within events (step_of w event).1 (step_within w event h)

pub run_budget : (o : Start) (events : List Event) → size_of (run_of (opened_world o) events).1.pool ≤ o.budget
run_budget o events = subst (λ (n : ℕ). size_of (run_of (opened_world o) events).1.pool ≤ n) (ap (λ (l : Limits). l.budget) (run_same_limits events (opened_world o))) (run_within events (opened_world o) (omega arith))

-- ---- the floor

decided_floor : (w : World) (peer : ℕ) (transaction : Option Tx) (decision : Result Grant Denial) → (decided w peer transaction decision).1.floor ≡ w.floor
decided_floor w peer None decision = refl
decided_floor w peer (Some tx) (Ok grant) = refl
decided_floor w peer (Some tx) (Err denial) = refl

answered_floor : (w : World) (peer : ℕ) (served : Reply × World) (denial : Option PeerDenial) → w.floor ≤ served.1.floor → w.floor ≤ (answered w peer served denial).1.floor
answered_floor w peer served (Some denial) h = omega arith
answered_floor w peer served None h = h

submitted_floor : (w : World) (peer now : ℕ) (transaction : Option Tx) → w.floor ≤ (submitted w peer now transaction).1.floor
submitted_floor w peer now transaction =
    let s = submit_of (standing_of w) transaction now w.budget in
    omega (arith, submission_floor (standing_of w) transaction now w.budget, decided_floor (record w { pool = s.entries; floor = s.floor }) peer transaction s.decision)

step_floor : (w : World) (event : Event) → caller_of event ≢ Operator → w.floor ≤ (step_of w event).1.floor
unfolding step_of
step_floor w (Enter peer address) h = answered_floor w peer (entered w peer address) (first_failing (entering_rules w.sessions peer)) (omega arith)
step_floor w (Leave peer) h = answered_floor w peer (left w peer) (first_failing (session_rules w.sessions peer)) (omega arith)
step_floor w (Submit peer now transaction) h = answered_floor w peer (submitted w peer now transaction) (first_failing (submission_rules w peer transaction)) (submitted_floor w peer now transaction)
step_floor w (Package peer now parent child) h =
    pair_gives (λ p. w.floor ≤ p.1.floor) w peer now parent child (λ denial. omega arith) (λ denial. omega arith) (λ txs is. package_rises 0 (standing_of w) txs now w.budget)
step_floor w (Mempool peer) h = answered_floor w peer (listed w peer) (first_failing (listing_rules w peer)) (omega arith)
step_floor w (GetBlock peer height) h = answered_floor w peer (block_given w height) (first_failing (block_rules w peer height)) (omega arith)
step_floor w (Headers peer height) h = answered_floor w peer (headers_given w height) (first_failing (headers_rules w peer height)) (omega arith)
step_floor w (FeeFilter peer rate) h = answered_floor w peer (filter_set w peer rate) (first_failing (session_rules w.sessions peer)) (omega arith)
step_floor w (Rpc call) h =
    call_gives (λ p. w.floor ≤ p.1.floor) w call.time call.user (request_of call.json) (λ answer. omega arith) (λ id transaction is. submission_floor (standing_of w) transaction call.time w.budget)
    (λ id offer is. package_rises offer.max_rate (standing_of w) (members_of offer.members) call.time w.budget)
step_floor w (SetFloor rate) h = absurd (h refl)
step_floor w (Turn switch on) h = absurd (h refl)
step_floor w (OfChain event) h =
    chain_gives (λ p. w.floor ≤ p.1.floor) w event (λ denial. omega arith) (λ disconnect now blocks is passes. floors_never_fall (standing_of w) disconnect (present blocks) now w.budget)
    (λ coin passes. omega arith) (λ row. omega arith) (λ blocks. omega arith)

pub run_floor : (events : List Event) (w : World) → All (λ (e : Event). caller_of e ≢ Operator) events → w.floor ≤ (run_of w events).1.floor
run_floor [] w others = omega arith
run_floor (event ∷ events) w others =
    omega (
      arith,
      step_floor w event (All-head (λ (e : Event). caller_of e ≢ Operator) event events others),
      run_floor events (step_of w event).1 (All-tail (λ (e : Event). caller_of e ≢ Operator) event events others),
    )

-- ---- the age of entries

submitted_young : (w : World) (peer now : ℕ) (transaction : Option Tx) (txid : List ℕ) (fee vsize replaced : ℕ) → (submitted w peer now transaction).0 ≡ Admitted txid fee vsize replaced
    → AreYoung w.policy.stay now (submitted w peer now transaction).1.pool
submitted_young w peer now None txid fee vsize replaced h = cc
submitted_young w peer now (Some tx) txid fee vsize replaced h = go (submit_of (standing_of w) (Some tx) now w.budget).decision refl h
  where
    after : World
    after = let s = submit_of (standing_of w) (Some tx) now w.budget in record w { pool = s.entries; floor = s.floor }

    go : (decision : Result Grant Denial) → (submit_of (standing_of w) (Some tx) now w.budget).decision ≡ decision → (decided after peer (Some tx) decision).0 ≡ Admitted txid fee vsize replaced
        → AreYoung w.policy.stay now (decided after peer (Some tx) decision).1.pool
    go (Ok grant) d k = granted_young (standing_of w) tx now w.budget grant d
    go (Err denial) d k = cc

pub admitted_young : (w : World) (peer now : ℕ) (transaction : Option Tx) (txid : List ℕ) (fee vsize replaced : ℕ) → (step_of w (Submit peer now transaction)).0 ≡ Admitted txid fee vsize replaced
    → AreYoung w.policy.stay now (step_of w (Submit peer now transaction)).1.pool
unfolding step_of
admitted_young w peer now transaction txid fee vsize replaced h = go (first_failing (submission_rules w peer transaction)) h
  where
    go : (denial : Option PeerDenial) → (answered w peer (submitted w peer now transaction) denial).0 ≡ Admitted txid fee vsize replaced → AreYoung w.policy.stay now (answered w peer (submitted w peer now transaction) denial).1.pool
    go (Some denial) k = cc
    go None k = submitted_young w peer now transaction txid fee vsize replaced k
