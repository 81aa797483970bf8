-- What denied events leave.
use Rattle.std.proofs.Common.{◌≡◌, ℕ, Bool, true, false, if◌then◌else◌, List, [], ◌∷◌, All, Option, Some, None, Result, Ok, Err, refl, ◌∙◌}
use Rattle.std.proofs.lemmas.List.Elements.{All-head, All-tail}
use Rattle.gate_bytes.specs.Order.{first_failing}
use Rattle.gate_tx.specs.Ids.{txid_of}
use Rattle.gate_tx.specs.Tx.{Tx}
use Rattle.gate_rules.specs.declared.Denial.{Denial}
use Rattle.gate_rules.specs.declared.Denial.TheVariants.{MempoolFull}
use Rattle.gate_admit.specs.declared.Attempt.TheVariants.{First}
use Rattle.gate_admit.specs.declared.Grant.{Grant}
use Rattle.gate_admit.specs.Rules.{decision_of}
use Rattle.gate_admit.specs.Submission.{admitted, entry_of, holds, submitted_by, submit_of}
use Rattle.gate_admit.specs.Truc.{sibling_of}
use Rattle.gate_message.specs.declared.event.Event.{Event}
use Rattle.gate_message.specs.declared.event.Event.TheVariants.{Enter, Leave, Tx as Submit, Package, Mempool, GetBlock, Headers, FeeFilter, Rpc, SetFloor, Set as Turn, Chain as OfChain}
use Rattle.gate_rules.specs.declared.PeerDenial.{PeerDenial}
use Rattle.gate_message.specs.declared.reply.Reply.{Reply}
use Rattle.gate_core.specs.World.{World, standing_of}
use Rattle.gate_core.specs.Access.{entering_rules, session_rules, submission_rules, listing_rules, block_rules, headers_rules}
use Rattle.gate_core.specs.PeerSteps.{concluded, decided, answered, entered, left, submitted, listed, block_given, headers_given, filter_set}
use Rattle.gate_core.specs.Steps.{step_of}
use Rattle.gate_core.specs.Runs.{run_of}
use Rattle.gate_core.specs.RpcSteps.{sent, sent_as, told}
use Rattle.gate_rpc.specs.declared.id.Id.{Id}
use Rattle.gate_rpc.specs.Calls.{request_of}
use Rattle.gate_core.proofs.Calls.{call_gives}
use Rattle.gate_core.proofs.Pairs.{pair_gives}
use Rattle.gate_core.proofs.Following.{chain_gives}
use Rattle.gate_core.specs.SessionLaws.{IsDenied}

-- chain, pool and floor are those of another state
abbrev pub IsAsIn : World → World → Type 0
IsAsIn w v = (v.chain ≡ w.chain) × (v.pool ≡ w.pool) × (v.floor ≡ w.floor)

-- what was granted is admitted, or denied by A46
granted_denied : (w : World) (peer : ℕ) (tx : Tx) (grant : Grant) (b : Bool) → IsDenied (decided w peer (Some tx) (if b then Ok grant else Err MempoolFull)).0 → ⊥
granted_denied w peer tx grant true h = h
granted_denied w peer tx grant false h = h refl

concluded_denied : (w : World) (peer now : ℕ) (transaction : Option Tx) (decision : Result Grant Denial)
    → IsDenied (concluded w peer transaction (submitted_by (standing_of w) transaction now w.budget decision)).0
    → IsAsIn w (concluded w peer transaction (submitted_by (standing_of w) transaction now w.budget decision)).1
concluded_denied w peer now None (Ok grant) h = (refl, refl, refl)
concluded_denied w peer now None (Err denial) h = (refl, refl, refl)
concluded_denied w peer now (Some tx) (Err denial) h = (refl, refl, refl)
concluded_denied w peer now (Some tx) (Ok grant) h =
    let after = entry_of w.policy w.budget w.pool (sibling_of First w.policy w.pool tx) w.floor (admitted tx grant now) in
    absurd (granted_denied (record w { pool = after.entries; floor = after.floor }) peer tx grant (holds after.entries (txid_of tx)) h)

submitted_denied : (w : World) (peer now : ℕ) (transaction : Option Tx) → IsDenied (submitted w peer now transaction).0 → IsAsIn w (submitted w peer now transaction).1
unfolding submit_of
submitted_denied w peer now transaction h = concluded_denied w peer now transaction (decision_of First (standing_of w) transaction) h

-- the same of a transaction that a user sends
granted_failed : (w : World) (id : Id) (tx : Tx) (grant : Grant) (b : Bool) → IsDenied (told w id (sent_as (Some tx) (if b then Ok grant else Err MempoolFull))).0 → ⊥
granted_failed w id tx grant true h = h
granted_failed w id tx grant false h = h refl

sent_by_denied : (w : World) (id : Id) (now : ℕ) (transaction : Option Tx) (decision : Result Grant Denial)
    → IsDenied (sent w id transaction (submitted_by (standing_of w) transaction now w.budget decision)).0
    → IsAsIn w (sent w id transaction (submitted_by (standing_of w) transaction now w.budget decision)).1
sent_by_denied w id now None (Ok grant) h = (refl, refl, refl)
sent_by_denied w id now None (Err denial) h = (refl, refl, refl)
sent_by_denied w id now (Some tx) (Err denial) h = (refl, refl, refl)
sent_by_denied w id now (Some tx) (Ok grant) h =
    let after = entry_of w.policy w.budget w.pool (sibling_of First w.policy w.pool tx) w.floor (admitted tx grant now) in
    absurd (granted_failed (record w { pool = after.entries; floor = after.floor }) id tx grant (holds after.entries (txid_of tx)) h)

sent_denied : (w : World) (id : Id) (now : ℕ) (transaction : Option Tx) → IsDenied (sent w id transaction (submit_of (standing_of w) transaction now w.budget)).0
    → IsAsIn w (sent w id transaction (submit_of (standing_of w) transaction now w.budget)).1
unfolding submit_of
sent_denied w id now transaction h = sent_by_denied w id now transaction (decision_of First (standing_of w) transaction) h

answered_denied : (w : World) (peer : ℕ) (served : Reply × World) (denial : Option PeerDenial) → (IsDenied served.0 → IsAsIn w served.1)
    → IsDenied (answered w peer served denial).0 → IsAsIn w (answered w peer served denial).1
answered_denied w peer served (Some denial) done h = (refl, refl, refl)
answered_denied w peer served None done h = done h

step_denied : (w : World) (event : Event) → IsDenied (step_of w event).0 → IsAsIn w (step_of w event).1
unfolding step_of
step_denied w (Enter peer address) h = answered_denied w peer (entered w peer address) (first_failing (entering_rules w.sessions peer)) (λ k. absurd k) h
step_denied w (Leave peer) h = answered_denied w peer (left w peer) (first_failing (session_rules w.sessions peer)) (λ k. absurd k) h
step_denied w (Submit peer now transaction) h =
    answered_denied w peer (submitted w peer now transaction) (first_failing (submission_rules w peer transaction)) (submitted_denied w peer now transaction) h
step_denied w (Package peer now parent child) h =
    pair_gives (λ p. IsDenied p.0 → IsAsIn w p.1) w peer now parent child (λ denial k. (refl, refl, refl)) (λ denial k. (refl, refl, refl)) (λ txs is k. absurd k) h
step_denied w (Mempool peer) h = answered_denied w peer (listed w peer) (first_failing (listing_rules w peer)) (λ k. absurd k) h
step_denied w (GetBlock peer height) h = answered_denied w peer (block_given w height) (first_failing (block_rules w peer height)) (λ k. absurd k) h
step_denied w (Headers peer height) h = answered_denied w peer (headers_given w height) (first_failing (headers_rules w peer height)) (λ k. absurd k) h
step_denied w (FeeFilter peer rate) h = answered_denied w peer (filter_set w peer rate) (first_failing (session_rules w.sessions peer)) (λ k. absurd k) h
step_denied w (Rpc call) h =
    call_gives (λ p. IsDenied p.0 → IsAsIn w p.1) w call.time call.user (request_of call.json) (λ answer k. (refl, refl, refl)) (λ id transaction is k. sent_denied w id call.time transaction k) (λ id offer is k. absurd k) h
step_denied w (SetFloor rate) h = absurd h
step_denied w (Turn switch on) h = absurd h
step_denied w (OfChain event) h =
    chain_gives (λ p. IsDenied p.0 → IsAsIn w p.1) w event (λ denial k. (refl, refl, refl)) (λ disconnect now blocks is passes k. absurd k) (λ coin passes k. absurd k) (λ row k. absurd k) (λ blocks k. absurd k) h

pub run_denied : (events : List Event) (w : World) → All IsDenied (run_of w events).0 → IsAsIn w (run_of w events).1
run_denied [] w h = (refl, refl, refl)
run_denied (event ∷ events) w h =
    let first = step_denied w event (All-head IsDenied (step_of w event).0 (run_of (step_of w event).1 events).0 h) in
    let rest = run_denied events (step_of w event).1 (All-tail IsDenied (step_of w event).0 (run_of (step_of w event).1 events).0 h) in
    (rest.0 ∙ first.0, rest.1 ∙ first.1, rest.2 ∙ first.2)
