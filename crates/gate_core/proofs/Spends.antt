-- No outpoint is spent twice along a run, whatever the blocks are.
use Rattle.std.proofs.Common.{◌≡◌, ℕ, List, [], ◌∷◌, Option, Some, None, Result, Ok, Err, not}
use Rattle.gate_bytes.specs.Order.{first_failing}
use Rattle.gate_tx.specs.Ids.{txid_of}
use Rattle.gate_tx.specs.Tx.{Tx}
use Rattle.gate_rules.specs.declared.Denial.{Denial}
use Rattle.gate_graph.specs.Family.{reaches}
use Rattle.gate_pool.specs.Pool.{Admitted as Entry}
use Rattle.gate_pool.specs.Counting.{entered_beside}
use Rattle.gate_pool.specs.Family.{steps}
use Rattle.gate_trim.specs.Expiry.{expired, is_stale}
use Rattle.gate_trim.proofs.Trimmings.{trim_keeps}
use Rattle.gate_admit.specs.declared.Attempt.TheVariants.{First}
use Rattle.gate_admit.specs.declared.Grant.{Grant}
use Rattle.gate_admit.specs.Rules.{decision_of, grant_of}
use Rattle.gate_admit.specs.Policies.{Policy}
use Rattle.gate_admit.specs.Standing.{Standing}
use Rattle.gate_admit.specs.Submission.{admitted, entry_of, submitted_by, submit_of}
use Rattle.gate_admit.specs.Truc.{sibling_of}
use Rattle.gate_admit.proofs.Granted.{decided_live, rules_grant}
use Rattle.gate_submission.specs.Blocks.{present}
use Rattle.gate_package.specs.Packages.{packaged_of, sibling_in}
use Rattle.gate_package.specs.Shapes.{members_of}
use Rattle.gate_package.proofs.Keeping.{package_keeps}
use Rattle.gate_package.proofs.Membership.{among, course_keeps}
use Rattle.gate_package.proofs.Once.{together_once}
use Rattle.gate_reorg.proofs.Spending.{SpendOnce, below_once, beside_once, events_spend_once, part_once}
use Rattle.gate_message.specs.declared.event.Event.{Event}
use Rattle.gate_message.specs.declared.event.Event.TheVariants.{Enter, Leave, Tx as Submit, Package, Mempool, GetBlock, Headers, FeeFilter, Rpc, SetFloor, Set as Turn, Chain as OfChain}
use Rattle.gate_rules.specs.declared.PeerDenial.{PeerDenial}
use Rattle.gate_message.specs.declared.reply.Reply.{Reply}
use Rattle.gate_core.specs.Access.{entering_rules, session_rules, submission_rules, listing_rules, block_rules, headers_rules}
use Rattle.gate_core.specs.PeerSteps.{decided, answered, entered, left, submitted, listed, block_given, headers_given, filter_set}
use Rattle.gate_core.specs.Runs.{run_of}
use Rattle.gate_core.specs.Steps.{step_of}
use Rattle.gate_core.specs.World.{World, standing_of}
use Rattle.gate_rpc.specs.Calls.{request_of}
use Rattle.gate_core.proofs.Calls.{call_gives}
use Rattle.gate_core.proofs.Pairs.{pair_gives}
use Rattle.gate_core.proofs.Following.{chain_gives}

entry_once : (policy : Policy) (budget : ℕ) (entries : List Entry) (sibling : Option (List ℕ)) (floor : ℕ) (e : Entry) → SpendOnce (entered_beside entries sibling e) → SpendOnce (entry_of policy budget entries sibling floor e).entries
unfolding entry_of
entry_once policy budget entries sibling floor e h =
    trim_keeps SpendOnce (λ l txid. part_once (λ (a : Entry). not (reaches (steps l) txid (txid_of a.tx))) l) policy.incremental_rate budget (expired policy.stay e.time (entered_beside entries sibling e)) floor
    (below_once (is_stale policy.stay e.time) (entered_beside entries sibling e) h)

submission_once : (over : Standing) (transaction : Option Tx) (now budget : ℕ) (decision : Result Grant Denial) → decision_of First over transaction ≡ decision → SpendOnce over.entries
    → SpendOnce (submitted_by over transaction now budget decision).entries
submission_once over transaction now budget (Err denial) is h = h
submission_once over None now budget (Ok grant) is h = h
submission_once over (Some tx) now budget (Ok grant) is h = entry_once over.policy budget over.entries (sibling_of First over.policy over.entries tx) over.floor (admitted tx grant now)
    (beside_once over (sibling_of First over.policy over.entries tx) tx grant now (decided_live First over tx grant is) h)

after_once : (w : World) (now : ℕ) (transaction : Option Tx) → SpendOnce w.pool → SpendOnce (submit_of (standing_of w) transaction now w.budget).entries
unfolding submit_of
after_once w now transaction h = submission_once (standing_of w) transaction now w.budget (decision_of First (standing_of w) transaction) (λ _. decision_of First (standing_of w) transaction) h

-- the members of a package, one by one and those together, spend nothing that an entry spends which stays
package_once : (w : World) (now max_rate : ℕ) (txs : List Tx) → SpendOnce w.pool → SpendOnce (packaged_of max_rate (standing_of w) txs now w.budget).entries
package_once w now max_rate txs h =
    let over = standing_of w in
    package_keeps SpendOnce max_rate over now txs
    (λ entries these prices is distinct apart within once. together_once max_rate (among over entries) now these prices is distinct apart once)
    below_once w.budget (λ entries txid once. part_once (λ (a : Entry). not (reaches (steps entries) txid (txid_of a.tx))) entries once)
    (course_keeps SpendOnce (λ tx. Unit {0}) max_rate over now
    (λ entries tx told passes once. beside_once (among over entries) (sibling_in (among over entries) tx) tx (grant_of First (among over entries) tx) now (rules_grant First (among over entries) tx passes) once) w.pool txs (λ tx m. tt))
    h

decided_once : (w : World) (peer : ℕ) (transaction : Option Tx) (decision : Result Grant Denial) → SpendOnce w.pool → SpendOnce (decided w peer transaction decision).1.pool
decided_once w peer None decision h = h
decided_once w peer (Some tx) (Ok grant) h = h
decided_once w peer (Some tx) (Err denial) h = h

answered_once : (w : World) (peer : ℕ) (served : Reply × World) (denial : Option PeerDenial) → SpendOnce w.pool → SpendOnce served.1.pool → SpendOnce (answered w peer served denial).1.pool
answered_once w peer served (Some denial) h done = h
answered_once w peer served None h done = done

step_once : (w : World) (event : Event) → SpendOnce w.pool → SpendOnce (step_of w event).1.pool
unfolding step_of
step_once w (Enter peer address) h = answered_once w peer (entered w peer address) (first_failing (entering_rules w.sessions peer)) h h
step_once w (Leave peer) h = answered_once w peer (left w peer) (first_failing (session_rules w.sessions peer)) h h
step_once w (Submit peer now transaction) h =
    let s = submit_of (standing_of w) transaction now w.budget in
    answered_once w peer (submitted w peer now transaction) (first_failing (submission_rules w peer transaction)) h
    (decided_once (record w { pool = s.entries; floor = s.floor }) peer transaction s.decision (after_once w now transaction h))
step_once w (Package peer now parent child) h =
    pair_gives (λ p. SpendOnce p.1.pool) w peer now parent child (λ denial. h) (λ denial. h) (λ txs is. package_once w now 0 txs h)
step_once w (Mempool peer) h = answered_once w peer (listed w peer) (first_failing (listing_rules w peer)) h h
step_once w (GetBlock peer height) h = answered_once w peer (block_given w height) (first_failing (block_rules w peer height)) h h
step_once w (Headers peer height) h = answered_once w peer (headers_given w height) (first_failing (headers_rules w peer height)) h h
step_once w (FeeFilter peer rate) h = answered_once w peer (filter_set w peer rate) (first_failing (session_rules w.sessions peer)) h h
step_once w (Rpc call) h =
    call_gives (λ p. SpendOnce p.1.pool) w call.time call.user (request_of call.json) (λ answer. h) (λ id transaction is. after_once w call.time transaction h) (λ id given is. package_once w call.time given.max_rate (members_of given.members) h)
step_once w (SetFloor rate) h = h
step_once w (Turn switch on) h = h
step_once w (OfChain event) h =
    chain_gives (λ p. SpendOnce p.1.pool) w event (λ denial. h) (λ disconnect now blocks is passes. events_spend_once (standing_of w) disconnect (present blocks) now w.budget h) (λ coin passes. h) (λ row. h) (λ blocks. h)

pub run_once : (events : List Event) (w : World) → SpendOnce w.pool → SpendOnce (run_of w events).1.pool
run_once [] w h = h
run_once (event ∷ events) w h = run_once events (step_of w event).1 (step_once w event h)
