-- What the chain's caller changes, and what it leaves.
use Rattle.std.proofs.Common.{◌≡◌, ℕ, Option, Some, None, Result, Ok, Err, refl, ap, ◌∙◌}
use Rattle.gate_bytes.specs.Order.{first_failing}
use Rattle.gate_tx.specs.Tx.{Tx}
use Rattle.gate_rules.specs.declared.Denial.{Denial}
use Rattle.gate_chain.specs.Forgetting.{forget_denial}
use Rattle.gate_rules.specs.declared.ChainDenial.{ChainDenial}
use Rattle.gate_admit.specs.declared.Attempt.TheVariants.{First}
use Rattle.gate_admit.specs.declared.Grant.{Grant}
use Rattle.gate_admit.specs.Rules.{decision_of}
use Rattle.gate_admit.specs.Submission.{Submitted, submit_of}
use Rattle.gate_admit.specs.Verdicts.{row_rules}
use Rattle.gate_rules.specs.declared.PeerDenial.{PeerDenial}
use Rattle.gate_rules.specs.declared.PeerDenial.TheVariants.{Admission}
use Rattle.gate_message.specs.declared.event.Event.TheVariants.{Enter, Leave, Tx as Submit, Package, Mempool, GetBlock, Headers, FeeFilter, Rpc, SetFloor, Set as Turn, Chain as OfChain}
use Rattle.gate_message.specs.declared.reply.Reply.{Reply}
use Rattle.gate_message.specs.declared.reply.Reply.TheVariants.{Denied}
use Rattle.gate_rpc.specs.Calls.{request_of}
use Rattle.gate_core.specs.Access.{entering_rules, session_rules, submission_rules, listing_rules, block_rules, headers_rules}
use Rattle.gate_core.specs.ChainLaws.{AsksTheSame, ForgettingChangesNoAnswer, LearningLeavesTheRest, OthersLeaveTheChain, apart_from_chain}
use Rattle.gate_core.specs.ChainSteps.{coin_rules, forgetting, forgotten_as, is_spent_by_some, learnt_as, with_coin, with_verdict}
use Rattle.gate_core.specs.PeerSteps.{answered, block_given, concluded, decided, entered, filter_set, headers_given, left, listed, submission_step, submitted, then_under}
use Rattle.gate_core.specs.Sessions.{flags_in}
use Rattle.gate_core.specs.Steps.{step_of}
use Rattle.gate_core.specs.World.{World, standing_of}
use Rattle.gate_core.proofs.Calls.{call_gives}
use Rattle.gate_core.proofs.Pairs.{pair_gives}
use Rattle.gate_core.proofs.Forgetting.{times_same}
use Rattle.gate_core.proofs.SameAnswers.{decision_same, outcome_same}

-- ---- other callers

-- chain and verdicts are those of another state
abbrev KnowsAs : World → World → Type 0
KnowsAs w v = (v.chain ≡ w.chain) × (v.verdicts ≡ w.verdicts)

decided_knows : (w v : World) (peer : ℕ) (transaction : Option Tx) (decision : Result Grant Denial) → KnowsAs w v → KnowsAs w (decided v peer transaction decision).1
decided_knows w v peer None decision h = h
decided_knows w v peer (Some tx) (Ok grant) h = h
decided_knows w v peer (Some tx) (Err denial) h = h

answered_knows : (w : World) (peer : ℕ) (served : Reply × World) (denial : Option PeerDenial) → KnowsAs w served.1 → KnowsAs w (answered w peer served denial).1
answered_knows w peer served (Some denial) h = (refl, refl)
answered_knows w peer served None h = h

pub others_leave_the_chain : OthersLeaveTheChain
unfolding step_of
others_leave_the_chain w (Enter peer address) h = answered_knows w peer (entered w peer address) (first_failing (entering_rules w.sessions peer)) (refl, refl)
others_leave_the_chain w (Leave peer) h = answered_knows w peer (left w peer) (first_failing (session_rules w.sessions peer)) (refl, refl)
others_leave_the_chain w (Submit peer now transaction) h =
    let s = submit_of (standing_of w) transaction now w.budget in
    answered_knows w peer (submitted w peer now transaction) (first_failing (submission_rules w peer transaction))
    (decided_knows w (record w { pool = s.entries; floor = s.floor }) peer transaction s.decision (refl, refl))
others_leave_the_chain w (Package peer now parent child) h = pair_gives (λ p. KnowsAs w p.1) w peer now parent child (λ denial. (refl, refl)) (λ denial. (refl, refl)) (λ txs is. (refl, refl))
others_leave_the_chain w (Mempool peer) h = answered_knows w peer (listed w peer) (first_failing (listing_rules w peer)) (refl, refl)
others_leave_the_chain w (GetBlock peer height) h = answered_knows w peer (block_given w height) (first_failing (block_rules w peer height)) (refl, refl)
others_leave_the_chain w (Headers peer height) h = answered_knows w peer (headers_given w height) (first_failing (headers_rules w peer height)) (refl, refl)
others_leave_the_chain w (FeeFilter peer rate) h = answered_knows w peer (filter_set w peer rate) (first_failing (session_rules w.sessions peer)) (refl, refl)
others_leave_the_chain w (Rpc call) h = call_gives (λ p. KnowsAs w p.1) w call.time call.user (request_of call.json) (λ answer. (refl, refl)) (λ id transaction is. (refl, refl)) (λ id call is. (refl, refl))
others_leave_the_chain w (SetFloor rate) h = (refl, refl)
others_leave_the_chain w (Turn switch on) h = (refl, refl)
others_leave_the_chain w (OfChain event) h = absurd (h refl)

-- ---- what is learnt and forgotten

learnt_rest : (w after : World) (denial : Option ChainDenial) → after ≡ apart_from_chain w after → (learnt_as w after denial).1 ≡ apart_from_chain w (learnt_as w after denial).1
learnt_rest w after (Some denial) h = refl
learnt_rest w after None h = h

forgotten_rest : (w : World) (n : ℕ) (denial : Option ChainDenial) → (forgotten_as w n denial).1 ≡ apart_from_chain w (forgotten_as w n denial).1
forgotten_rest w n (Some denial) = refl
forgotten_rest w n None = refl

pub learning_leaves_the_rest : LearningLeavesTheRest
unfolding step_of
learning_leaves_the_rest = record {
  coins = λ w coin. learnt_rest w (with_coin w coin) (first_failing (coin_rules w coin)) refl;
  verdicts = λ w row. learnt_rest w (with_verdict w row) (first_failing (row_rules w.verdicts row)) refl;
  forgetting = λ w blocks. forgotten_rest w blocks (forget_denial w.chain blocks);
}

-- ---- answers after forgetting

decision_after : (w : World) (n : ℕ) (denial : Option ChainDenial) (tx : Tx) → AsksTheSame w (forgotten_as w n denial).1 tx
    → decision_of First (standing_of (forgotten_as w n denial).1) (Some tx) ≡ decision_of First (standing_of w) (Some tx)
decision_after w n (Some denial) tx asks = refl
decision_after w n None tx asks =
    decision_same w.chain (forgetting w n).chain w.pool w.floor w.verdicts (forgetting w n).verdicts w.policy tx refl (times_same w.chain n (is_spent_by_some w.pool))
    asks.coins asks.verdicts asks.opened asks.outputs First

outcome_after : (w : World) (n now : ℕ) (denial : Option ChainDenial) (tx : Tx) → AsksTheSame w (forgotten_as w n denial).1 tx
    → submit_of (standing_of (forgotten_as w n denial).1) (Some tx) now w.budget ≡ submit_of (standing_of w) (Some tx) now w.budget
outcome_after w n now (Some denial) tx asks = refl
outcome_after w n now None tx asks =
    outcome_same w.chain (forgetting w n).chain w.pool w.floor w.verdicts (forgetting w n).verdicts w.policy tx refl (times_same w.chain n (is_spent_by_some w.pool))
    asks.coins asks.verdicts asks.opened asks.outputs now w.budget

-- the reply to a peer shows nothing of chain and verdicts but by the outcome
decided_reply : (w v : World) (peer : ℕ) (tx : Tx) (decision : Result Grant Denial) → v.policy ≡ w.policy → v.sessions ≡ w.sessions → (decided v peer (Some tx) decision).0 ≡ (decided w peer (Some tx) decision).0
decided_reply w v peer tx (Ok grant) policy sessions = refl
decided_reply w v peer tx (Err denial) policy sessions = λ i. Denied (Admission denial) (then_under (policy i) (flags_in (sessions i) peer) (Admission denial))

answered_reply : (w : World) (n peer : ℕ) (served other : Reply × World) (denial : Option PeerDenial) → other.0 ≡ served.0 → (answered (forgetting w n) peer other denial).0 ≡ (answered w peer served denial).0
answered_reply w n peer served other (Some denial) same = refl
answered_reply w n peer served other None same = same

reply_after : (w : World) (n peer now : ℕ) (denial : Option ChainDenial) (tx : Tx) → AsksTheSame w (forgotten_as w n denial).1 tx
    → (submission_step (forgotten_as w n denial).1 peer now (Some tx)).0 ≡ (submission_step w peer now (Some tx)).0
reply_after w n peer now (Some denial) tx asks = refl
reply_after w n peer now None tx asks =
    let s = submit_of (standing_of w) (Some tx) now w.budget in
    answered_reply w n peer (submitted w peer now (Some tx)) (submitted (forgetting w n) peer now (Some tx)) (first_failing (submission_rules w peer (Some tx)))
    (ap (λ (t : Submitted). (concluded (forgetting w n) peer (Some tx) t).0) (outcome_after w n now None tx asks)
    ∙ decided_reply (record w { pool = s.entries; floor = s.floor }) (record (forgetting w n) { pool = s.entries; floor = s.floor }) peer tx s.decision refl refl)

pub forgetting_changes_no_answer : ForgettingChangesNoAnswer
unfolding step_of
forgetting_changes_no_answer = record {
  decision = λ w blocks tx asks. decision_after w blocks (forget_denial w.chain blocks) tx asks;
  outcome = λ w blocks now tx asks. outcome_after w blocks now (forget_denial w.chain blocks) tx asks;
  reply = λ w blocks peer now tx asks. reply_after w blocks peer now (forget_denial w.chain blocks) tx asks;
}
