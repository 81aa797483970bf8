-- Sessions under events of other callers.
use Rattle.std.proofs.Common.{◌≡◌, ◌≢◌, ℕ, Bool, true, false, nat_eq, if◌then◌else◌, List, [], ◌∷◌, ◌++◌, All, Option, Some, None, Result, Ok, Err, refl, sym, ap, ◌∙◌}
use Rattle.std.proofs.lemmas.Bool.{eqb-true, false_from_ne_true}
use Rattle.std.proofs.lemmas.List.Elements.{All-head, All-tail}
use Rattle.gate_bytes.specs.Order.{first_failing}
use Rattle.gate_tx.specs.Tx.{Tx}
use Rattle.gate_rules.specs.declared.Denial.{Denial}
use Rattle.gate_rules.specs.declared.Denial.TheVariants.{Decode}
use Rattle.gate_admit.specs.declared.Grant.{Grant}
use Rattle.gate_admit.specs.Submission.{submit_of}
use Rattle.gate_message.specs.declared.caller.Caller.TheVariants.{Peer}
use Rattle.gate_message.specs.declared.event.Event.{Event}
use Rattle.gate_message.specs.declared.event.Event.TheVariants.{Enter, Leave, Tx as Submit, Package, Mempool, GetBlock, Headers, FeeFilter, Rpc, SetFloor, Set as Turn, Chain as OfChain}
use Rattle.gate_rules.specs.declared.PeerDenial.{PeerDenial}
use Rattle.gate_rules.specs.declared.PeerDenial.TheVariants.{Admission}
use Rattle.gate_message.specs.declared.denial.Then.{Then}
use Rattle.gate_message.specs.declared.denial.Then.TheVariants.{Keep, Close, Relay}
use Rattle.gate_message.specs.declared.reply.Reply.{Reply}
use Rattle.gate_net.specs.Permissions.{Permissions}
use Rattle.gate_message.specs.Callers.{caller_of}
use Rattle.gate_core.specs.Sessions.{Session, session, session_of, rate_after, closed, rated}
use Rattle.gate_core.specs.World.{World, flags_at, standing_of}
use Rattle.gate_core.specs.Access.{entering_rules, session_rules, submission_rules, listing_rules, block_rules, headers_rules}
use Rattle.gate_core.specs.PeerSteps.{sessions_after, then_for, decided, answered, entered, left, submitted, listed, block_given, headers_given, filter_set}
use Rattle.gate_core.specs.Steps.{step_of}
use Rattle.gate_core.specs.Runs.{run_of}
use Rattle.gate_rpc.specs.Calls.{request_of}
use Rattle.gate_package.specs.Packages.{packaged_of}
use Rattle.gate_core.specs.Pairing.{then_after}
use Rattle.gate_core.proofs.Calls.{call_gives}
use Rattle.gate_core.proofs.Pairs.{pair_gives}
use Rattle.gate_core.proofs.Following.{chain_gives}

differs : (a b : ℕ) → a ≢ b → nat_eq a b ≡ false
differs a b h = false_from_ne_true (nat_eq a b) (λ k. h (eqb-true a b k))

entering_leaves : (sessions : List Session) (peer other : ℕ) (flags : Permissions) → other ≢ peer → session_of (sessions ++ session peer true flags 0 ∷ []) other ≡ session_of sessions other
entering_leaves [] peer other flags h = ap (λ (b : Bool). if b then Some (session peer true flags 0) else None) (differs other peer h)
entering_leaves (s ∷ sessions) peer other flags h = ap (λ o. if nat_eq other s.peer then Some s else o) (entering_leaves sessions peer other flags h)

pub closing_leaves : (sessions : List Session) (peer other : ℕ) → other ≢ peer → session_of (closed sessions peer) other ≡ session_of sessions other
closing_leaves [] peer other h = refl
closing_leaves (s ∷ sessions) peer other h = by (nat_eq peer s.peer) (λ k. eqb-true peer s.peer k) (closing_leaves sessions peer other h)
  where
    skipped : (t : Session) → nat_eq other t.peer ≡ false → (if nat_eq other t.peer then Some t else session_of sessions other) ≡ session_of sessions other
    skipped t others = ap (λ (b : Bool). if b then Some t else session_of sessions other) others

    by : (b : Bool) → (b ≡ true → peer ≡ s.peer) → session_of (closed sessions peer) other ≡ session_of sessions other
        → session_of (if b then record s { is_open = false } ∷ sessions else s ∷ closed sessions peer) other ≡ (if nat_eq other s.peer then Some s else session_of sessions other)
    by true is rest = let others = differs other s.peer (λ k. h (k ∙ sym (is refl))) in skipped (record s { is_open = false }) others ∙ sym (skipped s others)
    by false is rest = ap (λ o. if nat_eq other s.peer then Some s else o) rest

rating_leaves : (sessions : List Session) (peer other rate : ℕ) → other ≢ peer → session_of (rated sessions peer rate) other ≡ session_of sessions other
rating_leaves [] peer other rate h = refl
rating_leaves (s ∷ sessions) peer other rate h = by (nat_eq peer s.peer) (λ k. eqb-true peer s.peer k) (rating_leaves sessions peer other rate h)
  where
    skipped : (t : Session) → nat_eq other t.peer ≡ false → (if nat_eq other t.peer then Some t else session_of sessions other) ≡ session_of sessions other
    skipped t others = ap (λ (b : Bool). if b then Some t else session_of sessions other) others

    by : (b : Bool) → (b ≡ true → peer ≡ s.peer) → session_of (rated sessions peer rate) other ≡ session_of sessions other
        → session_of (if b then record s { rate = rate } ∷ sessions else s ∷ rated sessions peer rate) other ≡ (if nat_eq other s.peer then Some s else session_of sessions other)
    by true is rest = let others = differs other s.peer (λ k. h (k ∙ sym (is refl))) in skipped (record s { rate = rate }) others ∙ sym (skipped s others)
    by false is rest = ap (λ o. if nat_eq other s.peer then Some s else o) rest

after_leaves : (next : Then) (sessions : List Session) (peer other : ℕ) → other ≢ peer → session_of (sessions_after next sessions peer) other ≡ session_of sessions other
after_leaves Keep sessions peer other h = refl
after_leaves Close sessions peer other h = closing_leaves sessions peer other h
after_leaves Relay sessions peer other h = refl

decided_leaves : (w : World) (peer other : ℕ) (transaction : Option Tx) (decision : Result Grant Denial) → other ≢ peer
    → session_of (decided w peer transaction decision).1.sessions other ≡ session_of w.sessions other
decided_leaves w peer other None decision h = after_leaves (then_for w peer (Admission Decode)) w.sessions peer other h
decided_leaves w peer other (Some tx) (Ok grant) h = refl
decided_leaves w peer other (Some tx) (Err denial) h = after_leaves (then_for w peer (Admission denial)) w.sessions peer other h

submitted_leaves : (w : World) (peer other now : ℕ) (transaction : Option Tx) → other ≢ peer → session_of (submitted w peer now transaction).1.sessions other ≡ session_of w.sessions other
submitted_leaves w peer other now transaction h =
    let s = submit_of (standing_of w) transaction now w.budget in
    decided_leaves (record w { pool = s.entries; floor = s.floor }) peer other transaction s.decision h

answered_leaves : (w : World) (peer other : ℕ) (served : Reply × World) (denial : Option PeerDenial) → other ≢ peer
    → session_of served.1.sessions other ≡ session_of w.sessions other → session_of (answered w peer served denial).1.sessions other ≡ session_of w.sessions other
answered_leaves w peer other served (Some denial) h done = after_leaves (then_for w peer denial) w.sessions peer other h
answered_leaves w peer other served None h done = done

another : (peer other : ℕ) → Peer peer ≢ Peer other → other ≢ peer
another peer other h = λ k. h (ap Peer (sym k))

pub step_leaves : (w : World) (event : Event) (other : ℕ) → caller_of event ≢ Peer other → session_of (step_of w event).1.sessions other ≡ session_of w.sessions other
unfolding step_of
step_leaves w (Enter peer address) other h =
    let apart = another peer other h in
    answered_leaves w peer other (entered w peer address) (first_failing (entering_rules w.sessions peer)) apart (entering_leaves w.sessions peer other (flags_at w address) apart)
step_leaves w (Leave peer) other h =
    let apart = another peer other h in
    answered_leaves w peer other (left w peer) (first_failing (session_rules w.sessions peer)) apart (closing_leaves w.sessions peer other apart)
step_leaves w (Submit peer now transaction) other h =
    let apart = another peer other h in
    answered_leaves w peer other (submitted w peer now transaction) (first_failing (submission_rules w peer transaction)) apart (submitted_leaves w peer other now transaction apart)
step_leaves w (Package peer now parent child) other h =
    let apart = another peer other h in
    pair_gives (λ p. session_of p.1.sessions other ≡ session_of w.sessions other) w peer now parent child (λ denial. after_leaves (then_for w peer denial) w.sessions peer other apart) (λ denial. refl)
    (λ txs is. after_leaves (then_after w peer (packaged_of 0 (standing_of w) txs now w.budget).outcome.members) w.sessions peer other apart)
step_leaves w (Mempool peer) other h = answered_leaves w peer other (listed w peer) (first_failing (listing_rules w peer)) (another peer other h) refl
step_leaves w (GetBlock peer height) other h = answered_leaves w peer other (block_given w height) (first_failing (block_rules w peer height)) (another peer other h) refl
step_leaves w (Headers peer height) other h = answered_leaves w peer other (headers_given w height) (first_failing (headers_rules w peer height)) (another peer other h) refl
step_leaves w (FeeFilter peer rate) other h =
    let apart = another peer other h in
    answered_leaves w peer other (filter_set w peer rate) (first_failing (session_rules w.sessions peer)) apart (rating_leaves w.sessions peer other (rate_after w.sessions peer rate) apart)
step_leaves w (Rpc call) other h =
    call_gives (λ p. session_of p.1.sessions other ≡ session_of w.sessions other) w call.time call.user (request_of call.json) (λ answer. refl) (λ id transaction is. refl) (λ id call is. refl)
step_leaves w (SetFloor rate) other h = refl
step_leaves w (Turn switch on) other h = refl
step_leaves w (OfChain event) other h =
    chain_gives (λ p. session_of p.1.sessions other ≡ session_of w.sessions other) w event (λ denial. refl) (λ disconnect now blocks is passes. refl) (λ coin passes. refl) (λ row. refl) (λ blocks. refl)

pub run_leaves : (events : List Event) (w : World) (peer : ℕ) → All (λ (e : Event). caller_of e ≢ Peer peer) events → session_of (run_of w events).1.sessions peer ≡ session_of w.sessions peer
run_leaves [] w peer others = refl
run_leaves (event ∷ events) w peer others =
    run_leaves events (step_of w event).1 peer (All-tail (λ (e : Event). caller_of e ≢ Peer peer) event events others)
    ∙ step_leaves w event peer (All-head (λ (e : Event). caller_of e ≢ Peer peer) event events others)
