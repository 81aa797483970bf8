-- Runs: the step over a list of events, and what holds after every one of them.
use Rattle.std.specs.Prelude.{◌≡◌, ◌≢◌, ◌≤◌, ℕ, List, [], ◌∷◌, ◌++◌, map, take, slice_get, Option, Some, IsSome, Ok}
use Rattle.std.specs.List.{All, flat_map, AllPairs}
use Rattle.gate_tx.specs.declared.OutPoint.{OutPoint}
use Rattle.gate_tx.specs.Ids.{txid_of}
use Rattle.gate_tx.specs.Tx.{Tx}
use Rattle.gate_pool.specs.Pool.{Admitted as Entry, spent_by, listing_of, size_of}
use Rattle.gate_trim.specs.Laws.{IsYoung}
use Rattle.gate_admit.specs.Coins.{view_coin}
use Rattle.gate_admit.specs.Good.{AreApart, IsLimited}
use Rattle.gate_admit.specs.Policies.{Policy, IsPolicy}
use Rattle.gate_message.specs.declared.caller.Caller.TheVariants.{Operator}
use Rattle.gate_message.specs.declared.event.Event.{Event}
use Rattle.gate_message.specs.declared.event.Event.TheVariants.{Tx as Submit, Mempool, Rpc as Calls}
use Rattle.gate_message.specs.Callers.{caller_of}
use Rattle.gate_core.specs.Opening.{Start}
use Rattle.gate_message.specs.declared.reply.Reply.{Reply}
use Rattle.gate_message.specs.declared.reply.Reply.TheVariants.{Admitted, Listing, Rpc as Answered}
use Rattle.gate_rpc.specs.declared.id.Id.{Id}
use Rattle.gate_rpc.specs.declared.reply.RpcReply.TheVariants.{Answer}
use Rattle.gate_rpc.specs.declared.items.KnownEntry.{KnownEntry}
use Rattle.gate_rpc.specs.declared.request.Command.TheVariants.{GetRawMempool, GetRawMempoolVerbose}
use Rattle.gate_rpc.specs.declared.request.Request.{Request}
use Rattle.gate_rpc.specs.declared.result.RpcResult.TheVariants.{Entries, Sent, Txids}
use Rattle.gate_rpc.specs.Calls.{request_of}
use Rattle.gate_message.specs.UserCalls.{UserCall}
use Rattle.gate_admit.specs.Policies.{feerate_by}
use Rattle.gate_query.specs.Answers.{listing_at}
use Rattle.gate_core.specs.Sessions.{rate_in}
use Rattle.gate_core.specs.World.{World, opened_world}
use Rattle.gate_core.specs.Steps.{step_of}
use Rattle.gate_message.specs.Spelled.{IsSpelled, transactions_of}
use Rattle.gate_core.specs.Good.{IsGoodWorld, StepGives, transactions_in}

-- the replies to events in turn, and the state after the last
abbrev pub run_of : World → List Event → List Reply × World
run_of w [] = ([], w)
run_of w (event ∷ events) =
    let first = step_of w event in
    let rest = run_of first.1 events in
    (first.0 ∷ rest.0, rest.1)

-- a run is apart if all transactions of its first state and of its events are
abbrev pub IsRunApart : World → List Event → Type 0
IsRunApart w events = AreApart (transactions_in w ++ flat_map transactions_of events)

-- steps that lead from a state through events, each answered, to a state
abbrev pub LeadsTo : World → List Event → List Reply → World → Type 0
LeadsTo w [] [] end = end ≡ w
LeadsTo w [] (reply ∷ replies) end = ⊥
LeadsTo w (event ∷ events) [] end = ⊥
LeadsTo w (event ∷ events) (reply ∷ replies) end = (next : World) × StepGives w event reply next × LeadsTo next events replies end

-- from a good state steps that are apart give the run, and end in a good state
abbrev pub StepsGiveTheRun : Type 0
StepsGiveTheRun =
    (w : World) (events : List Event) (replies : List Reply) (end : World) → IsGoodWorld w → IsRunApart w events → LeadsTo w events replies end
    → ((replies, end) ≡ run_of w events) × IsGoodWorld end

-- from a good state a run that is apart ends in a good state
abbrev pub RunsEndGood : Type 0
RunsEndGood = (w : World) (events : List Event) → IsGoodWorld w → All IsSpelled events → IsRunApart w events → IsGoodWorld (run_of w events).1

-- no outpoint is spent by two entries, nor twice by one
abbrev pub SpendsOnce : List Entry → Type 0
SpendsOnce pool = AllPairs (λ (p : OutPoint) (q : OutPoint). p ≢ q) (spent_by pool)

-- what a peer is told of a state: the txids of the entries that its own rate doesn't hide, in order of admission
abbrev pub told_to : ℕ → World → List (List ℕ)
told_to peer w = listing_at (feerate_by w.policy (rate_in w.sessions peer)) w.pool

-- each reply that is a listing answers a peer, and has what that peer is told of the state at that point
abbrev pub ListsThePool : World → List Event → Type 0
ListsThePool w events =
    (k : ℕ) (txids : List (List ℕ)) → slice_get (run_of w events).0 k ≡ Some (Listing txids)
    → (peer : ℕ) × (slice_get events k ≡ Some (Mempool peer)) × (txids ≡ told_to peer (run_of w (take k events)).1)

-- each answer with txids to a user's `getrawmempool` has those of the whole pool at that point, in order of admission
abbrev pub AnswersThePool : World → List Event → Type 0
AnswersThePool w events =
    (k : ℕ) (call : UserCall) (request : Request) (id : Id) (txids : List (List ℕ))
    → slice_get events k ≡ Some (Calls call) → request_of call.json ≡ Ok request → request.command ≡ GetRawMempool
    → slice_get (run_of w events).0 k ≡ Some (Answered (Answer id (Txids txids))) → txids ≡ listing_of (run_of w (take k events)).1.pool

-- each answer with entries to a user's `getrawmempool true` has one for each entry of the pool at that point, in order of admission
abbrev pub DescribesThePool : World → List Event → Type 0
DescribesThePool w events =
    (k : ℕ) (call : UserCall) (request : Request) (id : Id) (entries : List KnownEntry)
    → slice_get events k ≡ Some (Calls call) → request_of call.json ≡ Ok request → request.command ≡ GetRawMempoolVerbose
    → slice_get (run_of w events).0 k ≡ Some (Answered (Answer id (Entries entries)))
    → map (λ (e : KnownEntry). e.txid) entries ≡ listing_of (run_of w (take k events)).1.pool

-- after any events, from any opening, no outpoint is spent twice, and listings and answers show the pool at their point
abbrev pub RunsKeepThePoolSound : Type 0
RunsKeepThePoolSound = (o : Start) (events : List Event)
    → SpendsOnce (run_of (opened_world o) events).1.pool × ListsThePool (opened_world o) events
    × AnswersThePool (opened_world o) events × DescribesThePool (opened_world o) events

-- each outpoint that an entry spends has a coin, and the ancestors and descendants of each entry are within the limits of a policy
pub record KeepsFamilies (policy : Policy) (w : World) : Type 0 where
  pub coins : All (λ (p : OutPoint). IsSome (view_coin w.chain w.pool p)) (spent_by w.pool)
  pub limited : All (λ (e : Entry). IsLimited policy w.pool (txid_of e.tx)) w.pool

-- after any events whose transactions are told apart by their ids, from any opening whose policy is within its bounds, families keep
-- to that policy
abbrev pub RunsKeepFamilies : Type 0
RunsKeepFamilies = (o : Start) (events : List Event) → IsPolicy o.policy → All IsSpelled events → IsRunApart (opened_world o) events → KeepsFamilies o.policy (run_of (opened_world o) events).1

-- after any events, from any opening, the entries are within the opening's budget
abbrev pub RunsKeepTheBudget : Type 0
RunsKeepTheBudget = (o : Start) (events : List Event) → size_of (run_of (opened_world o) events).1.pool ≤ o.budget

-- events of other callers than the operator never lower the floor
abbrev pub OnlyOperatorsLowerTheFloor : Type 0
OnlyOperatorsLowerTheFloor = (w : World) (events : List Event) → All (λ (e : Event). caller_of e ≢ Operator) events → w.floor ≤ (run_of w events).1.floor

-- after a submission that is admitted no entry came longer before it than an entry stays
abbrev pub AdmissionsLeaveNothingStale : Type 0
AdmissionsLeaveNothingStale =
    (w : World) (peer now : ℕ) (transaction : Option Tx) (txid : List ℕ) (fee vsize replaced : ℕ) → (step_of w (Submit peer now transaction)).0 ≡ Admitted txid fee vsize replaced
    → All (IsYoung w.policy.stay now) (step_of w (Submit peer now transaction)).1.pool

-- after a transaction that a user sends no entry came longer before it than an entry stays
abbrev pub CallsLeaveNothingStale : Type 0
CallsLeaveNothingStale =
    (w : World) (call : UserCall) (id : Id) (txid : List ℕ) → (step_of w (Calls call)).0 ≡ Answered (Answer id (Sent txid)) → All (IsYoung w.policy.stay call.time) (step_of w (Calls call)).1.pool
