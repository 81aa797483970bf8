-- What holds of sessions over runs, in plain words.
use Rattle.std.specs.Prelude.{◌≡◌, ◌≢◌, ◌<◌, ℕ, false, List, slice_get, Option, Some, None}
use Rattle.std.specs.List.{All}
use Rattle.gate_tx.specs.Money.{max_money}
use Rattle.gate_rules.specs.declared.Denial.TheVariants.{MempoolFull}
use Rattle.gate_message.specs.declared.caller.Caller.TheVariants.{Peer}
use Rattle.gate_message.specs.declared.event.Event.{Event}
use Rattle.gate_message.specs.declared.event.Event.TheVariants.{Enter, Leave, Tx as Submit, Package, Mempool, GetBlock, Headers, FeeFilter, Rpc, SetFloor, Set as Turn, Chain as OfChain}
use Rattle.gate_rules.specs.declared.PeerDenial.TheVariants.{PeerClosed, PeerKnown, Admission}
use Rattle.gate_message.specs.declared.denial.Then.TheVariants.{Keep}
use Rattle.gate_message.specs.declared.reply.Reply.{Reply}
use Rattle.gate_message.specs.declared.reply.Reply.TheVariants.{Entered, Left, Admitted, Packaged, Listing, Block, Headers, Filter, Rpc as Answered, Denied, Set, Moved, Forgotten, Refused}
use Rattle.gate_rpc.specs.declared.error.RpcError.{RpcError}
use Rattle.gate_rpc.specs.declared.error.RpcError.TheVariants as errors
use Rattle.gate_rpc.specs.declared.reply.RpcReply.{RpcReply}
use Rattle.gate_rpc.specs.declared.reply.RpcReply.TheVariants.{NotAllowed, Answer, Failure}
use Rattle.gate_message.specs.Callers.{caller_of}
use Rattle.gate_core.specs.Sessions.{Session, session_of}
use Rattle.gate_core.specs.World.{World}
use Rattle.gate_core.specs.Steps.{step_of}
use Rattle.gate_core.specs.Runs.{run_of}

-- the reply to an event of a peer whose session is closed; none to the events of users, the operator and the chain, which
-- have no session
abbrev pub closed_reply : Event → Option Reply
closed_reply (Enter peer address) = Some (Denied PeerKnown Keep)
closed_reply (Leave peer) = Some (Denied PeerClosed Keep)
closed_reply (Submit peer now transaction) = Some (Denied PeerClosed Keep)
closed_reply (Package peer now parent child) = Some (Denied PeerClosed Keep)
closed_reply (Mempool peer) = Some (Denied PeerClosed Keep)
closed_reply (GetBlock peer height) = Some (Denied PeerClosed Keep)
closed_reply (Headers peer height) = Some (Denied PeerClosed Keep)
closed_reply (FeeFilter peer rate) = Some (Denied PeerClosed Keep)
closed_reply (Rpc call) = None
closed_reply (SetFloor rate) = None
closed_reply (Turn switch on) = None
closed_reply (OfChain event) = None

-- after any events a closed session is as it was, and each event of its peer among them has the reply to a closed session
abbrev pub ClosedStaysClosed : Type 0
ClosedStaysClosed =
    (w : World) (events : List Event) (peer : ℕ) (s : Session) → session_of w.sessions peer ≡ Some s → s.is_open ≡ false
    → (session_of (run_of w events).1.sessions peer ≡ Some s)
    × ((k : ℕ) (event : Event) → slice_get events k ≡ Some event → caller_of event ≡ Peer peer → slice_get (run_of w events).0 k ≡ closed_reply event)

-- a fee filter above all money changes nothing
abbrev pub GreatRatesChangeNothing : Type 0
GreatRatesChangeNothing = (w : World) (peer rate : ℕ) → max_money < rate → (step_of w (FeeFilter peer rate)).1 ≡ w

-- events of other callers leave a peer's session as it was, and open none for it
abbrev pub PeersAreSeparate : Type 0
PeersAreSeparate =
    (w : World) (events : List Event) (peer : ℕ) → All (λ (e : Event). caller_of e ≢ Peer peer) events
    → session_of (run_of w events).1.sessions peer ≡ session_of w.sessions peer

-- an error that is no denial by A46
abbrev pub IsOtherError : RpcError → Type 0
IsOtherError error = error ≢ errors.Denied MempoolFull

-- a call that was not allowed, or that failed with an error other than A46
abbrev pub IsFailed : RpcReply → Type 0
IsFailed NotAllowed = Unit {0}
IsFailed (Answer id result) = ⊥
IsFailed (Failure id error) = IsOtherError error

-- a denial by any rule but A46, under which the entries that left the pool don't come back
abbrev pub IsDenied : Reply → Type 0
IsDenied (Entered flags) = ⊥
IsDenied Left = ⊥
IsDenied (Admitted txid fee vsize replaced) = ⊥
IsDenied (Packaged then verdict members) = ⊥
IsDenied (Listing txids) = ⊥
IsDenied (Block height time) = ⊥
IsDenied (Headers first count) = ⊥
IsDenied (Filter rate) = ⊥
IsDenied (Answered answer) = IsFailed answer
IsDenied (Denied denial then) = denial ≢ Admission MempoolFull
IsDenied Set = ⊥
IsDenied (Moved moved) = ⊥
IsDenied (Forgotten blocks coins rows) = ⊥
IsDenied (Refused denial) = Unit {0}

-- events that are all denied, by other rules than A46, leave the chain, the pool and its floor as they were
abbrev pub DenialsLeaveThePool : Type 0
DenialsLeaveThePool =
    (w : World) (events : List Event) → All IsDenied (run_of w events).0
    → ((run_of w events).1.chain ≡ w.chain) × ((run_of w events).1.pool ≡ w.pool) × ((run_of w events).1.floor ≡ w.floor)
