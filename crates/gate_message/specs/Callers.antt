-- Who makes an event.
use Rattle.std.specs.Prelude.{ℕ, Option, Some, None}
use Rattle.gate_message.specs.declared.caller.Caller.{Caller}
use Rattle.gate_message.specs.declared.caller.Caller.TheVariants.{Chain, Operator, Peer, User}
use Rattle.gate_message.specs.declared.event.Event.{Event}
use Rattle.gate_message.specs.declared.event.Event.TheVariants.{Enter, Leave, Tx as Submit, Package, Mempool, GetBlock, Headers, FeeFilter, Rpc, SetFloor, Set, Chain as OfChain}

abbrev pub caller_of : Event → Caller
caller_of (Enter peer address) = Peer peer
caller_of (Leave peer) = Peer peer
caller_of (Submit peer now transaction) = Peer peer
caller_of (Package peer now parent child) = Peer peer
caller_of (Mempool peer) = Peer peer
caller_of (GetBlock peer height) = Peer peer
caller_of (Headers peer height) = Peer peer
caller_of (FeeFilter peer rate) = Peer peer
caller_of (Rpc call) = User call.user
caller_of (SetFloor rate) = Operator
caller_of (Set switch on) = Operator
caller_of (OfChain event) = Chain

-- the number of the peer, if the caller is one
abbrev pub peer_of : Caller → Option ℕ
peer_of (Peer peer) = Some peer
peer_of (User user) = None
peer_of Operator = None
peer_of Chain = None
