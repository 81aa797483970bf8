-- Access: the rules on an event's caller in the written order, of which the first that fails is the denial.
use Rattle.std.specs.Prelude.{ℕ, ◌+◌, nat_lt, Bool, false, not, ◌&&◌, ◌||◌, is_some, is_none, List, [], ◌∷◌, ◌++◌, Option, unwrap_or}
use Rattle.std.specs.Option.{option_map_or}
use Rattle.gate_bytes.specs.Order.{Rule, first_failing, IsFirstOf}
use Rattle.gate_tx.specs.Tx.{Tx}
use Rattle.gate_tx.specs.Ids.{wtxid_of}
use Rattle.gate_rules.specs.declared.Denial.TheVariants.{Decode}
use Rattle.gate_chain.specs.History.{History}
use Rattle.gate_chain.specs.Times.{tip_of, time_of}
use Rattle.gate_pool.specs.Pool.{Admitted, entry_by_wtxid}
use Rattle.gate_net.specs.Permissions.{Permissions}
use Rattle.gate_message.specs.declared.event.Event.{Event}
use Rattle.gate_message.specs.declared.event.Event.TheVariants.{Enter, Leave, Tx as Submit, Package, Mempool, GetBlock, Headers, FeeFilter, Rpc, SetFloor, Set, Chain as OfChain}
use Rattle.gate_rules.specs.declared.PeerDenial.{PeerDenial}
use Rattle.gate_rules.specs.declared.PeerDenial.TheVariants.{PeerUnknown, PeerClosed, PeerKnown, BlocksOnly, AlreadyInMempool, MempoolNoBloom, MempoolUploadTarget, HeadersDuringDownload, UnknownBlock, HistoricalUploadTarget, NoPackages, Admission}
use Rattle.gate_core.specs.Sessions.{Session, session_of, flags_in}
use Rattle.gate_core.specs.World.{World}

abbrev pub is_known : List Session → ℕ → Bool
is_known sessions peer = is_some (session_of sessions peer)

abbrev pub is_closed : List Session → ℕ → Bool
is_closed sessions peer = option_map_or (λ (s : Session). not s.is_open) (session_of sessions peer) false

-- ---- what the rules on a peer with these flags ask

-- transactions are taken only from peers with relay while the node takes blocks only
abbrev pub lacks_relay : World → Permissions → Bool
lacks_relay w flags = w.blocksonly && not flags.relay

-- listings are for peers with mempool or bloomfilter while bloom filters are off
abbrev pub lacks_bloom : World → Permissions → Bool
lacks_bloom w flags = not (flags.mempool || (flags.bloomfilter || w.switches.bloom))

-- listings are for peers with mempool once the upload target is reached
abbrev pub lacks_upload : World → Permissions → Bool
lacks_upload w flags = w.switches.upload && not flags.mempool

-- headers are for peers with download during the initial block download
abbrev pub lacks_headers : World → Permissions → Bool
lacks_headers w flags = w.switches.download && not flags.download

-- the time of the block at a height up to the tip, in seconds
abbrev pub seconds_at : History → ℕ → ℕ
seconds_at chain height = unwrap_or (time_of chain height) 0

-- a block is more than a week older than the tip
abbrev pub is_historical : History → ℕ → Bool
is_historical chain height = nat_lt (seconds_at chain height + 604800) (seconds_at chain (tip_of chain))

-- historical blocks are for peers with download once the upload target for them is reached
abbrev pub lacks_history : World → Permissions → ℕ → Bool
lacks_history w flags height = w.switches.historic && (not flags.download && is_historical w.chain height)

abbrev pub is_above_tip : World → ℕ → Bool
is_above_tip w height = nat_lt (tip_of w.chain) height

-- a block stands above the tip, or below the first one whose time is known
abbrev pub is_unknown_block : World → ℕ → Bool
is_unknown_block w height = is_none (time_of w.chain height)

-- whether a transaction's wtxid is in the pool
abbrev pub is_pooled : List Admitted → Option Tx → Bool
is_pooled pool transaction = option_map_or (λ (tx : Tx). is_some (entry_by_wtxid pool (wtxid_of tx))) transaction false

-- ---- the rules on each event

abbrev pub entering_rules : List Session → ℕ → List (Rule PeerDenial)
entering_rules sessions peer = (PeerKnown, is_known sessions peer) ∷ []

-- every event of a peer but its entering needs an open session
abbrev pub session_rules : List Session → ℕ → List (Rule PeerDenial)
session_rules sessions peer = (PeerUnknown, not (is_known sessions peer)) ∷ (PeerClosed, is_closed sessions peer) ∷ []

-- whether the peer's transactions are taken at all is asked before this one is decoded
abbrev pub submission_rules : World → ℕ → Option Tx → List (Rule PeerDenial)
submission_rules w peer transaction =
    session_rules w.sessions peer
    ++ (BlocksOnly, lacks_relay w (flags_in w.sessions peer))
    ∷ (Admission Decode, is_none transaction)
    ∷ (AlreadyInMempool, is_pooled w.pool transaction)
    ∷ []

-- whether the peer's packages are taken at all is asked before the texts of this one are decoded
abbrev pub package_rules : World → ℕ → Option Tx → Option Tx → List (Rule PeerDenial)
package_rules w peer parent child =
    session_rules w.sessions peer
    ++ (BlocksOnly, lacks_relay w (flags_in w.sessions peer))
    ∷ (NoPackages, not w.policy.packages)
    ∷ (Admission Decode, is_none parent || is_none child)
    ∷ []

abbrev pub listing_rules : World → ℕ → List (Rule PeerDenial)
listing_rules w peer =
    session_rules w.sessions peer
    ++ (MempoolNoBloom, lacks_bloom w (flags_in w.sessions peer))
    ∷ (MempoolUploadTarget, lacks_upload w (flags_in w.sessions peer))
    ∷ []

abbrev pub headers_rules : World → ℕ → ℕ → List (Rule PeerDenial)
headers_rules w peer height =
    session_rules w.sessions peer
    ++ (HeadersDuringDownload, lacks_headers w (flags_in w.sessions peer))
    ∷ (UnknownBlock, is_above_tip w height)
    ∷ []

abbrev pub block_rules : World → ℕ → ℕ → List (Rule PeerDenial)
block_rules w peer height =
    session_rules w.sessions peer
    ++ (UnknownBlock, is_unknown_block w height)
    ∷ (HistoricalUploadTarget, lacks_history w (flags_in w.sessions peer) height)
    ∷ []

-- the rule on users (U1) is defined with the answers to their calls; there are none on the operator and the chain
abbrev pub caller_rules : World → Event → List (Rule PeerDenial)
caller_rules w (Enter peer address) = entering_rules w.sessions peer
caller_rules w (Leave peer) = session_rules w.sessions peer
caller_rules w (Submit peer now transaction) = submission_rules w peer transaction
caller_rules w (Package peer now parent child) = package_rules w peer parent child
caller_rules w (Mempool peer) = listing_rules w peer
caller_rules w (GetBlock peer height) = block_rules w peer height
caller_rules w (Headers peer height) = headers_rules w peer height
caller_rules w (FeeFilter peer rate) = session_rules w.sessions peer
caller_rules w (Rpc call) = []
caller_rules w (SetFloor rate) = []
caller_rules w (Set switch on) = []
caller_rules w (OfChain event) = []

-- a denial names a rule that fails, with none failing before it; without one no rule fails
abbrev pub AccessFollowsTheOrder : Type 0
AccessFollowsTheOrder = (w : World) (event : Event) → IsFirstOf (caller_rules w event) (first_failing (caller_rules w event))
