-- The transactions that an event brings, and that each of them has a text.
use Rattle.std.specs.Prelude.{List, [], ◌∷◌, Option, Contains, Result, Ok, Err, IfSome}
use Rattle.std.specs.List.{flat_map}
use Rattle.std.specs.Option.{option_to_list}
use Rattle.gate_tx.specs.Text.{IsTx}
use Rattle.gate_tx.specs.Tx.{Tx}
use Rattle.gate_submission.specs.Blocks.{present}
use Rattle.gate_submission.specs.Blocks.{transactions_of as block_transactions}
use Rattle.gate_rpc.specs.declared.request.Command.{Command}
use Rattle.gate_rpc.specs.declared.request.Command.TheVariants.{SendRawTransaction, TestMempoolAccept, TestList, GetRawMempool, GetRawMempoolVerbose, GetMempoolEntry, GetMempoolAncestors, GetMempoolDescendants, GetMempoolInfo, GetRawTransaction, GetTxSpendingPrevout, SubmitPackage}
use Rattle.gate_rpc.specs.declared.request.Request.{Request}
use Rattle.gate_rpc.specs.declared.fault.CallError.{CallError}
use Rattle.gate_rpc.specs.Calls.{request_of}
use Rattle.gate_message.specs.declared.chain_event.ChainEvent.{ChainEvent}
use Rattle.gate_message.specs.declared.chain_event.ChainEvent.TheVariants.{MoveTip, LearnCoin, LearnVerdict, Forget}
use Rattle.gate_message.specs.declared.event.Event.{Event}
use Rattle.gate_message.specs.declared.event.Event.TheVariants.{Enter, Leave, Tx as Submit, Package, Mempool, GetBlock, Headers, FeeFilter, Rpc, SetFloor, Set, Chain as OfChain}

-- the transactions that a command offers to the pool
abbrev pub offered_by : Command → List Tx
offered_by (SendRawTransaction transaction) = option_to_list transaction
offered_by (TestMempoolAccept transaction) = []
offered_by (TestList transactions) = []
offered_by GetRawMempool = []
offered_by GetRawMempoolVerbose = []
offered_by (GetMempoolEntry txid) = []
offered_by (GetMempoolAncestors txid) = []
offered_by (GetMempoolDescendants txid) = []
offered_by GetMempoolInfo = []
offered_by (GetRawTransaction txid) = []
offered_by (GetTxSpendingPrevout points) = []
offered_by (SubmitPackage call) = flat_map option_to_list call.members

abbrev pub offered : Result Request CallError → List Tx
offered (Ok request) = offered_by request.command
offered (Err error) = []

-- the transactions of the blocks that an event of the chain connects
abbrev pub connected_by : ChainEvent → List Tx
connected_by (MoveTip disconnect now blocks) = block_transactions (present blocks)
connected_by (LearnCoin coin) = []
connected_by (LearnVerdict row) = []
connected_by (Forget blocks) = []

-- the transactions of a parent and its child
abbrev pub of_both : Option Tx → Option Tx → List Tx
of_both parent child = flat_map option_to_list (parent ∷ child ∷ [])

-- the transactions that an event brings
abbrev pub transactions_of : Event → List Tx
transactions_of (Enter peer address) = []
transactions_of (Leave peer) = []
transactions_of (Submit peer now transaction) = option_to_list transaction
transactions_of (Package peer now parent child) = of_both parent child
transactions_of (Mempool peer) = []
transactions_of (GetBlock peer height) = []
transactions_of (Headers peer height) = []
transactions_of (FeeFilter peer rate) = []
transactions_of (Rpc call) = offered (request_of call.json)
transactions_of (SetFloor rate) = []
transactions_of (Set switch on) = []
transactions_of (OfChain event) = connected_by event

-- the event's transactions have a text, as each transaction that was read has
abbrev pub IsSpelled : Event → Type 0
IsSpelled (Enter peer address) = Unit {0}
IsSpelled (Leave peer) = Unit {0}
IsSpelled (Submit peer now transaction) = IfSome transaction IsTx
IsSpelled (Package peer now parent child) = (tx : Tx) → Contains (of_both parent child) tx → IsTx tx
IsSpelled (Mempool peer) = Unit {0}
IsSpelled (GetBlock peer height) = Unit {0}
IsSpelled (Headers peer height) = Unit {0}
IsSpelled (FeeFilter peer rate) = Unit {0}
IsSpelled (Rpc call) = (tx : Tx) → Contains (offered (request_of call.json)) tx → IsTx tx
IsSpelled (SetFloor rate) = Unit {0}
IsSpelled (Set switch on) = Unit {0}
IsSpelled (OfChain event) = (tx : Tx) → Contains (connected_by event) tx → IsTx tx
