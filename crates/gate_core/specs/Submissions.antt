-- The submission that an event makes, and the coins of its inputs.
use Rattle.std.specs.Prelude.{◌≡◌, List, [], map, Option, Some, None, Result, Ok, Err}
use Rattle.gate_tx.specs.declared.Coin.{Coin}
use Rattle.gate_tx.specs.declared.TxIn.{TxIn}
use Rattle.gate_tx.specs.Tx.{Tx}
use Rattle.gate_admit.specs.Coins.{view_coin}
use Rattle.gate_rpc.specs.declared.request.Command.{Command}
use Rattle.gate_rpc.specs.declared.request.Command.TheVariants.{SendRawTransaction, TestMempoolAccept, TestList, GetRawMempool, GetRawMempoolVerbose, GetMempoolEntry, GetMempoolAncestors, GetMempoolDescendants, GetMempoolInfo, GetRawTransaction, GetTxSpendingPrevout, SubmitPackage}
use Rattle.gate_rpc.specs.declared.request.Request.{Request}
use Rattle.gate_rpc.specs.declared.fault.CallError.{CallError}
use Rattle.gate_rpc.specs.Calls.{request_of}
use Rattle.gate_message.specs.declared.event.Event.{Event}
use Rattle.gate_message.specs.declared.event.Event.TheVariants.{Enter, Leave, Tx as Submit, Package, Mempool, GetBlock, Headers, FeeFilter, Rpc, SetFloor, Set, Chain as OfChain}
use Rattle.gate_core.specs.World.{World}

-- what a command submits, to let it enter or to ask whether it would: one transaction, or what spells none. A list of several,
-- or a package, is no submission
abbrev pub submitted_by : Command → Option (Option Tx)
submitted_by (SendRawTransaction submission) = Some submission
submitted_by (TestMempoolAccept submission) = Some submission
submitted_by (TestList submissions) = None
submitted_by GetRawMempool = None
submitted_by GetRawMempoolVerbose = None
submitted_by (GetMempoolEntry txid) = None
submitted_by (GetMempoolAncestors txid) = None
submitted_by (GetMempoolDescendants txid) = None
submitted_by GetMempoolInfo = None
submitted_by (GetRawTransaction txid) = None
submitted_by (GetTxSpendingPrevout points) = None
submitted_by (SubmitPackage call) = None

abbrev pub submitted_in : Result Request CallError → Option (Option Tx)
submitted_in (Ok request) = submitted_by request.command
submitted_in (Err error) = None

-- the submission of an event, if it makes one
abbrev pub submission_of : Event → Option (Option Tx)
submission_of (Enter peer address) = None
submission_of (Leave peer) = None
submission_of (Submit peer now submission) = Some submission
submission_of (Package peer now parent child) = None
submission_of (Mempool peer) = None
submission_of (GetBlock peer height) = None
submission_of (Headers peer height) = None
submission_of (FeeFilter peer rate) = None
submission_of (Rpc call) = submitted_in (request_of call.json)
submission_of (SetFloor rate) = None
submission_of (Set switch on) = None
submission_of (OfChain event) = None

-- the submission that stands for this one, if there is one, is the same
abbrev pub StandsFor : Option (Option Tx) → Option (Option Tx) → Type 0
StandsFor None submission = Unit {0}
StandsFor (Some another) submission = submission ≡ Some another

-- the coin of each input of a submission, if it has one in the view of a state
abbrev pub coins_of : World → Option Tx → List (Option Coin)
coins_of w None = []
coins_of w (Some tx) = map (λ (i : TxIn). view_coin w.chain w.pool i.prevout) tx.inputs
