-- A package that an event submits where its caller may, and the state in which its members stand before it lands.
use Rattle.std.specs.Prelude.{◌≡◌, ℕ, if◌then◌else◌, List, Option, Some, None, Result, Ok, Err}
use Rattle.std.specs.List.{list_any}
use Rattle.gate_bytes.specs.Order.{first_failing}
use Rattle.gate_tx.specs.Tx.{Tx}
use Rattle.gate_pool.specs.Pool.{Admitted, IsRewindable, Pooled}
use Rattle.gate_rules.specs.declared.PeerDenial.{PeerDenial}
use Rattle.gate_submission.specs.declared.PackageOutcome.{PackageOutcome}
use Rattle.gate_package.specs.Packages.{Packaged, judged_of, landed}
use Rattle.gate_package.specs.Shapes.{members_of}
use Rattle.gate_package.specs.Staging.{Staged, StagesAs}
use Rattle.gate_rpc.specs.declared.id.Id.{Id}
use Rattle.gate_rpc.specs.declared.request.Command.{Command}
use Rattle.gate_rpc.specs.declared.request.Command.TheVariants.{SendRawTransaction, TestMempoolAccept, TestList, GetRawMempool, GetRawMempoolVerbose, GetMempoolEntry, GetMempoolAncestors, GetMempoolDescendants, GetMempoolInfo, GetRawTransaction, GetTxSpendingPrevout, SubmitPackage}
use Rattle.gate_rpc.specs.declared.request.Request.{Request}
use Rattle.gate_rpc.specs.declared.fault.CallError.{CallError}
use Rattle.gate_rpc.specs.declared.reply.RpcReply.TheVariants.{Answer}
use Rattle.gate_rpc.specs.declared.result.RpcResult.TheVariants.{Package}
use Rattle.gate_rpc.specs.Calls.{request_of}
use Rattle.gate_message.specs.UserCalls.{UserCall}
use Rattle.gate_message.specs.declared.event.Event.{Event}
use Rattle.gate_message.specs.declared.event.Event.TheVariants.{Enter, Leave, Tx as Submit, Package as Offer, Mempool, GetBlock, Headers, FeeFilter, Rpc as CallRpc, SetFloor, Set, Chain as OfChain}
use Rattle.gate_message.specs.declared.reply.Reply.{Reply}
use Rattle.gate_message.specs.declared.reply.Reply.TheVariants.{Rpc}
use Rattle.gate_message.specs.Replies.{packaged_as}
use Rattle.gate_core.specs.declared.packaging.AskedPackage.{AskedPackage}
use Rattle.gate_core.specs.declared.packaging.AskedPackage.TheVariants.{Call, Pair}
use Rattle.gate_core.specs.Access.{package_rules}
use Rattle.gate_core.specs.Packaging.{left_by, packaged_by, served}
use Rattle.gate_core.specs.Pairing.{both_of, closes, left_by_pair, paired, then_after}
use Rattle.gate_core.specs.RpcSteps.{is_barred, packaged}
use Rattle.gate_core.specs.Sessions.{Session, closed}
use Rattle.gate_core.specs.World.{World, standing_of}

abbrev pub called_with : ℕ → Id → Command → Option AskedPackage
called_with now id (SendRawTransaction transaction) = None
called_with now id (TestMempoolAccept transaction) = None
called_with now id (TestList transactions) = None
called_with now id GetRawMempool = None
called_with now id GetRawMempoolVerbose = None
called_with now id (GetMempoolEntry txid) = None
called_with now id (GetMempoolAncestors txid) = None
called_with now id (GetMempoolDescendants txid) = None
called_with now id GetMempoolInfo = None
called_with now id (GetRawTransaction txid) = None
called_with now id (GetTxSpendingPrevout points) = None
called_with now id (SubmitPackage call) = Some (Call (record { second = now; id = id; call = call }))

abbrev pub called_in : ℕ → Result Request CallError → Option AskedPackage
called_in now (Ok request) = called_with now request.id request.command
called_in now (Err error) = None

-- the package that a user's call submits, if the user may, and the operator takes packages
abbrev pub package_in : World → UserCall → Option AskedPackage
package_in w call = if is_barred w call.user (request_of call.json) then None else called_in call.time (served w (request_of call.json))

abbrev pub pair_with : ℕ → ℕ → Option (List Tx) → Option AskedPackage
pair_with peer now None = None
pair_with peer now (Some txs) = Some (Pair (record { second = now; peer = peer; members = txs }))

abbrev pub unless_refused : Option PeerDenial → Option AskedPackage → Option AskedPackage
unless_refused (Some denial) offered = None
unless_refused None offered = offered

-- the package that a peer submits, if no rule on the peer fails and both texts are transactions
abbrev pub pair_in : World → ℕ → ℕ → Option Tx → Option Tx → Option AskedPackage
pair_in w peer now parent child = unless_refused (first_failing (package_rules w peer parent child)) (pair_with peer now (both_of parent child))

abbrev pub package_of : World → Event → Option AskedPackage
package_of w (Enter peer address) = None
package_of w (Leave peer) = None
package_of w (Submit peer now submission) = None
package_of w (Offer peer now parent child) = pair_in w peer now parent child
package_of w (Mempool peer) = None
package_of w (GetBlock peer height) = None
package_of w (Headers peer height) = None
package_of w (FeeFilter peer rate) = None
package_of w (CallRpc call) = package_in w call
package_of w (SetFloor rate) = None
package_of w (Set switch on) = None
package_of w (OfChain event) = None

-- ---- what is asked, whoever asks

abbrev pub second_of : AskedPackage → ℕ
second_of (Call called) = called.second
second_of (Pair pair) = pair.second

abbrev pub members_in : AskedPackage → List Tx
members_in (Call called) = members_of called.call.members
members_in (Pair pair) = pair.members

-- the greatest feerate of a member: 0 bounds nothing
abbrev pub greatest_rate : AskedPackage → ℕ
greatest_rate (Call called) = called.call.max_rate
greatest_rate (Pair pair) = 0

-- the reply to a package, and the state behind it
abbrev pub packaged_step : World → AskedPackage → Reply × World
packaged_step w (Call called) = packaged called.id (packaged_by w called.second called.call)
packaged_step w (Pair pair) = paired w pair.peer pair.second pair.members

-- what is told of a package that leaves this, and the state behind it
abbrev pub left_by_package : World → AskedPackage → Packaged → Reply × World
left_by_package w (Call called) p = packaged called.id (left_by w p)
left_by_package w (Pair pair) p = left_by_pair w pair.peer p

-- the reply to a package with this outcome
abbrev pub told_outcome : World → AskedPackage → PackageOutcome → Reply
told_outcome w (Call called) outcome = Rpc (Answer called.id (Package outcome))
told_outcome w (Pair pair) outcome = packaged_as (then_after w pair.peer outcome.members) outcome

-- the peer whose session is closed by a package with this outcome
abbrev pub closed_by : World → AskedPackage → PackageOutcome → Option ℕ
closed_by w (Call called) outcome = None
closed_by w (Pair pair) outcome = if list_any (closes w pair.peer) outcome.members then Some pair.peer else None

-- the sessions once that of this peer is closed, if there is one
abbrev pub closed_for : Option ℕ → List Session → List Session
closed_for None sessions = sessions
closed_for (Some peer) sessions = closed sessions peer

-- a package of a state was staged, with this outcome, and the state is this one meanwhile: nothing but the entries has changed, and
-- the step is that of what the package leaves once it lands
pub record IsStaged (w : World) (asked : AskedPackage) (outcome : PackageOutcome) (stage : Staged) (meanwhile : World) : Type 0 where
  pub staged : StagesAs (greatest_rate asked) (standing_of w) (second_of asked) (members_in asked) outcome stage meanwhile.pool
  pub others : meanwhile ≡ record w { pool = meanwhile.pool }
  pub step : packaged_step w asked ≡ left_by_package w asked (landed (standing_of w) (second_of asked) w.budget (judged_of (greatest_rate asked) (standing_of w) (second_of asked) (members_in asked)))

-- a package with this stage can be taken back from the pool, which has these entries then: a rewind of it takes no memory
abbrev pub CanBeTakenBack : Option Staged → Pooled → List Admitted → Type 0
CanBeTakenBack None pool entries = Unit {0}
CanBeTakenBack (Some stage) pool entries = (pool.before ≡ entries) × IsRewindable pool

-- the reply to a package, its stage if its members were judged, and the peer whose session is closed once it lands: without a stage
-- the reply is the step's, and nothing has changed
abbrev pub Stages : World → AskedPackage → Reply → Option Staged → Option ℕ → World → Type 0
Stages w asked reply None closes meanwhile = (meanwhile ≡ w) × ((reply, w) ≡ packaged_step w asked)
Stages w asked reply (Some stage) closes meanwhile =
    (outcome : PackageOutcome) × (reply ≡ told_outcome w asked outcome) × (closes ≡ closed_by w asked outcome) × IsStaged w asked outcome stage meanwhile
