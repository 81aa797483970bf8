-- Laws of permissions and of lists of methods, in plain words.
use Rattle.std.specs.Prelude.{◌≡◌, ◌≢◌, ◌⊎◌, ℕ, true, false, Bool, List, Option, Some, Result, Ok, Err, codes}
use Rattle.gate_tx.specs.Tx.{Tx}
use Rattle.gate_rules.specs.declared.Denial.{Denial}
use Rattle.gate_admit.specs.Policies.{Policy, usual_policy}
use Rattle.gate_net.specs.Permissions.{Permissions}
use Rattle.gate_rpc.specs.Calls.{request_of}
use Rattle.gate_rpc.specs.Lists.{is_allowed, is_among, list_of}
use Rattle.gate_rpc.specs.declared.request.Command.{Command}
use Rattle.gate_rpc.specs.declared.request.Command.TheVariants.{SendRawTransaction, TestMempoolAccept, TestList, GetRawMempool, GetRawMempoolVerbose, GetMempoolEntry, GetMempoolAncestors, GetMempoolDescendants, GetMempoolInfo, GetRawTransaction, GetTxSpendingPrevout, SubmitPackage}
use Rattle.gate_rpc.specs.declared.request.Request.{Request}
use Rattle.gate_rpc.specs.declared.fault.CallError.{CallError}
use Rattle.gate_rpc.specs.declared.reply.RpcReply.TheVariants.{NotAllowed}
use Rattle.gate_message.specs.declared.caller.Caller.TheVariants.{Peer}
use Rattle.gate_message.specs.declared.event.Event.{Event}
use Rattle.gate_message.specs.declared.event.Event.TheVariants.{Tx as Submit, Package, Mempool, GetBlock, Headers, Rpc}
use Rattle.gate_rules.specs.declared.PeerDenial.{PeerDenial}
use Rattle.gate_rules.specs.declared.PeerDenial.TheVariants.{Admission, BlocksOnly}
use Rattle.gate_message.specs.declared.denial.Then.TheVariants.{Close, Keep}
use Rattle.gate_message.specs.declared.reply.Reply.TheVariants.{Rpc as Answered}
use Rattle.gate_core.specs.Access.{is_historical}
use Rattle.gate_message.specs.Callers.{caller_of}
use Rattle.gate_message.specs.Following.{then_of}
use Rattle.gate_core.specs.PeerSteps.{then_under}
use Rattle.gate_core.specs.SessionLaws.{IsDenied}
use Rattle.gate_core.specs.Sessions.{Session, session_of, flags_in}
use Rattle.gate_core.specs.Steps.{step_of}
use Rattle.gate_message.specs.UserCalls.{UserCall, name_called}
use Rattle.gate_core.specs.World.{World}

-- ---- peers

-- what a peer without these flags is denied, so that its event leaves the pool as it was
pub record Guards (w : World) (peer : ℕ) (flags : Permissions) : Type 0 where
  pub relay : w.blocksonly ≡ true → flags.relay ≡ false → (now : ℕ) (transaction : Option Tx) → IsDenied (step_of w (Submit peer now transaction)).0
  pub packages : w.blocksonly ≡ true → flags.relay ≡ false → (now : ℕ) (parent child : Option Tx) → IsDenied (step_of w (Package peer now parent child)).0
  pub bloom : w.switches.bloom ≡ false → flags.bloomfilter ≡ false → flags.mempool ≡ false → IsDenied (step_of w (Mempool peer)).0
  pub upload : w.switches.upload ≡ true → flags.mempool ≡ false → IsDenied (step_of w (Mempool peer)).0
  pub headers : w.switches.download ≡ true → flags.download ≡ false → (height : ℕ) → IsDenied (step_of w (Headers peer height)).0
  pub blocks : w.switches.historic ≡ true → flags.download ≡ false → (height : ℕ) → is_historical w.chain height ≡ true → IsDenied (step_of w (GetBlock peer height)).0

abbrev pub FlagsGuard : Type 0
FlagsGuard = (w : World) (peer : ℕ) → Guards w peer (flags_in w.sessions peer)

-- under every policy only one denial closes the session of a peer with noban: that of a transaction that comes while the node takes
-- blocks only
abbrev pub NobanIsKept : Type 0
NobanIsKept = (policy : Policy) (flags : Permissions) (denial : PeerDenial) → flags.noban ≡ true → denial ≢ BlocksOnly → then_under policy flags denial ≢ Close

-- where the policy keeps sessions, no rule of admission closes one; by default what follows is what the table of rules says
pub record InvalidIsKept : Type 0 where
  pub kept : (policy : Policy) (flags : Permissions) (denial : Denial) → policy.keep_invalid ≡ true → then_under policy flags (Admission denial) ≡ Keep
  pub usual : (flags : Permissions) (denial : PeerDenial) → then_under usual_policy flags denial ≡ then_of flags denial

-- no event of a peer whose session is closed changes anything
abbrev pub ClosedSessionsChangeNothing : Type 0
ClosedSessionsChangeNothing =
    (w : World) (event : Event) (peer : ℕ) (s : Session) → caller_of event ≡ Peer peer → session_of w.sessions peer ≡ Some s → s.is_open ≡ false → (step_of w event).1 ≡ w

-- ---- users

-- a call of a method that the user's list lacks is not allowed and changes nothing, whatever else the call says
abbrev pub ListsBar : Type 0
ListsBar =
    (w : World) (call : UserCall) (list : List (List ℕ)) (name : List ℕ)
    → list_of w.rpcwhitelist.entries call.user ≡ Some list → name_called (request_of call.json) ≡ Some name → is_among name list ≡ false
    → step_of w (Rpc call) ≡ (Answered NotAllowed, w)

-- a user submits no packages: the operator takes none, or the user may not
abbrev pub SubmitsNoPackage : World → List ℕ → Type 0
SubmitsNoPackage w user = (w.policy.packages ≡ false) ⊎ (is_allowed w.rpcwhitelist user (codes "submitpackage") ≡ false)

-- a user who may neither send transactions nor submit packages changes nothing, whatever the calls say
abbrev pub OnlySendersChange : Type 0
OnlySendersChange =
    (w : World) (call : UserCall) → is_allowed w.rpcwhitelist call.user (codes "sendrawtransaction") ≡ false → SubmitsNoPackage w call.user → (step_of w (Rpc call)).1 ≡ w

abbrev pub sends_by : Command → Bool
sends_by (SendRawTransaction transaction) = true
sends_by (TestMempoolAccept transaction) = false
sends_by (TestList transactions) = false
sends_by GetRawMempool = false
sends_by GetRawMempoolVerbose = false
sends_by (GetMempoolEntry txid) = false
sends_by (GetMempoolAncestors txid) = false
sends_by (GetMempoolDescendants txid) = false
sends_by GetMempoolInfo = false
sends_by (GetRawTransaction txid) = false
sends_by (GetTxSpendingPrevout points) = false
sends_by (SubmitPackage call) = true

abbrev pub sends : Result Request CallError → Bool
sends (Ok request) = sends_by request.command
sends (Err error) = false

-- no call but `sendrawtransaction` and `submitpackage` changes anything: `testmempoolaccept` doesn't
abbrev pub QuestionsChangeNothing : Type 0
QuestionsChangeNothing = (w : World) (call : UserCall) → sends (request_of call.json) ≡ false → (step_of w (Rpc call)).1 ≡ w
