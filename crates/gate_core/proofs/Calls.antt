-- What calls give: nothing changes but by a transaction that is sent, and by a package.
use Rattle.std.proofs.Common.{◌≡◌, ℕ, Bool, true, false, List, Option, Some, None, Result, Ok, Err, if◌then◌else◌, refl}
use Rattle.std.specs.Option.{option_to_list}
use Rattle.gate_bytes.specs.Order.{first_failing}
use Rattle.gate_tx.specs.Tx.{Tx}
use Rattle.gate_rules.specs.declared.PackageDenial.{PackageDenial}
use Rattle.gate_admit.specs.Submission.{submit_of}
use Rattle.gate_package.specs.declared.Unfit.{Unfit}
use Rattle.gate_package.specs.Packages.{packaged_of}
use Rattle.gate_package.specs.Shapes.{members_of, shape_rules, text_rules}
use Rattle.gate_rpc.specs.declared.id.Id.{Id}
use Rattle.gate_rpc.specs.declared.request.Command.{Command}
use Rattle.gate_rpc.specs.declared.request.Command.TheVariants.{SendRawTransaction, TestMempoolAccept, TestList, GetRawMempool, GetRawMempoolVerbose, GetMempoolEntry, GetMempoolAncestors, GetMempoolDescendants, GetMempoolInfo, GetRawTransaction, GetTxSpendingPrevout, SubmitPackage}
use Rattle.gate_rpc.specs.declared.request.PackageCall.{PackageCall}
use Rattle.gate_rpc.specs.declared.request.Request.{Request}
use Rattle.gate_rpc.specs.declared.fault.CallError.{CallError}
use Rattle.gate_rpc.specs.declared.fault.CallError.TheVariants.{ParseError, InvalidRequest, MethodNotFound, InvalidParams}
use Rattle.gate_rpc.specs.declared.reply.RpcReply.{RpcReply}
use Rattle.gate_rpc.specs.declared.reply.RpcReply.TheVariants.{NotAllowed}
use Rattle.gate_rpc.specs.Calls.{method_of}
use Rattle.gate_rpc.specs.Faults.{reply_of}
use Rattle.gate_rpc.specs.Methods.{method_name}
use Rattle.gate_message.specs.declared.reply.Reply.{Reply}
use Rattle.gate_message.specs.declared.reply.Reply.TheVariants.{Rpc}
use Rattle.gate_message.specs.Spelled.{offered_by, offered}
use Rattle.gate_core.specs.Packaging.{Answered, answer_of, error_of, lacks_method, left_by, packaged_by, served, unless_denied, unless_unread}
use Rattle.gate_core.specs.RpcSteps.{is_barred, commanded, called_by, packaged, replied, sent, rpc_step}
use Rattle.gate_core.specs.World.{World, standing_of}

-- what a package leaves once its texts are read and its members fit
abbrev pub left_behind : World → ℕ → PackageCall → Answered
left_behind w now call = left_by w (packaged_of call.max_rate (standing_of w) (members_of call.members) now w.budget)

module _ (P : Reply × World → Type 0) (w : World) (now : ℕ) where
  -- a package is answered and changes nothing, or its members are judged
  pub package_gives : (id : Id) (call : PackageCall) → ((answer : RpcReply) → P (Rpc answer, w)) → P (packaged id (left_behind w now call)) → P (packaged id (packaged_by w now call))
  package_gives id call same leave = read (first_failing (text_rules call.max_burn call.members))
    where
      fit : (found : Option PackageDenial) → P (packaged id (unless_denied w found (left_behind w now call)))
      fit (Some denial) = same (replied id (answer_of denial))
      fit None = leave

      read : (found : Option Unfit) → P (packaged id (unless_unread w found (unless_denied w (first_failing (shape_rules w.chain w.policy (members_of call.members))) (left_behind w now call))))
      read (Some unfit) = same (replied id (Err (error_of unfit)))
      read None = fit (first_failing (shape_rules w.chain w.policy (members_of call.members)))

  pub command_gives : (id : Id) (command : Command) → ((answer : RpcReply) → P (Rpc answer, w))
      → ((transaction : Option Tx) → option_to_list transaction ≡ offered_by command → P (sent w id transaction (submit_of (standing_of w) transaction now w.budget)))
      → ((call : PackageCall) → members_of call.members ≡ offered_by command → P (packaged id (left_behind w now call)))
      → P (commanded w now id command)
  command_gives id (SendRawTransaction transaction) same send leave = send transaction refl
  command_gives id (TestMempoolAccept transaction) same send leave = same _
  command_gives id (TestList transactions) same send leave = same _
  command_gives id GetRawMempool same send leave = same _
  command_gives id GetRawMempoolVerbose same send leave = same _
  command_gives id (GetMempoolEntry txid) same send leave = same _
  command_gives id (GetMempoolAncestors txid) same send leave = same _
  command_gives id (GetMempoolDescendants txid) same send leave = same _
  command_gives id GetMempoolInfo same send leave = same _
  command_gives id (GetRawTransaction txid) same send leave = same _
  command_gives id (GetTxSpendingPrevout points) same send leave = same _
  command_gives id (SubmitPackage call) same send leave = package_gives id call same (leave call refl)

  served_gives : (request : Result Request CallError) → ((answer : RpcReply) → P (Rpc answer, w))
      → ((id : Id) (transaction : Option Tx) → option_to_list transaction ≡ offered request → P (sent w id transaction (submit_of (standing_of w) transaction now w.budget)))
      → ((id : Id) (call : PackageCall) → members_of call.members ≡ offered request → P (packaged id (left_behind w now call)))
      → P (called_by w now (served w request))
  served_gives (Ok request) same send leave = by (lacks_method w (method_of request.command))
    where
      by : (b : Bool) → P (called_by w now (if b then Err (MethodNotFound request.id (method_name (method_of request.command))) else Ok request))
      by true = same (reply_of (MethodNotFound request.id (method_name (method_of request.command))))
      by false = command_gives request.id request.command same (λ transaction is. send request.id transaction is) (λ call is. leave request.id call is)
  served_gives (Err ParseError) same send leave = same (reply_of ParseError)
  served_gives (Err InvalidRequest) same send leave = same (reply_of InvalidRequest)
  served_gives (Err (MethodNotFound id name)) same send leave = same (reply_of (MethodNotFound id name))
  served_gives (Err (InvalidParams id method)) same send leave = by (lacks_method w method)
    where
      by : (b : Bool) → P (called_by w now (if b then Err (MethodNotFound id (method_name method)) else Err (InvalidParams id method)))
      by true = same (reply_of (MethodNotFound id (method_name method)))
      by false = same (reply_of (InvalidParams id method))

  -- a call is answered and changes nothing, or sends a transaction, or submits a package whose members are judged
  pub call_gives : (user : List ℕ) (request : Result Request CallError) → ((answer : RpcReply) → P (Rpc answer, w))
      → ((id : Id) (transaction : Option Tx) → option_to_list transaction ≡ offered request → P (sent w id transaction (submit_of (standing_of w) transaction now w.budget)))
      → ((id : Id) (call : PackageCall) → members_of call.members ≡ offered request → P (packaged id (left_behind w now call)))
      → P (rpc_step w user now request)
  call_gives user request same send leave = by (is_barred w user request)
    where
      by : (b : Bool) → P (if b then (Rpc NotAllowed, w) else called_by w now (served w request))
      by true = same NotAllowed
      by false = served_gives request same send leave
