-- The package that an event submits, if it submits one, and its step.
use Rattle.std.proofs.Common.{◌≡◌, ℕ, Bool, true, false, if◌then◌else◌, List, Option, Some, None, Result, Ok, Err, refl, sym, ap, ◌∙◌}
use Rattle.gate_bytes.specs.Order.{first_failing}
use Rattle.gate_tx.specs.Tx.{Tx}
use Rattle.gate_rules.specs.declared.PeerDenial.{PeerDenial}
use Rattle.gate_rpc.specs.Calls.{method_of, request_of}
use Rattle.gate_rpc.specs.Faults.{reply_of}
use Rattle.gate_rpc.specs.Methods.{method_name}
use Rattle.gate_rpc.specs.declared.error.RpcError.TheVariants as errors
use Rattle.gate_rpc.specs.declared.method.Method.{Method}
use Rattle.gate_rpc.specs.declared.id.Id.{Id}
use Rattle.gate_rpc.specs.declared.request.Command.{Command}
use Rattle.gate_rpc.specs.declared.request.Command.TheVariants.{SendRawTransaction, TestMempoolAccept, TestList, GetRawMempool, GetRawMempoolVerbose, GetMempoolEntry, GetMempoolAncestors, GetMempoolDescendants, GetMempoolInfo, GetRawTransaction, GetTxSpendingPrevout, SubmitPackage}
use Rattle.gate_rpc.specs.declared.request.PackageCall.{PackageCall}
use Rattle.gate_rpc.specs.declared.request.Request.{Request}
use Rattle.gate_rpc.specs.declared.fault.CallError.{CallError}
use Rattle.gate_rpc.specs.declared.fault.CallError.TheVariants.{ParseError, InvalidRequest, MethodNotFound, InvalidParams}
use Rattle.gate_rpc.specs.declared.reply.RpcReply.TheVariants.{NotAllowed}
use Rattle.gate_message.specs.UserCalls.{UserCall}
use Rattle.gate_message.specs.declared.event.Event.{Event}
use Rattle.gate_message.specs.declared.event.Event.TheVariants.{Enter, Leave, Tx as Submit, Package, Mempool, GetBlock, Headers, FeeFilter, Rpc, SetFloor, Set as Turn, Chain as OfChain}
use Rattle.gate_message.specs.declared.reply.Reply.TheVariants.{Rpc as Answered}
use Rattle.gate_core.specs.Packaging.{lacks_method, served}
use Rattle.gate_core.specs.declared.packaging.AskedPackage.{AskedPackage}
use Rattle.gate_core.specs.declared.packaging.AskedPackage.TheVariants.{Call, Pair}
use Rattle.gate_core.specs.Access.{package_rules}
use Rattle.gate_core.specs.PackageSteps.{called_in, called_with, package_in, package_of, packaged_step, pair_in, pair_with, unless_refused}
use Rattle.gate_core.specs.Pairing.{both_of, package_step, paired_if_read}
use Rattle.gate_core.specs.PeerSteps.{answered}
use Rattle.gate_core.specs.RpcSteps.{called_by, commanded, is_barred, rpc_step, told}
use Rattle.gate_core.specs.Steps.{step_of}
use Rattle.gate_core.specs.World.{World}

-- no other command submits a package
pub no_package : (now : ℕ) (id : Id) (command : Command) → ((call : PackageCall) → command ≡ SubmitPackage call → ⊥) → called_with now id command ≡ None
no_package now id (SendRawTransaction transaction) other = refl
no_package now id (TestMempoolAccept transaction) other = refl
no_package now id (TestList transactions) other = refl
no_package now id GetRawMempool other = refl
no_package now id GetRawMempoolVerbose other = refl
no_package now id (GetMempoolEntry txid) other = refl
no_package now id (GetMempoolAncestors txid) other = refl
no_package now id (GetMempoolDescendants txid) other = refl
no_package now id GetMempoolInfo other = refl
no_package now id (GetRawTransaction txid) other = refl
no_package now id (GetTxSpendingPrevout points) other = refl
no_package now id (SubmitPackage call) other = absurd (other call refl)

module _ (w : World) (call : UserCall) where
  of_fault : (error : CallError) → called_in call.time (served w (Err error)) ≡ None
  of_fault ParseError = refl
  of_fault InvalidRequest = refl
  of_fault (MethodNotFound id name) = refl
  of_fault (InvalidParams id method) = by (lacks_method w method)
    where
      by : (b : Bool) → called_in call.time (if b then Err (MethodNotFound id (method_name method)) else Err (InvalidParams id method)) ≡ None
      by true = refl
      by false = refl

  -- a call that asks for nothing that there is
  pub of_error : (error : CallError) → request_of call.json ≡ Err error → package_in w call ≡ None
  of_error error is =
      ap (λ (r : Result Request CallError). if is_barred w call.user r then None else called_in call.time (served w r)) is ∙ by (is_barred w call.user (Err error))
    where
      by : (b : Bool) → (if b then None else called_in call.time (served w (Err error))) ≡ None
      by true = refl
      by false = of_fault error

  -- a call that the user may not make
  pub of_barred : is_barred w call.user (request_of call.json) ≡ true → package_in w call ≡ None
  of_barred bars = ap (λ (b : Bool). if b then None else called_in call.time (served w (request_of call.json))) bars

  -- a call that the user may make
  opened : is_barred w call.user (request_of call.json) ≡ false → (request : Result Request CallError) → request_of call.json ≡ request
      → called_by w call.time (served w request) ≡ rpc_step w call.user call.time (request_of call.json)
  opened may request is =
      sym
      (ap (λ (b : Bool). if b then (Answered NotAllowed, w) else called_by w call.time (served w (request_of call.json))) may
      ∙ ap (λ (r : Result Request CallError). called_by w call.time (served w r)) is)

  pub failing_step : (error : CallError) → request_of call.json ≡ Err error → is_barred w call.user (request_of call.json) ≡ false
      → called_by w call.time (served w (Err error)) ≡ rpc_step w call.user call.time (request_of call.json)
  failing_step error is may = opened may (Err error) is

  module _ (request : Request) (is : request_of call.json ≡ Ok request) where
    -- a call of a method that there is not
    pub of_lacking : lacks_method w (method_of request.command) ≡ true → package_in w call ≡ None
    of_lacking lacks =
        ap (λ (r : Result Request CallError). if is_barred w call.user r then None else called_in call.time (served w r)) is ∙ by (is_barred w call.user (Ok request))
      where
        by : (b : Bool) → (if b then None else called_in call.time (served w (Ok request))) ≡ None
        by true = refl
        by false = ap (λ (b : Bool). called_in call.time (if b then Err (MethodNotFound request.id (method_name (method_of request.command))) else Ok request)) lacks

    -- a call that is made
    pub of_request : is_barred w call.user (request_of call.json) ≡ false → lacks_method w (method_of request.command) ≡ false → package_in w call ≡ called_with call.time request.id request.command
    of_request may has =
        ap (λ (b : Bool). if b then None else called_in call.time (served w (request_of call.json))) may
        ∙ (ap (λ (r : Result Request CallError). called_in call.time (served w r)) is
        ∙ ap (λ (b : Bool). called_in call.time (if b then Err (MethodNotFound request.id (method_name (method_of request.command))) else Ok request)) has)

    pub lacking_step : is_barred w call.user (request_of call.json) ≡ false → lacks_method w (method_of request.command) ≡ true
        → told w request.id (Err errors.MethodNotFound) ≡ rpc_step w call.user call.time (request_of call.json)
    lacking_step may lacks =
        sym (ap (λ (b : Bool). called_by w call.time (if b then Err (MethodNotFound request.id (method_name (method_of request.command))) else Ok request)) lacks) ∙ opened may (Ok request) is

    pub command_step : is_barred w call.user (request_of call.json) ≡ false → lacks_method w (method_of request.command) ≡ false
        → commanded w call.time request.id request.command ≡ rpc_step w call.user call.time (request_of call.json)
    command_step may has =
        sym (ap (λ (b : Bool). called_by w call.time (if b then Err (MethodNotFound request.id (method_name (method_of request.command))) else Ok request)) has) ∙ opened may (Ok request) is

-- calls that ask for nothing that there is
module _ (w : World) (now : ℕ) where
  pub params_lack : (id : Id) (method : Method) → lacks_method w method ≡ true → told w id (Err errors.MethodNotFound) ≡ called_by w now (served w (Err (InvalidParams id method)))
  params_lack id method lacks = sym (ap (λ (b : Bool). called_by w now (if b then Err (MethodNotFound id (method_name method)) else Err (InvalidParams id method))) lacks)

  pub params_fault : (id : Id) (method : Method) → lacks_method w method ≡ false → (Answered (reply_of (InvalidParams id method)), w) ≡ called_by w now (served w (Err (InvalidParams id method)))
  params_fault id method has = sym (ap (λ (b : Bool). called_by w now (if b then Err (MethodNotFound id (method_name method)) else Err (InvalidParams id method))) has)

  pub other_fault : (error : CallError) → ((id : Id) (method : Method) → error ≡ InvalidParams id method → ⊥) → (Answered (reply_of error), w) ≡ called_by w now (served w (Err error))
  other_fault ParseError other = refl
  other_fault InvalidRequest other = refl
  other_fault (MethodNotFound id name) other = refl
  other_fault (InvalidParams id method) other = absurd (other id method refl)

some_is : {X : Type 0} (x y : X) → Some x ≡ Some y → x ≡ y
some_is x y e = cc

none_some : {X Y : Type 0} (x : X) → None ≡ Some x → Y
none_some x e = cc

-- the step of an event that submits a package is that of the package
module _ (w : World) (asked : AskedPackage) where
  command_is : (now : ℕ) (id : Id) (command : Command) → called_with now id command ≡ Some asked → packaged_step w asked ≡ commanded w now id command
  command_is now id (SendRawTransaction transaction) is = none_some asked is
  command_is now id (TestMempoolAccept transaction) is = none_some asked is
  command_is now id (TestList transactions) is = none_some asked is
  command_is now id GetRawMempool is = none_some asked is
  command_is now id GetRawMempoolVerbose is = none_some asked is
  command_is now id (GetMempoolEntry txid) is = none_some asked is
  command_is now id (GetMempoolAncestors txid) is = none_some asked is
  command_is now id (GetMempoolDescendants txid) is = none_some asked is
  command_is now id GetMempoolInfo is = none_some asked is
  command_is now id (GetRawTransaction txid) is = none_some asked is
  command_is now id (GetTxSpendingPrevout points) is = none_some asked is
  command_is now id (SubmitPackage call) is =
      let given : AskedPackage = Call (record { second = now; id = id; call = call }) in
      ap (packaged_step w) (sym (some_is given asked is))

  request_is : (now : ℕ) (request : Result Request CallError) → called_in now request ≡ Some asked → packaged_step w asked ≡ called_by w now request
  request_is now (Ok request) is = command_is now request.id request.command is
  request_is now (Err error) is = none_some asked is

  call_is : (call : UserCall) → package_in w call ≡ Some asked → packaged_step w asked ≡ rpc_step w call.user call.time (request_of call.json)
  call_is call is = by (is_barred w call.user (request_of call.json)) is
    where
      by : (b : Bool) → (if b then None else called_in call.time (served w (request_of call.json))) ≡ Some asked
          → packaged_step w asked ≡ (if b then (Answered NotAllowed, w) else called_by w call.time (served w (request_of call.json)))
      by true k = none_some asked k
      by false k = request_is call.time (served w (request_of call.json)) k

  pair_is : (peer now : ℕ) (parent child : Option Tx) → pair_in w peer now parent child ≡ Some asked → packaged_step w asked ≡ package_step w peer now parent child
  pair_is peer now parent child is = by (first_failing (package_rules w peer parent child)) is
    where
      read : (txs : Option (List Tx)) → pair_with peer now txs ≡ Some asked → packaged_step w asked ≡ paired_if_read w peer now txs
      read None k = none_some asked k
      read (Some txs) k = ap (packaged_step w) (sym (some_is (Pair (record { second = now; peer = peer; members = txs })) asked k))

      by : (found : Option PeerDenial) → unless_refused found (pair_with peer now (both_of parent child)) ≡ Some asked
          → packaged_step w asked ≡ answered w peer (paired_if_read w peer now (both_of parent child)) found
      by (Some denial) k = none_some asked k
      by None k = read (both_of parent child) k

  pub event_is : (event : Event) → package_of w event ≡ Some asked → packaged_step w asked ≡ step_of w event
  unfolding step_of
  event_is (Enter peer address) is = none_some asked is
  event_is (Leave peer) is = none_some asked is
  event_is (Submit peer now submission) is = none_some asked is
  event_is (Package peer now parent child) is = pair_is peer now parent child is
  event_is (Mempool peer) is = none_some asked is
  event_is (GetBlock peer height) is = none_some asked is
  event_is (Headers peer height) is = none_some asked is
  event_is (FeeFilter peer rate) is = none_some asked is
  event_is (Rpc call) is = call_is call is
  event_is (SetFloor rate) is = none_some asked is
  event_is (Turn switch on) is = none_some asked is
  event_is (OfChain event) is = none_some asked is
