-- What users change, and what they don't.
use Rattle.std.proofs.Common.{◌≡◌, ℕ, Bool, true, false, not, true≢false, if◌then◌else◌, List, Option, Some, Result, Ok, Err, refl, ap, ◌∙◌, inl, inr}
use Rattle.std.specs.Option.{option_map_or}
use Rattle.std.specs.Prelude.{codes}
use Rattle.gate_rpc.specs.Calls.{method_of, request_of}
use Rattle.gate_rpc.specs.Lists.{is_allowed, is_among, is_listed, list_of}
use Rattle.gate_rpc.specs.declared.request.Command.{Command}
use Rattle.gate_rpc.specs.declared.request.Command.TheVariants.{SendRawTransaction, TestMempoolAccept, TestList, GetRawMempool, GetRawMempoolVerbose, GetMempoolEntry, GetMempoolAncestors, GetMempoolDescendants, GetMempoolInfo, GetRawTransaction, GetTxSpendingPrevout, SubmitPackage}
use Rattle.gate_rpc.specs.declared.request.Request.{Request}
use Rattle.gate_rpc.specs.declared.fault.CallError.{CallError}
use Rattle.gate_rpc.specs.declared.fault.CallError.TheVariants.{ParseError, InvalidRequest, MethodNotFound, InvalidParams}
use Rattle.gate_rpc.specs.Methods.{method_name}
use Rattle.gate_rpc.specs.declared.reply.RpcReply.TheVariants.{NotAllowed}
use Rattle.gate_message.specs.declared.reply.Reply.{Reply}
use Rattle.gate_message.specs.declared.reply.Reply.TheVariants.{Rpc as Answered}
use Rattle.gate_core.specs.AccessLaws.{ListsBar, OnlySendersChange, QuestionsChangeNothing, SubmitsNoPackage, sends, sends_by}
use Rattle.gate_core.specs.Packaging.{lacks_method, served}
use Rattle.gate_core.specs.RpcSteps.{is_barred, commanded, called_by, rpc_step}
use Rattle.gate_core.specs.Steps.{step_of}
use Rattle.gate_message.specs.UserCalls.{name_called}
use Rattle.gate_core.specs.World.{World}

barred : (w : World) (user : List ℕ) (now : ℕ) (request : Result Request CallError) → is_barred w user request ≡ true → rpc_step w user now request ≡ (Answered NotAllowed, w)
barred w user now request h = ap (λ (b : Bool). if b then (Answered NotAllowed, w) else called_by w now (served w request)) h

-- the list decides, whatever the default is
listed_not : (is_default_on : Bool) (entries : Option (List (List ℕ))) (list : List (List ℕ)) (name : List ℕ) → entries ≡ Some list → is_among name list ≡ false → is_listed is_default_on entries name ≡ false
listed_not is_default_on entries list name is lacks = ap (λ o. is_listed is_default_on o name) is ∙ lacks

pub lists_bar : ListsBar
unfolding step_of
lists_bar w call list name has named lacks =
    barred w call.user call.time (request_of call.json)
    (ap (λ o. option_map_or (λ n. not (is_allowed w.rpcwhitelist call.user n)) o false) named
    ∙ ap not (listed_not w.rpcwhitelist.is_default_on (list_of w.rpcwhitelist.entries call.user) list name has lacks))

module _ (w : World) (now : ℕ) where
  command_stays : (request : Request) → sends_by request.command ≡ false → (commanded w now request.id request.command).1 ≡ w
  command_stays request h = by request.command h
    where
      by : (command : Command) → sends_by command ≡ false → (commanded w now request.id command).1 ≡ w
      by (SendRawTransaction transaction) k = absurd (true≢false k)
      by (TestMempoolAccept transaction) k = refl
      by (TestList transactions) k = refl
      by GetRawMempool k = refl
      by GetRawMempoolVerbose k = refl
      by (GetMempoolEntry txid) k = refl
      by (GetMempoolAncestors txid) k = refl
      by (GetMempoolDescendants txid) k = refl
      by GetMempoolInfo k = refl
      by (GetRawTransaction txid) k = refl
      by (GetTxSpendingPrevout points) k = refl
      by (SubmitPackage call) k = absurd (true≢false k)

  sends_served : (request : Result Request CallError) → sends request ≡ false → sends (served w request) ≡ false
  sends_served (Ok request) h = by (lacks_method w (method_of request.command))
    where
      by : (b : Bool) → sends (if b then Err (MethodNotFound request.id (method_name (method_of request.command))) else Ok request) ≡ false
      by true = refl
      by false = h
  sends_served (Err ParseError) h = refl
  sends_served (Err InvalidRequest) h = refl
  sends_served (Err (MethodNotFound id name)) h = refl
  sends_served (Err (InvalidParams id method)) h = by (lacks_method w method)
    where
      by : (b : Bool) → sends (if b then Err (MethodNotFound id (method_name method)) else Err (InvalidParams id method)) ≡ false
      by true = refl
      by false = refl

  question_stays : (user : List ℕ) (request : Result Request CallError) → sends request ≡ false → (rpc_step w user now request).1 ≡ w
  question_stays user request h = by (is_barred w user request) (stays (served w request) (sends_served request h))
    where
      stays : (r : Result Request CallError) → sends r ≡ false → (called_by w now r).1 ≡ w
      stays (Ok r) k = command_stays r k
      stays (Err e) k = refl

      by : (b : Bool) → (called_by w now (served w request)).1 ≡ w → (if b then (Answered NotAllowed, w) else called_by w now (served w request)).1 ≡ w
      by true k = refl
      by false k = k

  -- where the operator takes no packages, a call for one changes nothing
  lacking_stays : (user : List ℕ) (request : Request) → lacks_method w (method_of request.command) ≡ true → (rpc_step w user now (Ok request)).1 ≡ w
  lacking_stays user request lacks = by (is_barred w user (Ok request))
    where
      by : (b : Bool) → (if b then (Answered NotAllowed, w) else called_by w now (served w (Ok request))).1 ≡ w
      by true = refl
      by false = ap (λ (b : Bool). (called_by w now (if b then Err (MethodNotFound request.id (method_name (method_of request.command))) else Ok request)).1) lacks

  sender_stays : (user : List ℕ) (request : Result Request CallError) → is_allowed w.rpcwhitelist user (codes "sendrawtransaction") ≡ false → SubmitsNoPackage w user → (rpc_step w user now request).1 ≡ w
  sender_stays user (Err error) h none = question_stays user (Err error) refl
  sender_stays user (Ok request) h none = by request.command refl
    where
      by : (command : Command) → request.command ≡ command → (rpc_step w user now (Ok request)).1 ≡ w
      by (SendRawTransaction transaction) is =
          ap (λ (p : Reply × World). p.1)
          (barred w user now (Ok request)
          (ap (λ (c : Command). option_map_or (λ n. not (is_allowed w.rpcwhitelist user n)) (name_called (Ok (record request { command = c }))) false) is ∙ ap not h))
      by (TestMempoolAccept transaction) is = question_stays user (Ok request) (ap sends_by is)
      by (TestList transactions) is = question_stays user (Ok request) (ap sends_by is)
      by GetRawMempool is = question_stays user (Ok request) (ap sends_by is)
      by GetRawMempoolVerbose is = question_stays user (Ok request) (ap sends_by is)
      by (GetMempoolEntry txid) is = question_stays user (Ok request) (ap sends_by is)
      by (GetMempoolAncestors txid) is = question_stays user (Ok request) (ap sends_by is)
      by (GetMempoolDescendants txid) is = question_stays user (Ok request) (ap sends_by is)
      by GetMempoolInfo is = question_stays user (Ok request) (ap sends_by is)
      by (GetRawTransaction txid) is = question_stays user (Ok request) (ap sends_by is)
      by (GetTxSpendingPrevout points) is = question_stays user (Ok request) (ap sends_by is)
      by (SubmitPackage call) is = elim none [
        | inl off ↦ lacking_stays user request (ap (λ (c : Command). lacks_method w (method_of c)) is ∙ ap not off)
        | inr lacks ↦
            ap (λ (p : Reply × World). p.1)
            (barred w user now (Ok request)
            (ap (λ (c : Command). option_map_or (λ n. not (is_allowed w.rpcwhitelist user n)) (name_called (Ok (record request { command = c }))) false) is ∙ ap not lacks))
      ]

pub questions_change_nothing : QuestionsChangeNothing
unfolding step_of
questions_change_nothing w call h = question_stays w call.time call.user (request_of call.json) h

pub only_senders_change : OnlySendersChange
unfolding step_of
only_senders_change w call h none = sender_stays w call.time call.user (request_of call.json) h none
