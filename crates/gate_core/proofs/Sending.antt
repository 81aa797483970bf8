-- What users send that is answered by a txid.
use Rattle.std.proofs.Common.{◌≡◌, ℕ, Bool, true, false, if◌then◌else◌, List, Option, Some, None, Result, Ok, Err, refl}
use Rattle.std.specs.Prelude.{is_none}
use Rattle.std.specs.List.{list_any}
use Rattle.gate_tx.specs.Tx.{Tx}
use Rattle.gate_rules.specs.declared.Denial.{Denial}
use Rattle.gate_rules.specs.declared.Denial.TheVariants.{Decode}
use Rattle.gate_bytes.specs.Order.{first_failing}
use Rattle.gate_rules.specs.declared.PackageDenial.{PackageDenial}
use Rattle.gate_rules.specs.declared.PackageDenial.TheVariants.{BurntAmount, NotChildWithParents, TooLarge, Duplicates, NotSorted, Conflicting, LacksParents, TrucViolation, FamilyLimits, ReplacesAsOthers, HasAncestors, TooManyReplacements, LowerFee, LowerRateThanFirst, ConflictTopology, LowerDiagram, UnspentDust}
use Rattle.gate_submission.specs.declared.PackageOutcome.{PackageOutcome}
use Rattle.gate_submission.specs.PackageOutcomes.{unjudged}
use Rattle.gate_package.specs.declared.Unfit.{Unfit}
use Rattle.gate_package.specs.Shapes.{members_of, shape_rules, text_rules}
use Rattle.gate_admit.specs.declared.Attempt.TheVariants.{First}
use Rattle.gate_admit.specs.declared.Grant.{Grant}
use Rattle.gate_admit.specs.Rules.{decision_of}
use Rattle.gate_admit.specs.Submission.{submit_of}
use Rattle.gate_admit.proofs.Submissions.{AreYoung, granted_young}
use Rattle.gate_query.specs.Answers.{tested_as}
use Rattle.gate_query.specs.Queries.{outcomes_of}
use Rattle.gate_rpc.specs.Calls.{request_of}
use Rattle.gate_rpc.specs.declared.id.Id.{Id}
use Rattle.gate_rpc.specs.declared.request.Command.{Command}
use Rattle.gate_rpc.specs.declared.request.Command.TheVariants.{SendRawTransaction, TestMempoolAccept, TestList, GetRawMempool, GetRawMempoolVerbose, GetMempoolEntry, GetMempoolAncestors, GetMempoolDescendants, GetMempoolInfo, GetRawTransaction, GetTxSpendingPrevout, SubmitPackage}
use Rattle.gate_rpc.specs.declared.request.PackageCall.{PackageCall}
use Rattle.gate_rpc.specs.declared.request.Request.{Request}
use Rattle.gate_rpc.specs.declared.error.RpcError.{RpcError}
use Rattle.gate_rpc.specs.declared.error.RpcError.TheVariants.{Denied}
use Rattle.gate_rpc.specs.declared.fault.CallError.{CallError}
use Rattle.gate_rpc.specs.declared.fault.CallError.TheVariants.{ParseError, InvalidRequest, MethodNotFound, InvalidParams}
use Rattle.gate_rpc.specs.declared.reply.RpcReply.TheVariants.{NotAllowed, Answer, Failure}
use Rattle.gate_rpc.specs.declared.result.RpcResult.TheVariants.{Sent, Txids, Entry, Info, Outcomes, Entries, Transaction, Spendings, Package}
use Rattle.gate_rpc.specs.declared.items.KnownEntry.{KnownEntry}
use Rattle.gate_rpc.specs.declared.items.Outcome.{Outcome}
use Rattle.gate_package.specs.Listed.{listed_of}
use Rattle.gate_package.specs.Shapes.{members_of}
use Rattle.gate_core.specs.TestedLists.{outcomes_as}
use Rattle.gate_rpc.specs.declared.items.Spending.{Spending}
use Rattle.gate_rpc.specs.Faults.{reply_of}
use Rattle.gate_message.specs.declared.reply.Reply.TheVariants.{Rpc}
use Rattle.gate_core.specs.Packaging.{answer_of, error_of, packaged_by, served, unless_denied, unless_unread}
use Rattle.gate_core.specs.RpcSteps.{is_barred, packaged, replied, of_entry, sent, sent_as, commanded, called_by, rpc_step}
use Rattle.gate_core.specs.Runs.{CallsLeaveNothingStale}
use Rattle.gate_core.specs.Steps.{step_of}
use Rattle.gate_core.specs.World.{World, standing_of}
use Rattle.gate_core.proofs.Calls.{left_behind}

-- the answer that a transaction was sent is none of these
module _ {X : Type 0} (id other : Id) (txid : List ℕ) where
  not_failed : (error : RpcError) → Rpc (Failure id error) ≡ Rpc (Answer other (Sent txid)) → X
  not_failed error h = cc

  not_listed : (txids : List (List ℕ)) → Rpc (Answer id (Txids txids)) ≡ Rpc (Answer other (Sent txid)) → X
  not_listed txids h = cc

  not_known : (entry : _) → Rpc (Answer id (Entry entry)) ≡ Rpc (Answer other (Sent txid)) → X
  not_known entry h = cc

  not_told : (size budget least_rate relay_rate count : ℕ) → Rpc (Answer id (Info size budget least_rate relay_rate count)) ≡ Rpc (Answer other (Sent txid)) → X
  not_told size budget least_rate relay_rate count h = cc

  not_tested : (tx : Tx) (decision : Result Grant Denial) → Rpc (Answer id (tested_as tx decision)) ≡ Rpc (Answer other (Sent txid)) → X
  not_tested tx (Ok grant) h = cc
  not_tested tx (Err denial) h = cc

  not_outcomes : (outcomes : List Outcome) → Rpc (Answer id (Outcomes outcomes)) ≡ Rpc (Answer other (Sent txid)) → X
  not_outcomes outcomes h = cc

  not_entries : (entries : List KnownEntry) → Rpc (Answer id (Entries entries)) ≡ Rpc (Answer other (Sent txid)) → X
  not_entries entries h = cc

  not_transaction : (tx : Tx) → Rpc (Answer id (Transaction tx)) ≡ Rpc (Answer other (Sent txid)) → X
  not_transaction tx h = cc

  not_spendings : (spendings : List Spending) → Rpc (Answer id (Spendings spendings)) ≡ Rpc (Answer other (Sent txid)) → X
  not_spendings spendings h = cc

  outcomes_or_not : (found : List Outcome) (b : Bool) → Rpc (replied id (if b then Err (Denied Decode) else Ok (Outcomes found))) ≡ Rpc (Answer other (Sent txid)) → X
  outcomes_or_not found true h = not_failed _ h
  outcomes_or_not found false h = not_outcomes _ h

  tested_or_not : (together one_by_one : List Outcome) (packages b : Bool)
      → Rpc (replied id (if packages then (if b then Err (Denied Decode) else Ok (Outcomes together)) else (if b then Err (Denied Decode) else Ok (Outcomes one_by_one)))) ≡ Rpc (Answer other (Sent txid)) → X
  tested_or_not together one_by_one true b h = outcomes_or_not together b h
  tested_or_not together one_by_one false b h = outcomes_or_not one_by_one b h

  transaction_or_not : (found : Option Tx) → Rpc (replied id (of_entry Transaction found)) ≡ Rpc (Answer other (Sent txid)) → X
  transaction_or_not None h = not_failed _ h
  transaction_or_not (Some tx) h = not_transaction tx h

  listed_or_not : (found : Option (List (List ℕ))) → Rpc (replied id (of_entry Txids found)) ≡ Rpc (Answer other (Sent txid)) → X
  listed_or_not None h = not_failed _ h
  listed_or_not (Some txids) h = not_listed txids h

  known_or_not : (found : Option _) → Rpc (replied id (of_entry Entry found)) ≡ Rpc (Answer other (Sent txid)) → X
  known_or_not None h = not_failed _ h
  known_or_not (Some entry) h = not_known entry h

-- nor is the answer to a package
module _ {X : Type 0} (id other : Id) (txid : List ℕ) where
  not_packaged : (outcome : PackageOutcome) → Rpc (Answer id (Package outcome)) ≡ Rpc (Answer other (Sent txid)) → X
  not_packaged outcome h = cc

  not_unjudged : (denial : PackageDenial) → Rpc (replied id (answer_of denial)) ≡ Rpc (Answer other (Sent txid)) → X
  not_unjudged BurntAmount h = not_packaged (unjudged BurntAmount) h
  not_unjudged NotChildWithParents h = not_failed id other txid _ h
  not_unjudged TooLarge h = not_packaged (unjudged TooLarge) h
  not_unjudged Duplicates h = not_packaged (unjudged Duplicates) h
  not_unjudged Conflicting h = not_packaged (unjudged Conflicting) h
  not_unjudged NotSorted h = not_packaged (unjudged NotSorted) h
  not_unjudged LacksParents h = not_packaged (unjudged LacksParents) h
  not_unjudged TrucViolation h = not_packaged (unjudged TrucViolation) h
  not_unjudged FamilyLimits h = not_packaged (unjudged FamilyLimits) h
  not_unjudged ReplacesAsOthers h = not_packaged (unjudged ReplacesAsOthers) h
  not_unjudged HasAncestors h = not_packaged (unjudged HasAncestors) h
  not_unjudged TooManyReplacements h = not_packaged (unjudged TooManyReplacements) h
  not_unjudged LowerFee h = not_packaged (unjudged LowerFee) h
  not_unjudged LowerRateThanFirst h = not_packaged (unjudged LowerRateThanFirst) h
  not_unjudged ConflictTopology h = not_packaged (unjudged ConflictTopology) h
  not_unjudged LowerDiagram h = not_packaged (unjudged LowerDiagram) h
  not_unjudged UnspentDust h = not_packaged (unjudged UnspentDust) h

  not_submitted : (w : World) (now : ℕ) (call : PackageCall) → (packaged id (packaged_by w now call)).0 ≡ Rpc (Answer other (Sent txid)) → X
  not_submitted w now call h = read (first_failing (text_rules call.max_burn call.members)) h
    where
      fit : (found : Option PackageDenial) → (packaged id (unless_denied w found (left_behind w now call))).0 ≡ Rpc (Answer other (Sent txid)) → X
      fit (Some denial) k = not_unjudged denial k
      fit None k = not_packaged _ k

      read : (found : Option Unfit) → (packaged id (unless_unread w found (unless_denied w (first_failing (shape_rules w.chain w.policy (members_of call.members))) (left_behind w now call)))).0 ≡ Rpc (Answer other (Sent txid)) → X
      read (Some unfit) k = not_failed id other txid (error_of unfit) k
      read None k = fit (first_failing (shape_rules w.chain w.policy (members_of call.members))) k

sent_young : (w : World) (now : ℕ) (id other : Id) (transaction : Option Tx) (txid : List ℕ)
    → (sent w id transaction (submit_of (standing_of w) transaction now w.budget)).0 ≡ Rpc (Answer other (Sent txid))
    → AreYoung w.policy.stay now (submit_of (standing_of w) transaction now w.budget).entries
sent_young w now id other None txid h = not_failed id other txid _ h
sent_young w now id other (Some tx) txid h = go (submit_of (standing_of w) (Some tx) now w.budget).decision refl h
  where
    go : (decision : Result Grant Denial) → (submit_of (standing_of w) (Some tx) now w.budget).decision ≡ decision → Rpc (replied id (sent_as (Some tx) decision)) ≡ Rpc (Answer other (Sent txid))
        → AreYoung w.policy.stay now (submit_of (standing_of w) (Some tx) now w.budget).entries
    go (Ok grant) d k = granted_young (standing_of w) tx now w.budget grant d
    go (Err denial) d k = not_failed id other txid _ k

module _ (w : World) (now : ℕ) (other : Id) (txid : List ℕ) where
  command_young : (id : Id) (command : Command) → (commanded w now id command).0 ≡ Rpc (Answer other (Sent txid)) → AreYoung w.policy.stay now (commanded w now id command).1.pool
  command_young id (SendRawTransaction transaction) h = sent_young w now id other transaction txid h
  command_young id (TestMempoolAccept None) h = not_failed id other txid _ h
  command_young id (TestMempoolAccept (Some tx)) h = not_tested id other txid tx (decision_of First (standing_of w) (Some tx)) h
  command_young id (TestList transactions) h = tested_or_not id other txid (outcomes_as (members_of transactions) (listed_of (standing_of w) (members_of transactions))) (outcomes_of (standing_of w) now transactions) w.policy.packages (list_any is_none transactions) h
  command_young id GetRawMempool h = not_listed id other txid _ h
  command_young id GetRawMempoolVerbose h = not_entries id other txid _ h
  command_young id (GetMempoolEntry asked) h = known_or_not id other txid _ h
  command_young id (GetMempoolAncestors asked) h = listed_or_not id other txid _ h
  command_young id (GetMempoolDescendants asked) h = listed_or_not id other txid _ h
  command_young id GetMempoolInfo h = not_told id other txid _ _ _ _ _ h
  command_young id (GetRawTransaction asked) h = transaction_or_not id other txid _ h
  command_young id (GetTxSpendingPrevout points) h = not_spendings id other txid _ h
  command_young id (SubmitPackage call) h = not_submitted id other txid w now call h

  not_faulted : {X : Type 0} (error : CallError) → Rpc (reply_of error) ≡ Rpc (Answer other (Sent txid)) → X
  not_faulted ParseError h = cc
  not_faulted InvalidRequest h = cc
  not_faulted (MethodNotFound id name) h = cc
  not_faulted (InvalidParams id method) h = cc

  request_young : (request : Result Request CallError) → (called_by w now request).0 ≡ Rpc (Answer other (Sent txid)) → AreYoung w.policy.stay now (called_by w now request).1.pool
  request_young (Ok request) h = command_young request.id request.command h
  request_young (Err error) h = not_faulted error h

  pub call_young : (user : List ℕ) (request : Result Request CallError) → (rpc_step w user now request).0 ≡ Rpc (Answer other (Sent txid)) → AreYoung w.policy.stay now (rpc_step w user now request).1.pool
  call_young user request h = by (is_barred w user request) h
    where
      barred : {X : Type 0} → Rpc NotAllowed ≡ Rpc (Answer other (Sent txid)) → X
      barred k = cc

      by : (b : Bool) → (if b then (Rpc NotAllowed, w) else called_by w now (served w request)).0 ≡ Rpc (Answer other (Sent txid)) → AreYoung w.policy.stay now (if b then (Rpc NotAllowed, w) else called_by w now (served w request)).1.pool
      by true k = barred k
      by false k = request_young (served w request) k

pub calls_leave_nothing_stale : CallsLeaveNothingStale
unfolding step_of
calls_leave_nothing_stale w call id txid h = call_young w call.time id txid call.user (request_of call.json) h
