-- What a call gives: the reply, and the state after it.
use Rattle.std.specs.Prelude.{ℕ, Bool, false, not, if◌then◌else◌, List, Option, Some, None, Result, Ok, Err}
use Rattle.std.specs.Option.{option_map, option_map_or, ok_or}
use Rattle.gate_tx.specs.Tx.{Tx}
use Rattle.gate_tx.specs.Ids.{txid_of}
use Rattle.gate_rules.specs.declared.Denial.{Denial}
use Rattle.gate_rules.specs.declared.Denial.TheVariants.{Decode}
use Rattle.gate_pool.specs.Pool.{listing_of}
use Rattle.gate_admit.specs.declared.Grant.{Grant}
use Rattle.gate_admit.specs.Submission.{Submitted, submit_of}
use Rattle.gate_query.specs.Answers.{info_of, ancestors_listed, descendants_listed, pool_info, tested}
use Rattle.gate_query.specs.Queries.{entries_known, spendings_of, transaction_of}
use Rattle.gate_rpc.specs.declared.id.Id.{Id}
use Rattle.gate_rpc.specs.declared.request.Command.{Command}
use Rattle.gate_rpc.specs.declared.request.Command.TheVariants.{SendRawTransaction, TestMempoolAccept, TestList, GetRawMempool, GetRawMempoolVerbose, GetMempoolEntry, GetMempoolAncestors, GetMempoolDescendants, GetMempoolInfo, GetRawTransaction, GetTxSpendingPrevout, SubmitPackage}
use Rattle.gate_rpc.specs.declared.request.Request.{Request}
use Rattle.gate_rpc.specs.declared.fault.CallError.{CallError}
use Rattle.gate_rpc.specs.declared.error.RpcError.{RpcError}
use Rattle.gate_rpc.specs.declared.error.RpcError.TheVariants.{NotInMempool, Denied}
use Rattle.gate_rpc.specs.declared.result.RpcResult.{RpcResult}
use Rattle.gate_rpc.specs.declared.result.RpcResult.TheVariants.{Sent, Txids, Entry, Entries, Transaction, Spendings}
use Rattle.gate_rpc.specs.declared.reply.RpcReply.{RpcReply}
use Rattle.gate_rpc.specs.declared.reply.RpcReply.TheVariants.{NotAllowed, Answer, Failure}
use Rattle.gate_rpc.specs.Faults.{reply_of}
use Rattle.gate_rpc.specs.Lists.{is_allowed}
use Rattle.gate_message.specs.declared.reply.Reply.{Reply}
use Rattle.gate_message.specs.declared.reply.Reply.TheVariants.{Rpc}
use Rattle.gate_message.specs.UserCalls.{name_called}
use Rattle.gate_core.specs.World.{World, standing_of}
use Rattle.gate_core.specs.Packaging.{Answered, packaged_by, served}
use Rattle.gate_core.specs.TestedLists.{list_tested}

-- the answer to the call of this id
abbrev pub replied : Id → Result RpcResult RpcError → RpcReply
replied id (Ok result) = Answer id result
replied id (Err error) = Failure id error

-- an answer that changes nothing
abbrev pub told : World → Id → Result RpcResult RpcError → Reply × World
told w id outcome = (Rpc (replied id outcome), w)

-- the result of a call that asks about an entry
abbrev pub of_entry : {X : Type 0} → (X → RpcResult) → Option X → Result RpcResult RpcError
of_entry result found = ok_or (option_map result found) NotInMempool

-- the result of a submission with this decision
abbrev pub sent_as : Option Tx → Result Grant Denial → Result RpcResult RpcError
sent_as None decision = Err (Denied Decode)
sent_as (Some tx) (Ok grant) = Ok (Sent (txid_of tx))
sent_as (Some tx) (Err denial) = Err (Denied denial)

-- what a submission with this outcome gives: pool and floor are as it left them, whatever the reply
abbrev pub sent : World → Id → Option Tx → Submitted → Reply × World
sent w id transaction s = told (record w { pool = s.entries; floor = s.floor }) id (sent_as transaction s.decision)

-- what a package leaves
abbrev pub packaged : Id → Answered → Reply × World
packaged id a = told a.world id a.answer

-- only transactions that are sent, and packages, change something
abbrev pub commanded : World → ℕ → Id → Command → Reply × World
commanded w now id (SendRawTransaction transaction) = sent w id transaction (submit_of (standing_of w) transaction now w.budget)
commanded w now id (TestMempoolAccept transaction) = told w id (tested (standing_of w) transaction)
commanded w now id (TestList transactions) = told w id (list_tested w now transactions)
commanded w now id GetRawMempool = told w id (Ok (Txids (listing_of w.pool)))
commanded w now id GetRawMempoolVerbose = told w id (Ok (Entries (entries_known w.pool)))
commanded w now id (GetMempoolEntry txid) = told w id (of_entry Entry (info_of w.pool txid))
commanded w now id (GetMempoolAncestors txid) = told w id (of_entry Txids (ancestors_listed w.pool txid))
commanded w now id (GetMempoolDescendants txid) = told w id (of_entry Txids (descendants_listed w.pool txid))
commanded w now id GetMempoolInfo = told w id (Ok (pool_info w.pool w.floor w.policy w.budget))
commanded w now id (GetRawTransaction txid) = told w id (of_entry Transaction (transaction_of w.pool txid))
commanded w now id (GetTxSpendingPrevout points) = told w id (Ok (Spendings (spendings_of w.pool points)))
commanded w now id (SubmitPackage call) = packaged id (packaged_by w now call)

-- a call that may be made: the command that was read is done, or the reply tells the error
abbrev pub called_by : World → ℕ → Result Request CallError → Reply × World
called_by w now (Ok request) = commanded w now request.id request.command
called_by w now (Err error) = (Rpc (reply_of error), w)

-- U1: the user's list lacks the method. It is asked once the name of the method was read, whether or not there is such a method
abbrev pub is_barred : World → List ℕ → Result Request CallError → Bool
is_barred w user request = option_map_or (λ name. not (is_allowed w.rpcwhitelist user name)) (name_called request) false

abbrev pub rpc_step : World → List ℕ → ℕ → Result Request CallError → Reply × World
rpc_step w user now request = if is_barred w user request then (Rpc NotAllowed, w) else called_by w now (served w request)
