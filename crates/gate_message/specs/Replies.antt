-- The reply to an event of the chain's caller and to a peer's package, and what takes the place of a reply that was planned.
use Rattle.std.specs.Prelude.{ℕ, List, Option, Some, None}
use Rattle.gate_rules.specs.declared.Denial.{Denial}
use Rattle.gate_rpc.specs.declared.error.RpcError.TheVariants as errors
use Rattle.gate_rpc.specs.declared.result.RpcResult.{RpcResult}
use Rattle.gate_rpc.specs.declared.result.RpcResult.TheVariants as results
use Rattle.gate_rpc.specs.declared.reply.RpcReply.{RpcReply}
use Rattle.gate_rpc.specs.declared.reply.RpcReply.TheVariants.{NotAllowed, Answer, Failure}
use Rattle.gate_rules.specs.declared.PeerDenial.TheVariants.{Admission}
use Rattle.gate_submission.specs.declared.Member.{Member}
use Rattle.gate_submission.specs.declared.PackageOutcome.{PackageOutcome}
use Rattle.gate_submission.specs.declared.PackageVerdict.{PackageVerdict}
use Rattle.gate_submission.specs.PackageOutcomes.{settled as settled_package}
use Rattle.gate_message.specs.declared.denial.Then.{Then}
use Rattle.gate_message.specs.declared.denial.Then.TheVariants.{Keep}
use Rattle.gate_message.specs.declared.outcome.ChainOutcome.{ChainOutcome}
use Rattle.gate_message.specs.declared.outcome.ChainOutcome.TheVariants as outcomes
use Rattle.gate_message.specs.declared.reply.Reply.{Reply}
use Rattle.gate_message.specs.declared.reply.Reply.TheVariants.{Entered, Left, Admitted, Packaged, Listing, Block, Headers, Filter, Rpc, Denied, Set, Moved, Forgotten, Refused}

-- the reply to an event of the chain's caller with this outcome
abbrev pub chain_reply : ChainOutcome → Reply
chain_reply outcomes.Learnt = Set
chain_reply (outcomes.Moved moved) = Moved moved
chain_reply (outcomes.Forgotten blocks coins rows) = Forgotten blocks coins rows
chain_reply (outcomes.Refused denial) = Refused denial

-- the denial in the place of a reply to a submission: a call's answer keeps its id
abbrev pub denied_instead : Reply → Denial → Reply
denied_instead (Entered flags) denial = Denied (Admission denial) Keep
denied_instead Left denial = Denied (Admission denial) Keep
denied_instead (Admitted txid fee vsize replaced) denial = Denied (Admission denial) Keep
denied_instead (Packaged then verdict members) denial = Denied (Admission denial) Keep
denied_instead (Listing txids) denial = Denied (Admission denial) Keep
denied_instead (Block height time) denial = Denied (Admission denial) Keep
denied_instead (Headers first count) denial = Denied (Admission denial) Keep
denied_instead (Filter rate) denial = Denied (Admission denial) Keep
denied_instead (Rpc NotAllowed) denial = Denied (Admission denial) Keep
denied_instead (Rpc (Answer id result)) denial = Rpc (Failure id (errors.Denied denial))
denied_instead (Rpc (Failure id error)) denial = Denied (Admission denial) Keep
denied_instead (Denied reason then) denial = Denied (Admission denial) Keep
denied_instead Set denial = Denied (Admission denial) Keep
denied_instead (Moved moved) denial = Denied (Admission denial) Keep
denied_instead (Forgotten blocks coins rows) denial = Denied (Admission denial) Keep
denied_instead (Refused denied) denial = Denied (Admission denial) Keep

-- the reply once the change is made: the planned one, or in its place the denial of a transaction that was granted and has left
-- the pool again (A46), which closes no session
abbrev pub settled : Reply → Option Denial → Reply
settled reply None = reply
settled reply (Some denial) = denied_instead reply denial

-- ---- packages

abbrev pub result_without : List (List ℕ) → RpcResult → RpcResult
result_without gone (results.Sent txid) = results.Sent txid
result_without gone (results.Allowed txid wtxid fee vsize) = results.Allowed txid wtxid fee vsize
result_without gone (results.Rejected txid wtxid denial) = results.Rejected txid wtxid denial
result_without gone (results.Txids txids) = results.Txids txids
result_without gone (results.Entry entry) = results.Entry entry
result_without gone (results.Info size budget least_rate relay_rate count) = results.Info size budget least_rate relay_rate count
result_without gone (results.Outcomes outcomes) = results.Outcomes outcomes
result_without gone (results.Entries entries) = results.Entries entries
result_without gone (results.Transaction tx) = results.Transaction tx
result_without gone (results.Spendings spendings) = results.Spendings spendings
result_without gone (results.Package outcome) = results.Package (settled_package gone outcome)

abbrev pub answer_without : List (List ℕ) → RpcReply → RpcReply
answer_without gone NotAllowed = NotAllowed
answer_without gone (Answer id result) = Answer id (result_without gone result)
answer_without gone (Failure id error) = Failure id error

-- the reply to a peer's package with this outcome
abbrev pub packaged_as : Then → PackageOutcome → Reply
packaged_as then outcome = Packaged then outcome.verdict outcome.members

abbrev pub packaged_without : List (List ℕ) → Then → PackageVerdict → List Member → Reply
packaged_without gone then verdict members = packaged_as then (settled_package gone (record { verdict = verdict; members = members; together = None }))

-- the reply to a package once these entries have left the pool again: A46 denies each member among them
abbrev pub without : List (List ℕ) → Reply → Reply
without gone (Entered flags) = Entered flags
without gone Left = Left
without gone (Admitted txid fee vsize replaced) = Admitted txid fee vsize replaced
without gone (Packaged then verdict members) = packaged_without gone then verdict members
without gone (Listing txids) = Listing txids
without gone (Block height time) = Block height time
without gone (Headers first count) = Headers first count
without gone (Filter rate) = Filter rate
without gone (Rpc answer) = Rpc (answer_without gone answer)
without gone (Denied reason then) = Denied reason then
without gone Set = Set
without gone (Moved moved) = Moved moved
without gone (Forgotten blocks coins rows) = Forgotten blocks coins rows
without gone (Refused denied) = Refused denied
