-- Answers as values of JSON, and their texts.
use Rattle.std.specs.Prelude.{ℕ, ℤ, pos, neg_ℤ, true, false, List, [], ◌∷◌, codes, Option, Some, None}
use Rattle.serde_json.specs.Data.{unsigned, Data, null, boolean, number, string, array, object, Items, no_items, item, Members, no_members, member}
use Rattle.serde_json.specs.Find.{of_integer}
use Rattle.serde_json.specs.Written.{compact_text}
use Rattle.hex.specs.Hex.{encode_lower}
use Rattle.gate_tx.specs.Ids.{id_text}
use Rattle.gate_tx.specs.Text.{text}
use Rattle.gate_tx.specs.Tx.{Tx}
use Rattle.gate_rules.specs.declared.Denial.{Denial}
use Rattle.gate_rules.specs.declared.Denial.TheVariants.{Decode, MissingOrSpent}
use Rattle.gate_rules.specs.Denials.{token_of}
use Rattle.gate_rules.specs.declared.PackageDenial.{PackageDenial}
use Rattle.gate_rules.specs.Packages.{token_of as package_token}
use Rattle.gate_rpc.specs.Packages.{package_json, package_rule_json}
use Rattle.gate_rpc.specs.Values.{integer, rule_json, txid_json, txids_json}
use Rattle.gate_rpc.specs.declared.id.Id.{Id}
use Rattle.gate_rpc.specs.declared.id.Id.TheVariants as ids
use Rattle.gate_rpc.specs.declared.error.RpcError.{RpcError}
use Rattle.gate_rpc.specs.declared.error.RpcError.TheVariants.{ParseError, InvalidRequest, MethodNotFound, InvalidParams, NotInMempool, Denied, PackageDenied}
use Rattle.gate_rpc.specs.declared.items.KnownEntry.{KnownEntry}
use Rattle.gate_rpc.specs.declared.items.Outcome.{Outcome}
use Rattle.gate_rpc.specs.declared.items.Outcome.TheVariants.{Allowed, Rejected, AllRejected, Unjudged}
use Rattle.gate_rpc.specs.declared.items.Spending.{Spending}
use Rattle.gate_rpc.specs.declared.result.EntryInfo.{EntryInfo}
use Rattle.gate_rpc.specs.declared.result.RpcResult.{RpcResult}
use Rattle.gate_rpc.specs.declared.result.RpcResult.TheVariants as results
use Rattle.gate_rpc.specs.declared.reply.RpcReply.{RpcReply}
use Rattle.gate_rpc.specs.declared.reply.RpcReply.TheVariants.{NotAllowed, Answer, Failure}

-- ---- errors

abbrev pub status_of : RpcError → ℕ
status_of ParseError = 500
status_of InvalidRequest = 400
status_of MethodNotFound = 404
status_of InvalidParams = 500
status_of NotInMempool = 500
status_of (Denied denial) = 500
status_of (PackageDenied denial) = 500

-- A1 and A25 have codes of their own
abbrev pub denial_code : Denial → ℕ
denial_code Decode = 22
denial_code MissingOrSpent = 25
denial_code denial = 26

-- the code of an error without its sign: all codes are negative
abbrev pub code_below_zero : RpcError → ℕ
code_below_zero ParseError = 32700
code_below_zero InvalidRequest = 32600
code_below_zero MethodNotFound = 32601
code_below_zero InvalidParams = 32602
code_below_zero NotInMempool = 5
code_below_zero (Denied denial) = denial_code denial
code_below_zero (PackageDenied denial) = 25

abbrev pub code_of : RpcError → ℤ
code_of error = neg_ℤ (pos (code_below_zero error))

abbrev pub message_of : RpcError → List ℕ
message_of ParseError = codes "Parse error"
message_of InvalidRequest = codes "Invalid Request"
message_of MethodNotFound = codes "Method not found"
message_of InvalidParams = codes "Invalid params"
message_of NotInMempool = codes "Transaction not in mempool"
message_of (Denied denial) = token_of denial
message_of (PackageDenied denial) = package_token denial

-- ---- values

abbrev pub rules_of : RpcError → Members
rules_of (Denied denial) = member (codes "rule") (rule_json denial) no_members
rules_of (PackageDenied denial) = member (codes "rule") (package_rule_json denial) no_members
rules_of error = no_members

-- the error of an answer; only a denial names its rule
abbrev pub error_json : RpcError → Data
error_json error =
    object (member (codes "code") (number (of_integer (code_of error)))
    (member (codes "message") (string (message_of error))
    (rules_of error)))

abbrev pub id_json : Id → Data
id_json ids.Null = null
id_json (ids.Text text) = string text
id_json (ids.Unsigned n) = number (unsigned n)
id_json (ids.Signed z) = number (of_integer z)

-- why a transaction would be denied
abbrev pub reject_reason : Denial → List ℕ
reject_reason MissingOrSpent = codes "missing-inputs"
reject_reason denial = token_of denial

abbrev pub allowed_json : List ℕ → List ℕ → ℕ → ℕ → Data
allowed_json txid wtxid fee vsize =
    object (member (codes "allowed") (boolean true)
    (member (codes "fees") (object (member (codes "base") (integer fee) no_members))
    (member (codes "txid") (txid_json txid)
    (member (codes "vsize") (integer vsize)
    (member (codes "wtxid") (txid_json wtxid)
    no_members)))))

abbrev pub rejected_json : List ℕ → List ℕ → Denial → Data
rejected_json txid wtxid denial =
    object (member (codes "allowed") (boolean false)
    (member (codes "reject-reason") (string (reject_reason denial))
    (member (codes "rule") (rule_json denial)
    (member (codes "txid") (txid_json txid)
    (member (codes "wtxid") (txid_json wtxid)
    no_members)))))

-- a rule on packages denies a transaction with all others of its list
abbrev pub all_rejected_json : List ℕ → List ℕ → PackageDenial → Data
all_rejected_json txid wtxid denial =
    object (member (codes "package-error") (string (package_token denial))
    (member (codes "rule") (package_rule_json denial)
    (member (codes "txid") (txid_json txid)
    (member (codes "wtxid") (txid_json wtxid)
    no_members))))

-- a transaction of which nothing is said
abbrev pub ids_json : List ℕ → List ℕ → Data
ids_json txid wtxid = object (member (codes "txid") (txid_json txid) (member (codes "wtxid") (txid_json wtxid) no_members))

abbrev pub entry_json : EntryInfo → Data
entry_json entry =
    object (member (codes "ancestorcount") (integer entry.ancestor_count)
    (member (codes "ancestorfees") (integer entry.ancestor_fees)
    (member (codes "ancestorsize") (integer entry.ancestor_size)
    (member (codes "bip125-replaceable") (boolean entry.is_replaceable)
    (member (codes "depends") (txids_json entry.depends)
    (member (codes "descendantcount") (integer entry.descendant_count)
    (member (codes "descendantfees") (integer entry.descendant_fees)
    (member (codes "descendantsize") (integer entry.descendant_size)
    (member (codes "fee") (integer entry.fee)
    (member (codes "spentby") (txids_json entry.spent_by)
    (member (codes "time") (integer entry.time)
    (member (codes "vsize") (integer entry.vsize)
    (member (codes "weight") (integer entry.weight)
    (member (codes "wtxid") (txid_json entry.wtxid)
    no_members))))))))))))))

abbrev pub info_json : ℕ → ℕ → ℕ → ℕ → ℕ → Data
info_json size budget least_rate relay_rate count =
    object (member (codes "bytes") (integer size)
    (member (codes "maxmempool") (integer budget)
    (member (codes "mempoolminfee") (integer least_rate)
    (member (codes "minrelaytxfee") (integer relay_rate)
    (member (codes "size") (integer count)
    no_members)))))

-- what would become of one of several transactions
abbrev pub outcome_json : Outcome → Data
outcome_json (Allowed txid wtxid fee vsize) = allowed_json txid wtxid fee vsize
outcome_json (Rejected txid wtxid denial) = rejected_json txid wtxid denial
outcome_json (AllRejected txid wtxid denial) = all_rejected_json txid wtxid denial
outcome_json (Unjudged txid wtxid) = ids_json txid wtxid

-- the list of what each of these is answered as
abbrev pub items_json : {A : Type 0} → (A → Data) → List A → Items
items_json f [] = no_items
items_json f (first ∷ others) = item (f first) (items_json f others)

abbrev pub outcomes_json : List Outcome → Data
outcomes_json outcomes = array (items_json outcome_json outcomes)

-- entries by their txids, in order of admission
abbrev pub known_members : List KnownEntry → Members
known_members [] = no_members
known_members (known ∷ others) = member (id_text known.txid) (entry_json known.info) (known_members others)

abbrev pub entries_json : List KnownEntry → Data
entries_json entries = object (known_members entries)

-- a transaction's text, in hexadecimal digits of lower case
abbrev pub transaction_json : Tx → Data
transaction_json tx = string (encode_lower (text tx))

abbrev pub spender_members : Option (List ℕ) → Members → Members
spender_members None others = others
spender_members (Some txid) others = member (codes "spendingtxid") (txid_json txid) others

-- an outpoint, with the txid of the entry that spends it, if there is one
abbrev pub spending_json : Spending → Data
spending_json s =
    object (spender_members s.spender
    (member (codes "txid") (txid_json s.outpoint.txid)
    (member (codes "vout") (integer s.outpoint.index)
    no_members)))

abbrev pub spendings_json : List Spending → Data
spendings_json spendings = array (items_json spending_json spendings)

abbrev pub result_json : RpcResult → Data
result_json (results.Sent txid) = txid_json txid
result_json (results.Allowed txid wtxid fee vsize) = array (item (allowed_json txid wtxid fee vsize) no_items)
result_json (results.Rejected txid wtxid denial) = array (item (rejected_json txid wtxid denial) no_items)
result_json (results.Txids txids) = txids_json txids
result_json (results.Entry entry) = entry_json entry
result_json (results.Info size budget least_rate relay_rate count) = info_json size budget least_rate relay_rate count
result_json (results.Outcomes outcomes) = outcomes_json outcomes
result_json (results.Entries entries) = entries_json entries
result_json (results.Transaction tx) = transaction_json tx
result_json (results.Spendings spendings) = spendings_json spendings
result_json (results.Package outcome) = package_json outcome

abbrev pub answer_json : Data → Data → Data → Data
answer_json error id result =
    object (member (codes "error") error
    (member (codes "id") id
    (member (codes "result") result
    no_members)))

-- ---- answers

abbrev pub reply_status : RpcReply → ℕ
reply_status NotAllowed = 403
reply_status (Answer id result) = 200
reply_status (Failure id error) = status_of error

-- the text of an answer after its status
abbrev pub reply_text : RpcReply → List ℕ
reply_text NotAllowed = codes "denied U1 rpc-whitelist"
reply_text (Answer id result) = compact_text (answer_json null (id_json id) (result_json result))
reply_text (Failure id error) = compact_text (answer_json (error_json error) (id_json id) null)
