-- What a text of JSON asks for, and the first fault of one that asks for nothing, in the written order.
use Rattle.std.specs.Prelude.{◌≡◌, ℕ, suc, ◌^◌, ◌==◌, nat_le, nat_lt, Bool, true, false, not, ◌||◌, ◌&&◌, if◌then◌else◌, List, [], ◌∷◌, codes, Option, Some, None, Result, Ok, Err, option_and_then}
use Rattle.std.specs.Option.{option_map, ok_or}
use Rattle.hex.specs.Hex.{decode_of}
use Rattle.hex.specs.declared.error.FromHexError.{FromHexError}
use Rattle.serde_json.specs.Data.{Num, unsigned, negative, float, Data, null, boolean, number, string, array, object, Items, no_items, item, Members, no_members, member}
use Rattle.serde_json.specs.Read.{read}
use Rattle.serde_json.specs.View.{view}
use Rattle.serde_json.specs.declared.value.Value.{Value}
use Rattle.serde_json.specs.Find.{get, as_bool, as_str, as_array, as_object, as_number, as_u64}
use Rattle.gate_tx.specs.declared.OutPoint.{OutPoint}
use Rattle.gate_tx.specs.Tx.{Tx}
use Rattle.gate_tx.specs.Ids.{read_id}
use Rattle.gate_tx.specs.Reading.{decoded}
use Rattle.gate_tx.specs.Money.{max_money}
use Rattle.gate_rpc.specs.declared.id.Id.{Id}
use Rattle.gate_rpc.specs.declared.id.Id.TheVariants as ids
use Rattle.gate_rpc.specs.declared.method.Method.{Method}
use Rattle.gate_rpc.specs.declared.method.Method.TheVariants as methods
use Rattle.gate_rpc.specs.declared.request.Command.{Command}
use Rattle.gate_rpc.specs.declared.request.Command.TheVariants as commands
use Rattle.gate_rpc.specs.declared.request.PackageCall.{PackageCall}
use Rattle.gate_rpc.specs.declared.request.Request.{Request}
use Rattle.gate_rpc.specs.declared.fault.CallError.{CallError}
use Rattle.gate_rpc.specs.declared.fault.CallError.TheVariants.{ParseError, InvalidRequest, MethodNotFound, InvalidParams}
use Rattle.gate_rpc.specs.declared.fault.RpcFault.{RpcFault}
use Rattle.gate_rpc.specs.declared.fault.RpcFault.TheVariants as faults
use Rattle.gate_rpc.specs.Methods.{method_named}

abbrev pub method_of : Command → Method
method_of (commands.SendRawTransaction submission) = methods.SendRawTransaction
method_of (commands.TestMempoolAccept submission) = methods.TestMempoolAccept
method_of (commands.TestList submissions) = methods.TestMempoolAccept
method_of commands.GetRawMempool = methods.GetRawMempool
method_of commands.GetRawMempoolVerbose = methods.GetRawMempool
method_of (commands.GetMempoolEntry txid) = methods.GetMempoolEntry
method_of (commands.GetMempoolAncestors txid) = methods.GetMempoolAncestors
method_of (commands.GetMempoolDescendants txid) = methods.GetMempoolDescendants
method_of commands.GetMempoolInfo = methods.GetMempoolInfo
method_of (commands.GetRawTransaction txid) = methods.GetRawTransaction
method_of (commands.GetTxSpendingPrevout points) = methods.GetTxSpendingPrevout
method_of (commands.SubmitPackage call) = methods.SubmitPackage

abbrev pub decoded_from : Result (List ℕ) FromHexError → Option Tx
decoded_from (Ok bytes) = decoded bytes
decoded_from (Err fault) = None

-- the transaction that a text of hex spells
abbrev pub submission_of : List ℕ → Option Tx
submission_of hex = decoded_from (decode_of hex)

-- ---- the id

-- a number that was read as whole
abbrev pub number_id : Num → Option Id
number_id (unsigned n) = Some (ids.Unsigned n)
number_id (negative z) = Some (ids.Signed z)
number_id (float x) = None

abbrev pub value_id : Data → Option Id
value_id null = Some ids.Null
value_id (boolean b) = None
value_id (number n) = number_id n
value_id (string s) = Some (ids.Text s)
value_id (array ds) = None
value_id (object ms) = None

-- an absent id is null
abbrev pub id_of : Option Data → Option Id
id_of None = Some ids.Null
id_of (Some d) = value_id d

-- ---- the parameters

-- the items of parameters: `null` counts as an empty list, and a value that is no list has none
abbrev pub value_params : Data → Option Items
value_params null = Some no_items
value_params (boolean b) = None
value_params (number n) = None
value_params (string s) = None
value_params (array ds) = Some ds
value_params (object ms) = None

abbrev pub params_of : Option Data → Option Items
params_of None = Some no_items
params_of (Some d) = value_params d

-- `[]`
abbrev pub is_none : Items → Bool
is_none no_items = true
is_none (item d ds) = false

-- the item of a list of one
abbrev pub only : Items → Option Data
only no_items = None
only (item d no_items) = Some d
only (item d (item e ds)) = None

-- `[false]`
abbrev pub is_false_alone : Option Bool → Bool
is_false_alone None = false
is_false_alone (Some b) = not b

-- `[true]`
abbrev pub is_true_alone : Option Bool → Bool
is_true_alone None = false
is_true_alone (Some b) = b

-- `[text]`
abbrev pub text_alone : Items → Option (List ℕ)
text_alone params = option_and_then as_str (only params)

-- `[[..]]`
abbrev pub list_alone : Items → Option Items
list_alone params = option_and_then as_array (only params)

-- `[txid]`
abbrev pub txid_alone : Items → Option (List ℕ)
txid_alone params = option_and_then read_id (text_alone params)

-- ---- lists of values

abbrev pub joined : {A : Type 0} → Option A → Option (List A) → Option (List A)
joined None rest = None
joined (Some first) None = None
joined (Some first) (Some rest) = Some (first ∷ rest)

-- what each item of a list stands for, if all of them stand for something
abbrev pub each_of : {A : Type 0} → (Data → Option A) → Items → Option (List A)
each_of f no_items = Some []
each_of f (item d ds) = joined (f d) (each_of f ds)

abbrev pub count_of : Items → ℕ
count_of no_items = 0
count_of (item d ds) = suc (count_of ds)

-- the most transactions that one call tests
abbrev pub most_tested : ℕ
most_tested = 25

-- the submissions of a list of texts, of which there are at least one and at most 25
abbrev pub submissions_in : Items → Option (List (Option Tx))
submissions_in items = if nat_le 1 (count_of items) && nat_le (count_of items) most_tested then each_of (λ d. option_map submission_of (as_str d)) items else None

-- what is tested: one transaction by itself, or several as a list
abbrev pub test_of : List (Option Tx) → Command
test_of [] = commands.TestList []
test_of (submission ∷ []) = commands.TestMempoolAccept submission
test_of (first ∷ second ∷ others) = commands.TestList (first ∷ second ∷ others)

-- ---- outpoints

abbrev pub members_count : Members → ℕ
members_count no_members = 0
members_count (member key d ms) = suc (members_count ms)

-- an index that Bitcoin Core reads: a whole number from 0 to 2,147,483,647
abbrev pub small_index : Option ℕ → Option ℕ
small_index None = None
small_index (Some n) = if nat_lt n (2 ^ 31) then Some n else None

abbrev pub index_in : Data → Option ℕ
index_in d = small_index (option_and_then as_u64 (as_number d))

abbrev pub point_of : Option (List ℕ) → Option ℕ → Option OutPoint
point_of None index = None
point_of (Some txid) None = None
point_of (Some txid) (Some index) = Some (record { txid = txid; index = index })

-- how many keys an object has; a value that is none has no key
abbrev pub keys_in : Option Members → ℕ
keys_in None = 0
keys_in (Some ms) = members_count ms

abbrev pub txid_in : Data → Option (List ℕ)
txid_in d = option_and_then read_id (as_str d)

-- the outpoint of an object with a `txid` and a `vout`, and no other key
abbrev pub point_in : Data → Option OutPoint
point_in d =
    if keys_in (as_object d) == 2
    then point_of (option_and_then txid_in (get (codes "txid") d)) (option_and_then index_in (get (codes "vout") d))
    else None

-- the outpoints of a list of objects, of which there is at least one
abbrev pub points_in : Items → Option (List OutPoint)
points_in items = if is_none items then None else each_of point_in items

-- ---- packages

-- what a package may pay at most, in satoshi per 1,000 virtual bytes, and the greatest number that a call says
abbrev pub usual_max_rate : ℕ
usual_max_rate = 10_000_000

abbrev pub greatest_max_rate : ℕ
greatest_max_rate = 99_999_999

-- a number up to this one
abbrev pub up_to : ℕ → Option ℕ → Option ℕ
up_to most None = None
up_to most (Some n) = if nat_le n most then Some n else None

-- the whole number from 0 to `most` that a value is
abbrev pub number_in : ℕ → Data → Option ℕ
number_in most d = up_to most (option_and_then as_u64 (as_number d))

abbrev pub package_with : ℕ → ℕ → List (Option Tx) → Command
package_with max_rate max_burn members = commands.SubmitPackage (record { members = members; max_rate = max_rate; max_burn = max_burn })

abbrev pub package_of : Option ℕ → Option ℕ → Option (List (Option Tx)) → Option Command
package_of None max_burn members = None
package_of (Some max_rate) None members = None
package_of (Some max_rate) (Some max_burn) members = option_map (package_with max_rate max_burn) members

-- the members that a list of texts stands for
abbrev pub members_in : Data → Option (List (Option Tx))
members_in d = option_and_then submissions_in (as_array d)

-- `[[text, ..]]`, `[[text, ..], rate]` or `[[text, ..], rate, value]`
abbrev pub package_in : Items → Option Command
package_in no_items = None
package_in (item d no_items) = package_of (Some usual_max_rate) (Some 0) (members_in d)
package_in (item d (item rate no_items)) = package_of (number_in greatest_max_rate rate) (Some 0) (members_in d)
package_in (item d (item rate (item burn no_items))) = package_of (number_in greatest_max_rate rate) (number_in max_money burn) (members_in d)
package_in (item d (item rate (item burn (item other others)))) = None

-- ---- commands

-- the txid that a value prints, if another is `false`
abbrev pub txid_unless : Data → Data → Option (List ℕ)
txid_unless d verbose = if is_false_alone (as_bool verbose) then txid_in d else None

-- `[txid]` or `[txid, false]`
abbrev pub txid_first : Items → Option (List ℕ)
txid_first no_items = None
txid_first (item d no_items) = txid_in d
txid_first (item d (item e no_items)) = txid_unless d e
txid_first (item d (item e (item f fs))) = None

-- `[]` or `[false]`: the txids; `[true]`: what is known of each entry
abbrev pub listing_of : Items → Option Command
listing_of params =
    if is_none params || is_false_alone (option_and_then as_bool (only params)) then Some commands.GetRawMempool
    else if is_true_alone (option_and_then as_bool (only params)) then Some commands.GetRawMempoolVerbose
    else None

-- the command of a method with these parameters
abbrev pub command_of : Method → Items → Option Command
command_of methods.SendRawTransaction params = option_map (λ hex. commands.SendRawTransaction (submission_of hex)) (text_alone params)
command_of methods.TestMempoolAccept params = option_map test_of (option_and_then submissions_in (list_alone params))
command_of methods.GetRawMempool params = listing_of params
command_of methods.GetMempoolEntry params = option_map commands.GetMempoolEntry (txid_alone params)
command_of methods.GetMempoolAncestors params = option_map commands.GetMempoolAncestors (txid_alone params)
command_of methods.GetMempoolDescendants params = option_map commands.GetMempoolDescendants (txid_alone params)
command_of methods.GetMempoolInfo params = if is_none params then Some commands.GetMempoolInfo else None
command_of methods.GetRawTransaction params = option_map commands.GetRawTransaction (txid_first params)
command_of methods.GetTxSpendingPrevout params = option_map commands.GetTxSpendingPrevout (option_and_then points_in (list_alone params))
command_of methods.SubmitPackage params = package_in params

-- ---- the whole

infixl 10 ◌>>=◌
abbrev pub ◌>>=◌ : {A B : Type 0} → Result A CallError → (A → Result B CallError) → Result B CallError
Ok x >>= f = f x
Err e >>= f = Err e

abbrev pub named_head : Option Id → Option (List ℕ) → Option (Id × List ℕ)
named_head None method = None
named_head (Some id) None = None
named_head (Some id) (Some method) = Some (id, method)

-- the id of a call and the name of its method; a value that is no object has none
abbrev pub head_of : Data → Option (Id × List ℕ)
head_of call = named_head (id_of (get (codes "id") call)) (option_and_then as_str (get (codes "method") call))

-- the request that a value is
abbrev pub call_of : Data → Result Request CallError
call_of call = do
  head ← ok_or (head_of call) InvalidRequest
  method ← ok_or (method_named head.1) (MethodNotFound head.0 head.1)
  command ← ok_or (option_and_then (command_of method) (params_of (get (codes "params") call))) (InvalidParams head.0 method)
  Ok (record { id = head.0; command = command })

-- the request that a text is
abbrev pub request_of : List ℕ → Result Request CallError
request_of text = do
  call ← ok_or (read text) ParseError
  call_of call

-- what was read is this, unless memory ran out
abbrev pub Reads : {X : Type 0} → Result X RpcFault → Result X CallError → Type 0
Reads (Ok x) expected = expected ≡ Ok x
Reads (Err faults.Memory) expected = Unit {0}
Reads (Err (faults.Call e)) expected = expected ≡ Err e

-- a value was read as this, unless memory ran out
abbrev pub ReadsValue : Result Value RpcFault → Option Data → Type 0
ReadsValue (Ok value) expected = expected ≡ Some (view value)
ReadsValue (Err faults.Memory) expected = Unit {0}
ReadsValue (Err (faults.Call e)) expected = (e ≡ ParseError) × (expected ≡ None)
