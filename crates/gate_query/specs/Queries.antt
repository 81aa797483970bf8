-- What is answered about several entries, about outpoints, and about several transactions, over the plain list of the entries.
use Rattle.std.specs.Prelude.{ℕ, nat_le, ◌==◌, Bool, true, false, ◌&&◌, ◌||◌, is_none, is_some, if◌then◌else◌, map, List, [], ◌∷◌, ◌++◌, Option, Some, None, option_map, Result, Ok, Err}
use Rattle.std.specs.List.{list_any}
use Rattle.std.specs.Option.{option_to_list}
use Rattle.gate_tx.specs.declared.OutPoint.{OutPoint}
use Rattle.gate_tx.specs.declared.TxIn.{TxIn}
use Rattle.gate_tx.specs.Tx.{Tx}
use Rattle.gate_tx.specs.Ids.{txid_of, wtxid_of}
use Rattle.gate_rules.specs.declared.Denial.{Denial}
use Rattle.gate_rules.specs.declared.Denial.TheVariants.{Decode, MempoolConflict, SpendsConflicting, TrucViolation, UnsweptDust, MaxFeerate}
use Rattle.gate_rules.specs.Denials.{rule_of}
use Rattle.gate_pool.specs.Pool.{Admitted, entry_by_txid, spender_of}
use Rattle.gate_admit.specs.declared.Attempt.TheVariants.{First}
use Rattle.gate_admit.specs.declared.Grant.{Grant}
use Rattle.gate_admit.specs.Rules.{decision_of}
use Rattle.gate_admit.specs.Standing.{Standing}
use Rattle.gate_admit.specs.Submission.{admitted}
use Rattle.gate_admit.specs.Truc.{sibling_of}
use Rattle.gate_rpc.specs.declared.error.RpcError.{RpcError}
use Rattle.gate_rpc.specs.declared.error.RpcError.TheVariants.{Denied}
use Rattle.gate_rpc.specs.declared.items.KnownEntry.{KnownEntry}
use Rattle.gate_rpc.specs.declared.items.Outcome.{Outcome}
use Rattle.gate_rpc.specs.declared.items.Outcome.TheVariants.{Allowed, Rejected}
use Rattle.gate_rpc.specs.declared.items.Spending.{Spending}
use Rattle.gate_rpc.specs.declared.result.RpcResult.{RpcResult}
use Rattle.gate_rpc.specs.declared.result.RpcResult.TheVariants.{Outcomes}
use Rattle.gate_query.specs.Answers.{info_from, info_of}

-- ---- entries

-- what is known of an entry, with its id
abbrev pub known_from : List Admitted → Admitted → KnownEntry
known_from entries e = record { txid = txid_of e.tx; info = info_from entries (txid_of e.tx) e }

-- what is known of each entry, in order of admission
abbrev pub entries_known : List Admitted → List KnownEntry
entries_known entries = map (known_from entries) entries

-- what is known of the entry of an id, with the id, as a list of one, or of none if no entry has the id
abbrev pub known_at : List Admitted → List ℕ → List KnownEntry
known_at entries txid = option_to_list (option_map (λ info. record { txid = txid; info = info }) (info_of entries txid))

-- the transaction of an id, if an entry has it
abbrev pub transaction_of : List Admitted → List ℕ → Option Tx
transaction_of entries txid = option_map (λ e. e.tx) (entry_by_txid entries txid)

-- ---- outpoints

-- an outpoint with the id of the entry that spends it, if there is one
abbrev pub spending_of : List Admitted → OutPoint → Spending
spending_of entries point = record { outpoint = point; spender = option_map (λ e. txid_of e.tx) (spender_of entries point) }

abbrev pub spendings_of : List Admitted → List OutPoint → List Spending
spendings_of entries points = map (spending_of entries) points

-- ---- several transactions

-- whether a transaction spends what an entry spends
abbrev pub has_conflict : List Admitted → Tx → Bool
has_conflict entries tx = list_any (λ (i : TxIn). is_some (spender_of entries i.prevout)) tx.inputs

-- A23, or a rule that is tested behind it: those with the numbers from A23 to A50, but not A51, which is tested behind A16
abbrev pub is_from_conflict : Denial → Bool
is_from_conflict denial = nat_le (rule_of MempoolConflict) (rule_of denial) && nat_le (rule_of denial) (rule_of MaxFeerate)

-- the decision where nothing may be replaced: A23 fails for each transaction that spends what an entry spends
abbrev pub unreplacing : Bool → Result Grant Denial → Result Grant Denial
unreplacing false decision = decision
unreplacing true (Ok grant) = Err MempoolConflict
unreplacing true (Err denial) = if is_from_conflict denial then Err MempoolConflict else Err denial

-- A47, or a rule that is tested behind it: those with the numbers from A37 to A47, and A49
abbrev pub is_from_sibling : Denial → Bool
is_from_sibling denial = (nat_le (rule_of SpendsConflicting) (rule_of denial) && nat_le (rule_of denial) (rule_of TrucViolation)) || rule_of denial == rule_of UnsweptDust

-- the decision where no sibling is evicted either: A47 fails for each transaction that has one
abbrev pub unevicting : Bool → Result Grant Denial → Result Grant Denial
unevicting false decision = decision
unevicting true (Ok grant) = Err TrucViolation
unevicting true (Err denial) = if is_from_sibling denial then Err TrucViolation else Err denial

abbrev pub has_sibling : Standing → Tx → Bool
has_sibling over tx = is_some (sibling_of First over.policy over.entries tx)

abbrev pub listed_decision : Standing → Tx → Result Grant Denial
listed_decision over tx = unevicting (has_sibling over tx) (unreplacing (has_conflict over.entries tx) (decision_of First over (Some tx)))

-- what becomes of a transaction with these ids
abbrev pub outcome_by : List ℕ → List ℕ → Result Grant Denial → Outcome
outcome_by txid wtxid (Ok grant) = Allowed txid wtxid grant.fee grant.vsize
outcome_by txid wtxid (Err denial) = Rejected txid wtxid denial

abbrev pub outcome_on : Standing → Tx → Outcome
outcome_on over tx = outcome_by (txid_of tx) (wtxid_of tx) (listed_decision over tx)

-- the entry of a transaction with this decision, if it is allowed
abbrev pub entry_by : ℕ → Tx → Result Grant Denial → Option Admitted
entry_by now tx (Ok grant) = Some (admitted tx grant now)
entry_by now tx (Err denial) = None

abbrev pub newcomer : Standing → ℕ → Tx → Option Admitted
newcomer over now tx = entry_by now tx (listed_decision over tx)

-- what the next transaction is judged over: one that is allowed stands at the end of the entries
abbrev pub standing_behind : Standing → Option Admitted → Standing
standing_behind over None = over
standing_behind over (Some e) = record over { entries = over.entries ++ e ∷ [] }

-- each of several transactions is judged over the pool with those before it that are allowed. Nothing expires, and nothing is
-- trimmed
abbrev pub outcomes_of : Standing → ℕ → List (Option Tx) → List Outcome
outcomes_of over now [] = []
outcomes_of over now (None ∷ others) = outcomes_of over now others
outcomes_of over now (Some tx ∷ others) = outcome_on over tx ∷ outcomes_of (standing_behind over (newcomer over now tx)) now others

-- the answer changes nothing; it is an error if one of them is no transaction
abbrev pub tested_list : Standing → ℕ → List (Option Tx) → Result RpcResult RpcError
tested_list over now submissions = if list_any is_none submissions then Err (Denied Decode) else Ok (Outcomes (outcomes_of over now submissions))
