-- Objects as they are printed are the compact texts of their values.
use Rattle.std.proofs.Common.{◌≡◌, ℕ, Bool, List, Option, Some, None, true, false, refl}
use Rattle.std.specs.Option.{option_map}
use Rattle.json.specs.Print.{quoted, token_text}
use Rattle.json.specs.Token.{boolean}
use Rattle.serde_json.specs.Written.{compact_text}
use Rattle.serde_json.proofs.OnLiterals.{serde_json_on_literals}
use Rattle.gate_tx.specs.Ids.{id_text}
use Rattle.gate_rules.specs.declared.Denial.{Denial}
use Rattle.gate_rules.specs.Denials.{name_of}
use Rattle.gate_rpc.specs.declared.items.Spending.{Spending}
use Rattle.gate_rpc.specs.declared.result.EntryInfo.{EntryInfo}
use Rattle.gate_rpc.specs.Replies.{rejected_json, entry_json, reject_reason, spending_json}
use Rattle.gate_rpc.specs.Values.{txids_json}
use Rattle.gate_rpc.specs.Texts.{rejected_text, entry_text, bool_text, spending_start, spending_end}

rejected_is : (t w : List ℕ) (d : Denial) → rejected_text (quoted (reject_reason d)) (quoted (name_of d)) (quoted (id_text t)) (quoted (id_text w)) ≡ compact_text (rejected_json t w d)
unfolding serde_json_on_literals
rejected_is t w d = refl

pub rejected_whole : (reason rule txid wtxid t w : List ℕ) (d : Denial) → reason ≡ quoted (reject_reason d) → rule ≡ quoted (name_of d) → txid ≡ quoted (id_text t) → wtxid ≡ quoted (id_text w)
    → rejected_text reason rule txid wtxid ≡ compact_text (rejected_json t w d)
rejected_whole reason rule txid wtxid t w d a b e f = rw (a, b, e, f) (rejected_is t w d)

spending_is : (spender : Option (List ℕ)) (txid : List ℕ) (index : ℕ)
    → spending_start (option_map (λ t. quoted (id_text t)) spender) (spending_end (quoted (id_text txid)) index)
    ≡ compact_text (spending_json (record { outpoint = record { txid = txid; index = index }; spender = spender }))
unfolding serde_json_on_literals
spending_is None txid index = refl
spending_is (Some spender) txid index = refl

pub spending_whole : (s : Spending) (txid rest : List ℕ) → txid ≡ quoted (id_text s.outpoint.txid) → rest ≡ spending_end txid s.outpoint.index
    → spending_start (option_map (λ t. quoted (id_text t)) s.spender) rest ≡ compact_text (spending_json s)
spending_whole s txid rest a b = rw (b, a) (spending_is s.spender s.outpoint.txid s.outpoint.index)

bool_is : (b : Bool) → bool_text b ≡ token_text (boolean b)
bool_is true = refl
bool_is false = refl

entry_is : (entry : EntryInfo) → entry_text entry (compact_text (txids_json entry.depends)) (compact_text (txids_json entry.spent_by)) (quoted (id_text entry.wtxid)) ≡ compact_text (entry_json entry)
unfolding serde_json_on_literals
entry_is entry = rw (bool_is entry.is_replaceable) refl

pub entry_whole : (depends spent_by wtxid : List ℕ) (entry : EntryInfo) → depends ≡ compact_text (txids_json entry.depends) → spent_by ≡ compact_text (txids_json entry.spent_by) → wtxid ≡ quoted (id_text entry.wtxid)
    → entry_text entry depends spent_by wtxid ≡ compact_text (entry_json entry)
entry_whole depends spent_by wtxid entry a b d = rw (a, b, d) (entry_is entry)
