-- What is answered about the pool, over the plain list of its entries.
use Rattle.std.specs.Prelude.{ℕ, nat_le, Bool, not, max, List, length, filter, Option, Some, None, option_map, Result, Ok, Err}
use Rattle.std.specs.List.{list_any}
use Rattle.gate_tx.specs.Tx.{Tx}
use Rattle.gate_tx.specs.Ids.{txid_of, wtxid_of}
use Rattle.gate_tx.specs.Sizes.{weight_of}
use Rattle.gate_standard.specs.Amounts.{required_fee}
use Rattle.gate_standard.specs.declared.Feerate.{Feerate}
use Rattle.gate_rules.specs.declared.Denial.{Denial}
use Rattle.gate_rules.specs.declared.Denial.TheVariants.{Decode}
use Rattle.gate_pool.specs.Pool.{Admitted, entry_by_txid, has_txid, listing_of, size_of}
use Rattle.gate_pool.specs.Family.{names, children_of, ancestors_of, descendants_of, fees_of}
use Rattle.gate_rbf.specs.Replacing.{signals}
use Rattle.gate_admit.specs.declared.Attempt.TheVariants.{First}
use Rattle.gate_admit.specs.declared.Grant.{Grant}
use Rattle.gate_admit.specs.Rules.{decision_of}
use Rattle.gate_admit.specs.Policies.{Policy}
use Rattle.gate_admit.specs.Standing.{Standing}
use Rattle.gate_rpc.specs.declared.error.RpcError.{RpcError}
use Rattle.gate_rpc.specs.declared.error.RpcError.TheVariants.{Denied}
use Rattle.gate_rpc.specs.declared.result.EntryInfo.{EntryInfo}
use Rattle.gate_rpc.specs.declared.result.RpcResult.{RpcResult}
use Rattle.gate_rpc.specs.declared.result.RpcResult.TheVariants.{Allowed, Rejected, Info}

-- ---- families without the entry itself

-- the entries above an id, in order of admission, without its own
abbrev pub above : List Admitted → List ℕ → List Admitted
above entries txid = filter (λ a. not (has_txid a txid)) (ancestors_of entries txid)

-- the entries below an id, in order of admission, without its own
abbrev pub below : List Admitted → List ℕ → List Admitted
below entries txid = filter (λ a. not (has_txid a txid)) (descendants_of entries txid)

-- the ids of the entries above an id, and of those below it, without its own, if an entry has the id
abbrev pub ancestors_listed : List Admitted → List ℕ → Option (List (List ℕ))
ancestors_listed entries txid = option_map (λ e. listing_of (above entries txid)) (entry_by_txid entries txid)

abbrev pub descendants_listed : List Admitted → List ℕ → Option (List (List ℕ))
descendants_listed entries txid = option_map (λ e. listing_of (below entries txid)) (entry_by_txid entries txid)

-- ---- an entry

-- an entry signals by itself that it may be replaced (BIP 125)
abbrev pub is_replaceable : Admitted → Bool
is_replaceable e = signals e.tx

-- the entries whose outputs an entry spends, in order of admission
abbrev pub parents_of : List Admitted → Admitted → List Admitted
parents_of entries e = filter (λ p. names e (txid_of p.tx)) entries

-- what is known of the entry of an id; its ancestors and descendants have the entry itself among them
abbrev pub info_from : List Admitted → List ℕ → Admitted → EntryInfo
info_from entries txid e =
    record {
      wtxid = wtxid_of e.tx;
      fee = e.fee;
      vsize = e.vsize;
      weight = weight_of e.tx;
      time = e.time;
      ancestor_count = length (ancestors_of entries txid);
      ancestor_size = size_of (ancestors_of entries txid);
      ancestor_fees = fees_of (ancestors_of entries txid);
      descendant_count = length (descendants_of entries txid);
      descendant_size = size_of (descendants_of entries txid);
      descendant_fees = fees_of (descendants_of entries txid);
      is_replaceable = list_any is_replaceable (ancestors_of entries txid);
      depends = listing_of (parents_of entries e);
      spent_by = listing_of (children_of entries txid);
    }

abbrev pub info_of : List Admitted → List ℕ → Option EntryInfo
info_of entries txid = option_map (info_from entries txid) (entry_by_txid entries txid)

-- ---- entries that pay a feerate

-- an entry's fee is at least that of its size at the feerate
abbrev pub pays : Feerate → Admitted → Bool
pays rate e = nat_le (required_fee rate e.vsize) e.fee

-- the txids of the entries that pay at least a feerate, in order of admission
abbrev pub listing_at : Feerate → List Admitted → List (List ℕ)
listing_at rate entries = listing_of (filter (pays rate) entries)

-- ---- the pool

-- the least feerate of the pool is that of every relay, or the pool's floor if that is greater
abbrev pub pool_info : List Admitted → ℕ → Policy → ℕ → RpcResult
pool_info entries floor policy budget = Info (size_of entries) budget (max floor policy.relay_rate) policy.relay_rate (length entries)

-- ---- a transaction that might enter

abbrev pub tested_as : Tx → Result Grant Denial → RpcResult
tested_as tx (Ok grant) = Allowed (txid_of tx) (wtxid_of tx) grant.fee grant.vsize
tested_as tx (Err denial) = Rejected (txid_of tx) (wtxid_of tx) denial

-- the answer is the decision on the transaction, which changes nothing, or an error if there is no transaction
abbrev pub tested : Standing → Option Tx → Result RpcResult RpcError
tested over None = Err (Denied Decode)
tested over (Some tx) = Ok (tested_as tx (decision_of First over (Some tx)))
