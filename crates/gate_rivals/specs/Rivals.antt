-- What transactions that are judged together replace: their direct conflicts, and all that is below these.
use Rattle.std.specs.Prelude.{nat_lt, Bool, ◌||◌, List, ◌++◌, filter, length, is_some}
use Rattle.std.specs.List.{flat_map, list_any}
use Rattle.gate_tx.specs.declared.OutPoint.{OutPoint}
use Rattle.gate_tx.specs.declared.TxIn.{TxIn}
use Rattle.gate_tx.specs.Ids.{txid_of}
use Rattle.gate_tx.specs.Tx.{Tx}
use Rattle.gate_pool.specs.Pool.{Admitted, entry_by_txid}
use Rattle.gate_pool.specs.Family.{all_below, children_of, parents_above, spends_one_of, without_below}
use Rattle.gate_rbf.specs.Replacing.{descendant_count}

abbrev pub inputs_of : Tx → List TxIn
inputs_of tx = tx.inputs

abbrev pub point_of : TxIn → OutPoint
point_of input = input.prevout

-- the inputs of all of these
abbrev pub all_inputs : List Tx → List TxIn
all_inputs txs = flat_map inputs_of txs

-- an entry spends what one of these spends
abbrev pub is_rival : List Tx → Admitted → Bool
is_rival txs e = spends_one_of (all_inputs txs) e

-- their direct conflicts, each once
abbrev pub rivals_of : List Admitted → List Tx → List Admitted
rivals_of entries txs = filter (is_rival txs) entries

-- what they replace: their direct conflicts, and all that is below these
abbrev pub replaced_together : List Admitted → List Tx → List Admitted
replaced_together entries txs = all_below (is_rival txs) entries

-- the entries that stay
abbrev pub staying_beside : List Admitted → List Tx → List Admitted
staying_beside entries txs = without_below (is_rival txs) entries

-- a transaction spends what an entry makes
abbrev pub has_ancestor : List Admitted → Tx → Bool
has_ancestor entries tx = list_any (λ (i : TxIn). is_some (entry_by_txid entries i.prevout.txid)) tx.inputs

-- one of these does, and so has an ancestor in the pool (J11)
abbrev pub have_ancestors : List Admitted → List Tx → Bool
have_ancestors entries txs = list_any (has_ancestor entries) txs

-- the entries have more than 100 descendants together, themselves among them; one below two of them counts twice (J12)
abbrev pub have_too_many : List Admitted → List Admitted → Bool
have_too_many entries rivals = nat_lt 100 (descendant_count entries rivals)

-- the entries to which one is joined by a step: its parents, and behind them its children
abbrev pub kin_of : List Admitted → Admitted → List Admitted
kin_of entries e = parents_above entries e.tx.inputs ++ children_of entries (txid_of e.tx)

-- an entry is joined to more than one other by a step
abbrev pub has_much_kin : List Admitted → Admitted → Bool
has_much_kin entries e = nat_lt 1 (length (kin_of entries e))

-- an entry is joined, by steps either way, to more than one other: it has more than one to which a step leads, or this one has (J15)
abbrev pub is_entangled : List Admitted → Admitted → Bool
is_entangled entries e = has_much_kin entries e || list_any (has_much_kin entries) (kin_of entries e)
