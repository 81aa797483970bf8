-- A transaction between entries, and the chains between these.
use Rattle.std.specs.Prelude.{◌≡◌, ℕ, true, List, Contains}
use Rattle.gate_tx.specs.declared.TxIn.{TxIn}
use Rattle.gate_tx.specs.Ids.{txid_of}
use Rattle.gate_tx.specs.Tx.{Tx}
use Rattle.gate_graph.specs.Family.{reaches}
use Rattle.gate_pool.specs.Pool.{Admitted}
use Rattle.gate_pool.specs.Search.{IsEntry}
use Rattle.gate_pool.specs.Family.{names, steps}

-- the transaction adds no chain between entries: what spends an output of it is below each entry of which it spends one
abbrev pub AddsNoChain : List Admitted → Tx → Type 0
AddsNoChain entries tx =
    (i : TxIn) → Contains tx.inputs i → IsEntry entries i.prevout.txid → (d : Admitted) → Contains entries d → names d (txid_of tx) ≡ true → reaches (steps entries) i.prevout.txid (txid_of d.tx) ≡ true

-- chains lead from an id to all of these, and from each entry of which the inputs spend an output
abbrev pub LeadsToAll : List Admitted → List (List ℕ) → List ℕ → Type 0
LeadsToAll entries txids from = (txid : List ℕ) → Contains txids txid → reaches (steps entries) from txid ≡ true

abbrev pub ParentsLeadToAll : List Admitted → List (List ℕ) → List TxIn → Type 0
ParentsLeadToAll entries txids inputs = (i : TxIn) → Contains inputs i → IsEntry entries i.prevout.txid → LeadsToAll entries txids i.prevout.txid
