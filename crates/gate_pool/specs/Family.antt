-- The families of a pool's entries, and which entries a transaction replaces.
use Rattle.std.specs.Prelude.{◌≡◌, ◌≢◌, ℕ, Bool, ◌&&◌, not, List, [], ◌∷◌, ◌++◌, map, filter, length, sum_by, Contains}
use Rattle.std.specs.List.{list_any, AllPairs}
use Rattle.std.specs.Str.{bytes_eq}
use Rattle.gate_tx.specs.declared.TxIn.{TxIn}
use Rattle.gate_tx.specs.Tx.{Tx}
use Rattle.gate_tx.specs.Ids.{txid_of}
use Rattle.gate_tx.specs.Coins.{spends}
use Rattle.gate_graph.specs.Family.{Node, steps_of, reaches}
use Rattle.gate_graph.specs.declared.held.Sums.{Sums}
use Rattle.gate_graph.specs.declared.held.Totals.{Totals}
use Rattle.gate_pool.specs.Pool.{Admitted, has_txid, size_of}

-- an entry as a node: its parents are the transactions whose outputs it spends, in the pool or not
abbrev pub node_of : Admitted → Node
node_of e = record { id = txid_of e.tx; size = e.vsize; fee = e.fee; parents = map (λ (i : TxIn). i.prevout.txid) e.tx.inputs }

-- the steps 'an input of b names a's txid', each as the pair of a's txid and b's
unfoldable pub steps : List Admitted → List (List ℕ × List ℕ)
steps entries = steps_of (map node_of entries)

-- an entry spends an output of the transaction with this id, whether the pool has that or not
abbrev pub names : Admitted → List ℕ → Bool
names e txid = list_any (λ (i : TxIn). bytes_eq i.prevout.txid txid) e.tx.inputs

-- the entries that spend outputs of the transaction with this id, in order of admission
abbrev pub children_of : List Admitted → List ℕ → List Admitted
children_of entries txid = filter (λ e. names e txid) entries

-- the entries from which a chain of steps leads to an id, its own among them, in order of admission
abbrev pub ancestors_of : List Admitted → List ℕ → List Admitted
ancestors_of entries txid = filter (λ e. reaches (steps entries) (txid_of e.tx) txid) entries

-- the entries to which a chain of steps leads from an id, its own among them, in order of admission
abbrev pub descendants_of : List Admitted → List ℕ → List Admitted
descendants_of entries txid = filter (λ e. reaches (steps entries) txid (txid_of e.tx)) entries

-- the entries from which a chain of steps leads to what these inputs spend, in order of admission: the parents in the pool of
-- a transaction with these inputs, their parents, and so on
abbrev pub ancestors_above : List Admitted → List TxIn → List Admitted
ancestors_above entries inputs = filter (λ e. list_any (λ (i : TxIn). reaches (steps entries) (txid_of e.tx) i.prevout.txid) inputs) entries

-- the entries whose outputs these inputs spend, in order of admission
abbrev pub parents_above : List Admitted → List TxIn → List Admitted
parents_above entries inputs = filter (λ e. list_any (λ (i : TxIn). bytes_eq i.prevout.txid (txid_of e.tx)) inputs) entries

-- the entries, except that of an id and all that are below it
abbrev pub without_family : List Admitted → List ℕ → List Admitted
without_family entries txid = filter (λ e. not (reaches (steps entries) txid (txid_of e.tx))) entries

-- an entry passes the test itself, or is below one that does
abbrev pub is_below_some : (Admitted → Bool) → List Admitted → Admitted → Bool
is_below_some test entries e = list_any (λ a. test a && reaches (steps entries) (txid_of a.tx) (txid_of e.tx)) entries

-- the entries that pass a test, and all that are below them
abbrev pub all_below : (Admitted → Bool) → List Admitted → List Admitted
all_below test entries = filter (is_below_some test entries) entries

-- the entries, except those that pass a test and all that are below them
abbrev pub without_below : (Admitted → Bool) → List Admitted → List Admitted
without_below test entries = filter (λ e. not (is_below_some test entries e)) entries

-- an entry spends an outpoint that one of the inputs spends
abbrev pub spends_one_of : List TxIn → Admitted → Bool
spends_one_of inputs e = list_any (λ (i : TxIn). spends e.tx.inputs i.prevout) inputs

-- an entry spends an outpoint that a transaction spends
abbrev pub is_conflict : Tx → Admitted → Bool
is_conflict tx e = spends_one_of tx.inputs e

-- the entries that conflict with a transaction, and those that it replaces: these, and all that are below them (BIP 125)
abbrev pub conflicts_of : List Admitted → Tx → List Admitted
conflicts_of entries tx = filter (is_conflict tx) entries

abbrev pub replaced_of : List Admitted → Tx → List Admitted
replaced_of entries tx = all_below (is_conflict tx) entries

-- the entries after one enters: those that conflict with it and all below them leave, and it stands at the end
abbrev pub entered : List Admitted → Admitted → List Admitted
entered entries e = without_below (is_conflict e.tx) entries ++ e ∷ []

-- an entry has one of these ids
abbrev pub is_among : List (List ℕ) → Admitted → Bool
is_among txids e = list_any (has_txid e) txids

-- the ids are those of the entries, each once, in whatever order
pub record AreIdsOf (txids : List (List ℕ)) (entries : List Admitted) : Type 0 where
  pub once : AllPairs (λ (a : List ℕ) (b : List ℕ). a ≢ b) txids
  pub all : (e : Admitted) → Contains entries e → Contains txids (txid_of e.tx)
  pub only : (txid : List ℕ) → Contains txids txid → (e : Admitted) × Contains entries e × (txid_of e.tx ≡ txid)

-- a fact about the entries with these ids, and one about these and all that are below them
abbrev pub OfThese : List Admitted → List (List ℕ) → (List Admitted → Type 0) → Type 0
OfThese entries txids fact = (test : Admitted → Bool) → AreIdsOf txids (filter test entries) → fact (filter test entries)

abbrev pub BelowThese : List Admitted → List (List ℕ) → (List Admitted → Type 0) → Type 0
BelowThese entries txids fact = (test : Admitted → Bool) → AreIdsOf txids (filter test entries) → fact (all_below test entries)

-- the sum of the fees, in satoshi
abbrev pub fees_of : List Admitted → ℕ
fees_of entries = sum_by (λ e. e.fee) entries

-- the number of entries, and the sums of their sizes and fees
abbrev pub sums_of : List Admitted → Sums
sums_of entries = record { count = length entries; size = size_of entries; fees = fees_of entries }

-- the totals of an id: the sums of its ancestors and of its descendants, each with its own entry
abbrev pub totals_of : List Admitted → List ℕ → Totals
totals_of entries txid = record { above = sums_of (ancestors_of entries txid); below = sums_of (descendants_of entries txid) }
