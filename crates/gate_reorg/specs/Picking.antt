-- Transactions and entries that are picked by their ids.
use Rattle.std.specs.Prelude.{◌≡◌, ◌&&◌, ℕ, Bool, false, List, Option, Some, None}
use Rattle.std.specs.List.{list_any}
use Rattle.std.specs.Str.{bytes_eq}
use Rattle.indexmap.specs.IndexSet.{IndexSet, contains}
use Rattle.gate_tx.specs.Tx.{Tx}
use Rattle.gate_chain.specs.History.{History}
use Rattle.gate_pool.specs.Pool.{Admitted, entry_by_txid, listing_of}
use Rattle.gate_reorg.specs.Reorganisation.{has_id, is_premature}

-- a set has the ids of these transactions, and no others
abbrev pub HasIdsOf : {S : Type 0} → IndexSet (List ℕ) S → List Tx → Type 0
HasIdsOf ids txs = (id : List ℕ) → contains bytes_eq ids id ≡ has_id txs id

-- there is an entry, and it passes a test
abbrev pub passes : (Admitted → Bool) → Option Admitted → Bool
passes test None = false
passes test (Some e) = test e

-- an id is that of an entry that the next block cannot have
abbrev pub is_premature_id : History → List Admitted → List ℕ → Bool
is_premature_id chain entries txid = passes (λ e. is_premature chain entries e.tx) (entry_by_txid entries txid)

-- an id is that of an entry that the next block cannot have, by a search of the entries' ids
abbrev pub is_listed_premature : History → List Admitted → List ℕ → Bool
is_listed_premature chain entries txid =
    list_any (λ (x : List ℕ). bytes_eq x txid && is_premature_id chain entries x) (listing_of entries)
