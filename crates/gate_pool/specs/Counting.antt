-- The entries that count as direct conflicts: those that spend what a transaction spends, and the sibling that it evicts.
use Rattle.std.specs.Prelude.{ℕ, Bool, false, ◌||◌, List, [], ◌∷◌, ◌++◌, filter, Option, Some, None}
use Rattle.gate_tx.specs.Tx.{Tx}
use Rattle.gate_pool.specs.Pool.{Admitted, has_txid}
use Rattle.gate_pool.specs.Family.{is_conflict, all_below, without_below}

-- an entry is the sibling, if one of this id makes room
abbrev pub is_sibling : Option (List ℕ) → Admitted → Bool
is_sibling None e = false
is_sibling (Some txid) e = has_txid e txid

-- an entry counts as a direct conflict
abbrev pub is_counted : Option (List ℕ) → Tx → Admitted → Bool
is_counted sibling tx e = is_sibling sibling e || is_conflict tx e

-- the entries that count as direct conflicts, and those that are replaced: these, and all that are below them
abbrev pub counted_of : List Admitted → Option (List ℕ) → Tx → List Admitted
counted_of entries sibling tx = filter (is_counted sibling tx) entries

abbrev pub replaced_beside : List Admitted → Option (List ℕ) → Tx → List Admitted
replaced_beside entries sibling tx = all_below (is_counted sibling tx) entries

-- the entries after one enters: those that count as its direct conflicts leave, and all below them, and it stands at the end
abbrev pub entered_beside : List Admitted → Option (List ℕ) → Admitted → List Admitted
entered_beside entries sibling e = without_below (is_counted sibling e.tx) entries ++ e ∷ []
