-- Version 3 (TRUC, BIP 431) of those that are judged together: the families that they would make (J8).
use Rattle.std.specs.Prelude.{ℕ, ◌==◌, nat_lt, Bool, true, false, not, ◌&&◌, ◌||◌, if◌then◌else◌, List, [], ◌∷◌, filter, length}
use Rattle.std.specs.List.{list_any}
use Rattle.std.specs.Str.{bytes_eq}
use Rattle.gate_tx.specs.declared.TxIn.{TxIn}
use Rattle.gate_tx.specs.Ids.{txid_of}
use Rattle.gate_tx.specs.Tx.{Tx}
use Rattle.gate_standard.specs.Rules.{is_truc}
use Rattle.gate_pool.specs.Pool.{Admitted}
use Rattle.gate_pool.specs.Family.{ancestors_above, descendants_of}
use Rattle.gate_admit.specs.Policies.{Policy}
use Rattle.gate_admit.specs.Truc.{truc_size, truc_child_size}
use Rattle.gate_package.specs.Shapes.{names_one}
use Rattle.gate_diagram.specs.declared.Price.{Price}

-- a transaction spends an output of the one with this id
abbrev pub spends_from : Tx → List ℕ → Bool
spends_from tx txid = list_any (λ (i : TxIn). bytes_eq i.prevout.txid txid) tx.inputs

-- the parents of a transaction among these
abbrev pub parents_among : List Tx → Tx → List Tx
parents_among txs tx = filter (names_one tx.inputs) txs

-- another transaction than the one with the first id spends from the one with the second id
abbrev pub another_spends_from : List ℕ → List ℕ → Tx → Bool
another_spends_from mine txid t = not (bytes_eq (txid_of t) mine) && spends_from t txid

-- another of these than the one with the first id spends from the transaction of the second one
abbrev pub another_spends : List Tx → List ℕ → List ℕ → Bool
another_spends txs mine txid = list_any (another_spends_from mine txid) txs

-- another of these spends from the one with the first id, or from its parent, which has the second one
abbrev pub is_shared : List Tx → List ℕ → List ℕ → Bool
is_shared txs mine parent = another_spends txs mine parent || another_spends txs mine mine

-- the entry of an id has a descendant beside itself
abbrev pub has_below : List Admitted → List ℕ → Bool
has_below entries txid = nat_lt 1 (length (descendants_of entries txid))

-- a child of this size of a parent of another version, or with a family that is too large
abbrev pub is_child_outside : List Tx → Tx → ℕ → Tx → Bool
is_child_outside txs tx vsize parent = nat_lt truc_child_size vsize || (not (is_truc parent) || is_shared txs (txid_of tx) (txid_of parent))

-- so is a child of an entry, which may have no other descendant either
abbrev pub is_outside_entry : List Admitted → List Tx → Tx → ℕ → Admitted → Bool
is_outside_entry entries txs tx vsize e = is_child_outside txs tx vsize e.tx || has_below entries (txid_of e.tx)

-- a transaction of version 3 and of this size, without an ancestor in the pool, has too large a family with these parents among those
-- that are judged together with it
abbrev pub is_outside_together : List Tx → Tx → ℕ → List Tx → Bool
is_outside_together txs tx vsize [] = false
is_outside_together txs tx vsize (p ∷ []) = is_child_outside txs tx vsize p
is_outside_together txs tx vsize (p ∷ q ∷ rest) = true

-- it has too large a family with these ancestors in the pool and these parents
abbrev pub is_outside : List Admitted → List Tx → Tx → ℕ → List Admitted → List Tx → Bool
is_outside entries txs tx vsize [] parents = is_outside_together txs tx vsize parents
is_outside entries txs tx vsize (e ∷ []) parents = not (length parents == 0) || is_outside_entry entries txs tx vsize e
is_outside entries txs tx vsize (e ∷ f ∷ others) parents = true

abbrev pub is_truc_entry : Admitted → Bool
is_truc_entry e = is_truc e.tx

-- one of these ancestors in the pool or of these parents is of version 3
abbrev pub is_below_truc : List Admitted → List Tx → Bool
is_below_truc above parents = list_any is_truc_entry above || list_any is_truc parents

-- one of version 3 is too large or has too large a family; and one of another version is below none of version 3
abbrev pub breaks_beside : List Admitted → List Tx → Tx → ℕ → Bool
breaks_beside entries txs tx vsize =
    let above = ancestors_above entries tx.inputs in
    let parents = parents_among txs tx in
    if is_truc tx then nat_lt truc_size vsize || is_outside entries txs tx vsize above parents
    else is_below_truc above parents

-- one of these, each at its price, makes no family of version 3 among all of them
abbrev pub some_breaks : List Admitted → List Tx → List Tx → List Price → Bool
some_breaks entries all [] prices = false
some_breaks entries all (tx ∷ txs) [] = false
some_breaks entries all (tx ∷ txs) (price ∷ prices) = breaks_beside entries all tx price.vsize || some_breaks entries all txs prices

-- J8
abbrev pub breaks_together : Policy → List Admitted → List Tx → List Price → Bool
breaks_together policy entries txs prices = policy.standards.truc && some_breaks entries txs txs prices
