-- Version 3 (TRUC, BIP 431): what a family may be (A47), and the sibling that makes room for a second child.
use Rattle.std.specs.Prelude.{◌≡◌, ◌≤◌, ◌<◌, ℕ, nat_lt, ◌==◌, Bool, true, false, not, ◌&&◌, ◌||◌, List, [], ◌∷◌, filter, length, is_none, if◌then◌else◌, Option, Some, None}
use Rattle.std.specs.List.{All, list_any}
use Rattle.gate_tx.specs.Tx.{Tx}
use Rattle.gate_tx.specs.Ids.{txid_of}
use Rattle.gate_standard.specs.Rules.{is_truc}
use Rattle.gate_pool.specs.Pool.{Admitted, has_txid}
use Rattle.gate_pool.specs.Family.{names, ancestors_of, descendants_of, ancestors_above, conflicts_of}
use Rattle.gate_admit.specs.declared.attempt.Attempt.{Attempt}
use Rattle.gate_admit.specs.declared.attempt.Attempt.TheVariants.{First, Again}
use Rattle.gate_admit.specs.Policies.{Policy}

-- the most virtual bytes of version 3, and of one with a parent in the pool (TRUC_MAX_VSIZE and TRUC_CHILD_MAX_VSIZE)
abbrev pub truc_size : ℕ
truc_size = 10000

abbrev pub truc_child_size : ℕ
truc_child_size = 1000

-- one of the two is of version 3, and the other isn't
abbrev pub is_of_other_kind : Tx → Admitted → Bool
is_of_other_kind tx e = if is_truc tx then not (is_truc e.tx) else is_truc e.tx

-- ---- the sibling

-- the entries below the entry of an id, without itself
abbrev pub others_below : List Admitted → List ℕ → List Admitted
others_below entries txid = filter (λ e. not (has_txid e txid)) (descendants_of entries txid)

-- the entry of an id has one ancestor beside itself, and no descendant, as in every pool in which nothing descends from itself the
-- only descendant of an entry has none
abbrev pub is_only_child : List Admitted → List ℕ → Bool
is_only_child entries txid = length (ancestors_of entries txid) == 2 && length (descendants_of entries txid) == 1

-- the id of the only one of these entries, if it has one ancestor beside itself
abbrev pub evictable : List Admitted → List Admitted → Option (List ℕ)
evictable entries [] = None
evictable entries (s ∷ []) = if is_only_child entries (txid_of s.tx) then Some (txid_of s.tx) else None
evictable entries (s ∷ t ∷ rest) = None

-- a child of the entry of an id is a direct conflict
abbrev pub has_conflict_below : List Admitted → Tx → List ℕ → Bool
has_conflict_below entries tx parent = list_any (λ (c : Admitted). names c parent) (conflicts_of entries tx)

-- the sibling below the only ancestor, which has this id
abbrev pub sibling_below : List Admitted → Tx → List ℕ → Option (List ℕ)
sibling_below entries tx parent = if has_conflict_below entries tx parent then None else evictable entries (others_below entries parent)

-- the sibling of a transaction with these ancestors
abbrev pub sibling_among : List Admitted → Tx → List Admitted → Option (List ℕ)
sibling_among entries tx [] = None
sibling_among entries tx (p ∷ []) = sibling_below entries tx (txid_of p.tx)
sibling_among entries tx (p ∷ q ∷ rest) = None

-- the id of the entry that a transaction evicts at an attempt: one that is tried again evicts none
abbrev pub sibling_of : Attempt → Policy → List Admitted → Tx → Option (List ℕ)
sibling_of First policy entries tx = if policy.standards.truc && is_truc tx then sibling_among entries tx (ancestors_above entries tx.inputs) else None
sibling_of Again policy entries tx = None

-- ---- A47

-- the only ancestor has a descendant that doesn't make room, and no child of it is a direct conflict
abbrev pub is_taken : List Admitted → Tx → List ℕ → Bool
is_taken entries tx parent =
    nat_lt 0 (length (others_below entries parent)) && (not (has_conflict_below entries tx parent) && is_none (evictable entries (others_below entries parent)))

-- a transaction of version 3 and of this size is too large or has too large a family, with these ancestors
abbrev pub is_outside : List Admitted → Tx → ℕ → List Admitted → Bool
is_outside entries tx vsize [] = nat_lt truc_size vsize
is_outside entries tx vsize (p ∷ []) = nat_lt truc_child_size vsize || is_taken entries tx (txid_of p.tx)
is_outside entries tx vsize (p ∷ q ∷ rest) = true

-- a transaction of this size is above or below another version, or its family is no family of version 3
abbrev pub breaks_family : List Admitted → Tx → ℕ → Bool
breaks_family entries tx vsize =
    let above = ancestors_above entries tx.inputs in
    list_any (is_of_other_kind tx) above || (is_truc tx && is_outside entries tx vsize above)

-- what a transaction is asked at an attempt: one that is tried again is asked nothing
abbrev pub breaks_truc : Attempt → Policy → List Admitted → Tx → ℕ → Bool
breaks_truc First policy entries tx vsize = policy.standards.truc && breaks_family entries tx vsize
breaks_truc Again policy entries tx vsize = false

-- ---- a pool whose families of version 3 are small

-- an entry of version 3 is small, and so are its families; and no entry is above or below one of another kind
pub record IsKin (entries : List Admitted) (e : Admitted) : Type 0 where
  pub alike : All (λ (a : Admitted). is_of_other_kind e.tx a ≡ false) (ancestors_of entries (txid_of e.tx))
  pub above : is_truc e.tx ≡ true → length (ancestors_of entries (txid_of e.tx)) ≤ 2
  pub below : is_truc e.tx ≡ true → length (descendants_of entries (txid_of e.tx)) ≤ 2
  pub small : is_truc e.tx ≡ true → e.vsize ≤ truc_size
  pub child : is_truc e.tx ≡ true → 1 < length (ancestors_of entries (txid_of e.tx)) → e.vsize ≤ truc_child_size

abbrev pub TrucHolds : List Admitted → Type 0
TrucHolds entries = All (IsKin entries) entries
