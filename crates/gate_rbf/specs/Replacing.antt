-- What it takes to replace entries of a pool: BIP 125, as Bitcoin Core 22.0 has it (A23, and A38 to A42), and the same beside the
-- sibling that a transaction of version 3 evicts.
use Rattle.std.specs.Prelude.{ℕ, ◌-◌, nat_lt, nat_le, Bool, not, ◌&&◌, ◌||◌, List, [], ◌∷◌, length, sum_by, is_some, if◌then◌else◌, Option}
use Rattle.std.specs.List.{list_any}
use Rattle.gate_bytes.specs.Order.{Rule}
use Rattle.gate_tx.specs.declared.TxIn.{TxIn}
use Rattle.gate_tx.specs.Ids.{txid_of}
use Rattle.gate_tx.specs.Tx.{Tx}
use Rattle.gate_standard.specs.Amounts.{required_fee, feerate}
use Rattle.gate_rules.specs.declared.Denial.{Denial}
use Rattle.gate_standard.specs.declared.Feerate.{Feerate}
use Rattle.gate_rules.specs.declared.Denial.TheVariants.{LowerFeeRate, TooManyReplacements, AddsUnconfirmed, LowerFee, LowerDifference}
use Rattle.gate_pool.specs.Pool.{Admitted, entry_by_txid}
use Rattle.gate_pool.specs.Family.{names, descendants_of, is_conflict, fees_of}
use Rattle.gate_standard.specs.Rules.{is_truc}
use Rattle.gate_pool.specs.Counting.{is_counted, counted_of, replaced_beside}
use Rattle.gate_rbf.specs.declared.parents.ParentsOf.{ParentsOf}
use Rattle.gate_rbf.specs.declared.parents.ParentsOf.TheVariants.{Conflicts, Replaced}

-- a transaction signals that it may be replaced: an input has a sequence of at most 0xfffffffd
abbrev pub signals : Tx → Bool
signals tx = list_any (λ (i : TxIn). nat_le i.sequence 0xffff_fffd) tx.inputs

-- a transaction says that it may be replaced: it signals, or its version says so, where version 3 is standard
abbrev pub is_replaceable : Bool → Tx → Bool
is_replaceable truc tx = signals tx || (truc && is_truc tx)

-- an entry conflicts with a transaction, and doesn't itself say that it may be replaced; its ancestors' signals don't count
abbrev pub is_non_signalling_conflict : Bool → Tx → Admitted → Bool
is_non_signalling_conflict truc tx e = is_conflict tx e && not (is_replaceable truc e.tx)

-- the descendants of some entries, themselves among them: an entry below two of them counts twice
abbrev pub descendant_count : List Admitted → List Admitted → ℕ
descendant_count entries some = sum_by (λ (c : Admitted). length (descendants_of entries (txid_of c.tx))) some

-- an input spends from an entry from which no input of these entries does
abbrev pub adds_parent : List Admitted → List Admitted → TxIn → Bool
adds_parent entries these input = is_some (entry_by_txid entries input.prevout.txid) && not (list_any (λ (c : Admitted). names c input.prevout.txid) these)

-- the entries whose parents a replacement may have, too: the conflicts that count, or all that it replaces
abbrev pub sharers : ParentsOf → List Admitted → Option (List ℕ) → Tx → List Admitted
sharers Conflicts entries sibling tx = counted_of entries sibling tx
sharers Replaced entries sibling tx = replaced_beside entries sibling tx

-- an input spends from an entry from which no input of those does (A40)
abbrev pub adds_unconfirmed : ParentsOf → List Admitted → Option (List ℕ) → Tx → Bool
adds_unconfirmed parents entries sibling tx = list_any (adds_parent entries (sharers parents entries sibling tx)) tx.inputs

-- the rules on a transaction of this fee and size, of which the entries `direct` count as conflicts, and which may have the parents
-- of `sharing`, if all that it replaces pay `paid`, and a replacement pays for its own relay at `rate`
unfoldable pub rules_beside : Feerate → List Admitted → List Admitted → List Admitted → ℕ → Tx → ℕ → ℕ → List (Rule Denial)
rules_beside rate entries direct sharing paid tx fee vsize =
    (LowerFeeRate, list_any (λ (c : Admitted). nat_le (feerate fee vsize) (feerate c.fee c.vsize)) direct)
    ∷ (TooManyReplacements, nat_lt 100 (descendant_count entries direct))
    ∷ (AddsUnconfirmed, list_any (adds_parent entries sharing) tx.inputs)
    ∷ (LowerFee, nat_lt fee paid)
    ∷ (LowerDifference, nat_lt (fee - paid) (required_fee rate vsize))
    ∷ []

-- A38 to A42, which apply only to a transaction that conflicts with an entry, or evicts this sibling
unfoldable pub replacement_rules : Feerate → ParentsOf → List Admitted → Option (List ℕ) → Tx → ℕ → ℕ → List (Rule Denial)
replacement_rules rate parents entries sibling tx fee vsize =
    if list_any (is_counted sibling tx) entries then rules_beside rate entries (counted_of entries sibling tx) (sharers parents entries sibling tx) (fees_of (replaced_beside entries sibling tx)) tx fee vsize else []
