-- What conflicts with a transaction is gone once none spends what it spends.
use Rattle.std.proofs.Common.{◌≡◌, ℕ, Bool, false, cond, List, [], ◌∷◌, None, Some, sym, ap, ◌∙◌, refl, true≢false, not}
use Rattle.std.specs.Prelude.{Contains, find}
use Rattle.std.proofs.lemmas.Bool.{false_from_ne_true}
use Rattle.gate_tx.specs.declared.TxIn.{TxIn}
use Rattle.gate_tx.specs.Ids.{txid_of, wtxid_of}
use Rattle.gate_tx.specs.Coins.{spends}
use Rattle.gate_bytes.proofs.Members.{Contains-head, Contains-rest, any_is}
use Rattle.gate_pool.specs.Pool.{Admitted, has_txid, has_wtxid, spender_of, entry_by_txid, entry_by_wtxid}
use Rattle.gate_pool.specs.Family.{names, spends_one_of, without_below, is_below_some}
use Rattle.gate_pool.specs.Keeping.{IsNew}
use Rattle.gate_pool.proofs.Entries.{find_none}
use Rattle.gate_pool.proofs.Walking.{none-filter}
use Rattle.gate_pool.proofs.Removals.{without_below-none}

pub find_absent : {X : Type 0} (p : X → Bool) (xs : List X) → ((x : X) → Contains xs x → p x ≡ false) → find p xs ≡ None
find_absent p [] h = refl
find_absent p (x ∷ xs) h = ap (λ b. cond b (Some x) (find p xs)) (h x (Contains-head x xs)) ∙ find_absent p xs (λ y m. h y (Contains-rest x xs y m))

pub none_left : (inputs : List TxIn) (entries : List Admitted) → ((i : TxIn) → Contains inputs i → spender_of entries i.prevout ≡ None) → without_below (spends_one_of inputs) entries ≡ entries
none_left inputs entries none = without_below-none (spends_one_of inputs) entries (find_absent (spends_one_of inputs) entries (λ e m. false_from_ne_true _ (λ t.
    let w = any_is (λ (i : TxIn). spends e.tx.inputs i.prevout) inputs t in
    true≢false (sym w.2 ∙ find_none (λ (x : Admitted). spends x.tx.inputs w.0.prevout) entries (none w.0 w.1) e m))))

-- where no entry names an id, none is below one that does
pub none_named : (entries : List Admitted) (txid : List ℕ) → ((e : Admitted) → Contains entries e → names e txid ≡ false) → without_below (λ e. names e txid) entries ≡ entries
none_named entries txid none = without_below-none (λ e. names e txid) entries (find_absent (λ (e : Admitted). names e txid) entries none)

-- an entry whose ids are of none is new once its conflicts are gone
pub IsNew-left : (e : Admitted) (old rest : List Admitted) → entry_by_txid old (txid_of e.tx) ≡ None → entry_by_wtxid old (wtxid_of e.tx) ≡ None
    → rest ≡ without_below (spends_one_of e.tx.inputs) old → ((i : TxIn) → Contains e.tx.inputs i → spender_of rest i.prevout ≡ None) → IsNew rest e
IsNew-left e old rest txid wtxid is gone = record {
  txid = ap (λ l. entry_by_txid l (txid_of e.tx)) is ∙ none-filter (λ x. has_txid x (txid_of e.tx)) (λ x. not (is_below_some (spends_one_of e.tx.inputs) old x)) old txid;
  wtxid = ap (λ l. entry_by_wtxid l (wtxid_of e.tx)) is ∙ none-filter (λ x. has_wtxid x (wtxid_of e.tx)) (λ x. not (is_below_some (spends_one_of e.tx.inputs) old x)) old wtxid;
  points = gone;
}
