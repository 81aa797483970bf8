-- An entry that spends what one of them spends is found.
use Rattle.std.proofs.Common.{◌≡◌, true, List, [], ◌∷◌, ⊎_elim, ◌∙◌}
use Rattle.std.specs.Prelude.{Contains, is_some}
use Rattle.std.proofs.lemmas.List.Elements.{Contains-append_cases}
use Rattle.gate_tx.specs.declared.TxIn.{TxIn}
use Rattle.gate_tx.specs.Coins.{spends}
use Rattle.gate_tx.specs.Tx.{Tx}
use Rattle.gate_pool.specs.Pool.{Admitted, spender_of}
use Rattle.gate_bytes.proofs.Members.{Contains-head, Contains-rest, list_any_of, not_in_none}
use Rattle.gate_rbf.proofs.Conflicting.{is_some-find}
use Rattle.gate_rivals.specs.Rivals.{all_inputs}
use Rattle.gate_package.specs.Judging.{replaces_one}
use Rattle.gate_package.specs.Together.{replaces_some}

-- what an input of all of them spends is an input of one
one_of_all : (txs : List Tx) (i : TxIn) → Contains (all_inputs txs) i → (tx : Tx) × Contains txs tx × Contains tx.inputs i
one_of_all [] i c = not_in_none i c
one_of_all (tx ∷ txs) i c =
    ⊎_elim (λ (k : Contains tx.inputs i). (tx, Contains-head tx txs, k)) (λ (k : Contains (all_inputs txs) i). let w = one_of_all txs i k in (w.0, Contains-rest tx txs w.0 w.1, w.2))
    (Contains-append_cases tx.inputs (all_inputs txs) i c)

pub spent_by_one : (entries : List Admitted) (txs : List Tx) (i : TxIn) → Contains (all_inputs txs) i → (e : Admitted) → Contains entries e → spends e.tx.inputs i.prevout ≡ true → replaces_some entries txs ≡ true
spent_by_one entries txs i c e m s =
    let w = one_of_all txs i c in
    let there : is_some (spender_of entries i.prevout) ≡ true = is_some-find (λ (x : Admitted). spends x.tx.inputs i.prevout) entries ∙ list_any_of (λ (x : Admitted). spends x.tx.inputs i.prevout) entries e m s in
    list_any_of (replaces_one entries) txs w.0 w.1 (list_any_of (λ (j : TxIn). is_some (spender_of entries j.prevout)) w.0.inputs i w.2 there)
