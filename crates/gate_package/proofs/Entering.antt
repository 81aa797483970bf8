-- Those that enter together and replace nothing: none leaves, and they stand behind all.
use Rattle.std.proofs.Common.{◌≡◌, ℕ, Bool, false, List, [], ◌∷◌, ◌++◌, refl, sym, ap, ◌∙◌}
use Rattle.std.specs.Prelude.{◌&&◌, Contains, filter}
use Rattle.std.proofs.lemmas.Bool.{and_parts, cond-false, false_from_ne_true, true≢false}
use Rattle.gate_bytes.proofs.Members.{Contains-head, Contains-rest, any_is}
use Rattle.gate_graph.specs.Family.{reaches}
use Rattle.gate_tx.specs.declared.TxIn.{TxIn}
use Rattle.gate_tx.specs.Coins.{spends}
use Rattle.gate_tx.specs.Ids.{txid_of}
use Rattle.gate_tx.specs.Tx.{Tx}
use Rattle.gate_pool.specs.Family.{is_below_some, steps}
use Rattle.gate_pool.specs.Pool.{Admitted, listing_of}
use Rattle.gate_diagram.specs.declared.Price.{Price}
use Rattle.gate_package.specs.Packages.{entered_together, newcomers}
use Rattle.gate_rivals.specs.Rivals.{all_inputs, is_rival, replaced_together}
use Rattle.gate_package.specs.Together.{replaces_some}
use Rattle.gate_package.proofs.Parting.{all_stay}
use Rattle.gate_package.proofs.Spenders.{spent_by_one}

filter_none : {X : Type 0} (p : X → Bool) (xs : List X) → ((x : X) → Contains xs x → p x ≡ false) → filter p xs ≡ []
filter_none p [] h = refl
filter_none p (x ∷ xs) h = cond-false (p x) (x ∷ filter p xs) (filter p xs) (h x (Contains-head x xs)) ∙ filter_none p xs (λ y c. h y (Contains-rest x xs y c))

no_rival : (entries : List Admitted) (txs : List Tx) (e : Admitted) → replaces_some entries txs ≡ false → Contains entries e → is_rival txs e ≡ false
no_rival entries txs e none c =
    false_from_ne_true _ (λ t.
    let i = any_is (λ (j : TxIn). spends e.tx.inputs j.prevout) (all_inputs txs) t in
    true≢false (sym (spent_by_one entries txs i.0 i.1 e c i.2) ∙ none))

-- none leaves where they replace nothing
none_leave : (entries : List Admitted) (txs : List Tx) → replaces_some entries txs ≡ false → replaced_together entries txs ≡ []
none_leave entries txs none =
    filter_none (is_below_some (is_rival txs) entries) entries (λ e c.
    false_from_ne_true _ (λ t.
    let w = any_is (λ b. is_rival txs b && reaches (steps entries) (txid_of b.tx) (txid_of e.tx)) entries t in
    true≢false (sym (and_parts _ _ w.2).0 ∙ no_rival entries txs w.0 none w.1)))

pub none_listed : (entries : List Admitted) (txs : List Tx) → replaces_some entries txs ≡ false → [] ≡ listing_of (replaced_together entries txs)
none_listed entries txs none = sym (ap listing_of (none_leave entries txs none))

-- they stand behind all entries then
pub entered_plainly : (now : ℕ) (entries after : List Admitted) (txs : List Tx) (prices : List Price) → replaces_some entries txs ≡ false → after ≡ entries ++ newcomers now txs prices → after ≡ entered_together entries now txs prices
entered_plainly now entries after txs prices none is = is ∙ ap (λ (l : List Admitted). l ++ newcomers now txs prices) (sym (all_stay entries txs none))
