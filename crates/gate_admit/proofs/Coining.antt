-- Where an outpoint has its coin from, and what keeps it.
use Rattle.std.proofs.Common.{◌≡◌, ◌≢◌, ◌+◌, ℕ, Bool, true, false, List, [], ◌∷◌, ◌++◌, Option, Some, None, refl, sym, ap, ◌∙◌, ◌⊎◌, inl, inr, ⊎_elim, if◌then◌else◌, cond, not}
use Rattle.std.specs.Prelude.{Contains, find, is_some, IsSome, option_and_then, slice_get}
use Rattle.std.specs.Option.{option_or, option_map}
use Rattle.std.specs.Str.{bytes_eq}
use Rattle.std.specs.List.{list_any}
use Rattle.std.specs.Cmp.Lexicographic.{bytes_decides}
use Rattle.std.proofs.lemmas.Bool.{true≢false, false_from_ne_true, and_parts, or_left, or_right, cond-false}
use Rattle.std.proofs.lemmas.List.Folds.{find-append}
use Rattle.gate_tx.specs.declared.Coin.{Coin}
use Rattle.gate_tx.specs.declared.OutPoint.{OutPoint}
use Rattle.gate_tx.specs.Coins.{point_eq}
use Rattle.gate_tx.specs.Ids.{txid_of}
use Rattle.gate_tx.specs.Tx.{Tx}
use Rattle.gate_chain.specs.declared.OpeningCoin.{OpeningCoin}
use Rattle.gate_chain.specs.Blocks.{Block}
use Rattle.gate_chain.specs.Coins.{has_txid as opened_by, has_transaction, is_spent_in, opening_coin_of, coin_made, coin_of_transaction, coin_of_transactions, coin_of_blocks, coin_of, is_known_txid}
use Rattle.gate_chain.specs.History.{History}
use Rattle.gate_chain.specs.Times.{tip_of}
use Rattle.gate_pool.specs.Pool.{Admitted, has_txid, entry_by_txid}
use Rattle.gate_pool.proofs.Entries.{Id, find_some}
use Rattle.gate_pool.proofs.Removals.{kept}
use Rattle.gate_admit.specs.Coins.{view_coin}
use Rattle.gate_admit.specs.Good.{coin_made_at}
use Rattle.gate_admit.proofs.Filtering.{find-filter_same}

-- ---- the chain knows the transaction of each of its coins

pub some_either : {X : Type 0} (a b : Option X) → is_some (option_or a b) ≡ true → (is_some a ≡ true) ⊎ (is_some b ≡ true)
some_either None b h = inr h
some_either (Some x) b h = inl refl

known_opening : (coins : List OpeningCoin) (p : OutPoint) → is_some (opening_coin_of coins p) ≡ true → opened_by p.txid coins ≡ true
known_opening [] p h = h
known_opening (c ∷ coins) p h = go (point_eq p c.outpoint) refl h (known_opening coins p)
  where
    go : (b : Bool) → point_eq p c.outpoint ≡ b → is_some (option_map (λ (d : OpeningCoin). d.coin) (cond b (Some c) (find (λ (d : OpeningCoin). point_eq p d.outpoint) coins))) ≡ true
        → (is_some (opening_coin_of coins p) ≡ true → opened_by p.txid coins ≡ true) → opened_by p.txid (c ∷ coins) ≡ true
    go true e k ih =
        let same = (bytes_decides p.txid c.outpoint.txid).0 (and_parts _ _ e).0 in
        or_left (bytes_eq c.outpoint.txid p.txid) (opened_by p.txid coins) ((bytes_decides c.outpoint.txid p.txid).1 (sym same))
    go false e k ih = or_right (bytes_eq c.outpoint.txid p.txid) (opened_by p.txid coins) (ih k)

known_transaction : (height : ℕ) (coinbase : Bool) (tx : Tx) (p : OutPoint) → is_some (coin_of_transaction height coinbase tx p) ≡ true → bytes_eq (txid_of tx) p.txid ≡ true
known_transaction height coinbase tx p h = go (bytes_eq (txid_of tx) p.txid) (option_and_then (coin_made height coinbase) (slice_get tx.outputs p.index)) h
  where
    go : (b : Bool) (o : Option Coin) → is_some (if b then o else None) ≡ true → b ≡ true
    go true o k = refl
    go false o k = k

known_transactions : (height : ℕ) (coinbase : Bool) (txs : List Tx) (p : OutPoint) → is_some (coin_of_transactions height coinbase txs p) ≡ true
    → list_any (λ (tx : Tx). bytes_eq (txid_of tx) p.txid) txs ≡ true
known_transactions height coinbase [] p h = h
known_transactions height coinbase (tx ∷ txs) p h =
    let rest = list_any (λ (t : Tx). bytes_eq (txid_of t) p.txid) txs in
    ⊎_elim (λ k. or_left (bytes_eq (txid_of tx) p.txid) rest (known_transaction height coinbase tx p k))
    (λ k. or_right (bytes_eq (txid_of tx) p.txid) rest (known_transactions height false txs p k))
    (some_either (coin_of_transaction height coinbase tx p) (coin_of_transactions height false txs p) h)

pub known_blocks : (height : ℕ) (blocks : List Block) (p : OutPoint) → is_some (coin_of_blocks height blocks p) ≡ true → list_any (has_transaction p.txid) blocks ≡ true
known_blocks height [] p h = h
known_blocks height (b ∷ blocks) p h =
    ⊎_elim (λ k. or_left (has_transaction p.txid b) (list_any (has_transaction p.txid) blocks) (known_transactions height true b.transactions p k))
    (λ k. or_right (has_transaction p.txid b) (list_any (has_transaction p.txid) blocks) (known_blocks (height + 1) blocks p k))
    (some_either (coin_of_transactions height true b.transactions p) (coin_of_blocks (height + 1) blocks p) h)

unspent : {X : Type 0} (b : Bool) (o : Option X) → is_some (if b then None else o) ≡ true → is_some o ≡ true
unspent true o h = absurd (true≢false (sym h))
unspent false o h = h

-- where the chain made a coin it knows its transaction
pub known_if_made : (chain : History) (p : OutPoint) → IsSome (coin_made_at chain p) → is_known_txid chain p.txid ≡ true
unfolding is_known_txid
known_if_made chain p h =
    ⊎_elim (λ k. or_left (opened_by p.txid chain.coins) (list_any (has_transaction p.txid) chain.blocks) (known_opening chain.coins p k))
    (λ k. or_right (opened_by p.txid chain.coins) (list_any (has_transaction p.txid) chain.blocks) (known_blocks _ chain.blocks p k))
    (some_either (opening_coin_of chain.coins p) _ h)

-- a coin that the chain has was made
pub made_if_coin : (chain : History) (p : OutPoint) → IsSome (coin_of chain p) → IsSome (coin_made_at chain p)
unfolding coin_of
made_if_coin chain p h = unspent (list_any (is_spent_in p) chain.blocks) _ h

-- and where it has a coin it knows its transaction
pub known_if_coin : (chain : History) (p : OutPoint) → IsSome (coin_of chain p) → is_known_txid chain p.txid ≡ true
known_if_coin chain p h = known_if_made chain p (made_if_coin chain p h)

-- ---- a coin is of an entry, or of the chain

-- the coin at an outpoint, where this entry has its txid
abbrev coin_with : History → OutPoint → Option Admitted → Option Coin
coin_with chain p found = option_or (option_and_then (λ (e : Admitted). option_and_then (coin_made (tip_of chain + 1) false) (slice_get e.tx.outputs p.index)) found) (coin_of chain p)

-- what has a coin is an output of an entry, or the chain has it
pub coin_from : (chain : History) (entries : List Admitted) (p : OutPoint) → IsSome (view_coin chain entries p)
    → ((a : Admitted) × Contains entries a × (txid_of a.tx ≡ p.txid)) ⊎ (IsSome (coin_of chain p))
coin_from chain entries p h = go (entry_by_txid entries p.txid) refl h
  where
    go : (found : Option Admitted) → entry_by_txid entries p.txid ≡ found → is_some (coin_with chain p found) ≡ true → ((a : Admitted) × Contains entries a × (txid_of a.tx ≡ p.txid)) ⊎ (IsSome (coin_of chain p))
    go None e k = inr k
    go (Some a) e k = let w = find_some (λ (x : Admitted). has_txid x p.txid) entries a e in inl (a, w.0, (bytes_decides (txid_of a.tx) p.txid).0 w.1)

-- what has a coin is of no transaction that neither the chain knows nor an entry has
pub coin_elsewhere : (chain : History) (entries : List Admitted) (txid : List ℕ) → ((a : Admitted) → Contains entries a → txid_of a.tx ≢ txid) → is_known_txid chain txid ≡ false
    → (p : OutPoint) → IsSome (view_coin chain entries p) → p.txid ≢ txid
coin_elsewhere chain entries txid new unknown p h = λ same.
    ⊎_elim (λ w. new w.0 w.1 (w.2 ∙ same)) (λ k. true≢false (sym (known_if_coin chain p k) ∙ ap (is_known_txid chain) same ∙ unknown)) (coin_from chain entries p h)

-- ---- a coin stays

-- where one entry has the txid before and after
pub coin_as_before : (chain : History) (old new : List Admitted) (p : OutPoint) → entry_by_txid new p.txid ≡ entry_by_txid old p.txid → IsSome (view_coin chain old p) → IsSome (view_coin chain new p)
coin_as_before chain old new p same h = ap (λ found. is_some (coin_with chain p found)) same ∙ h

-- where its transaction doesn't go
pub coin_stays : (chain : History) (D : Id → Bool) (entries : List Admitted) (p : OutPoint) → D p.txid ≡ false → IsSome (view_coin chain entries p) → IsSome (view_coin chain (kept D entries) p)
coin_stays chain D entries p beside h =
    coin_as_before chain entries (kept D entries) p
    (find-filter_same (λ (e : Admitted). has_txid e p.txid) (λ (e : Admitted). not (D (txid_of e.tx))) entries
    (λ a m t. ap not (ap D ((bytes_decides (txid_of a.tx) p.txid).0 t) ∙ beside))) h

-- where an entry of another txid enters
pub coin_beside : (chain : History) (entries : List Admitted) (e : Admitted) (p : OutPoint) → p.txid ≢ txid_of e.tx → IsSome (view_coin chain entries p) → IsSome (view_coin chain (entries ++ e ∷ []) p)
coin_beside chain entries e p apart h =
    coin_as_before chain entries (entries ++ e ∷ []) p
    (find-append (λ (a : Admitted). has_txid a p.txid) entries (e ∷ [])
    ∙ ap (option_or (entry_by_txid entries p.txid)) (cond-false (has_txid e p.txid) (Some e) None (false_from_ne_true _ (λ t. apart (sym ((bytes_decides (txid_of e.tx) p.txid).0 t)))))
    ∙ or_none (entry_by_txid entries p.txid)) h
  where
    or_none : (o : Option Admitted) → option_or o None ≡ o
    or_none None = refl
    or_none (Some a) = refl
