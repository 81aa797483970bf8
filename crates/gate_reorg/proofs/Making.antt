-- Where a chain's coin comes from, and what a transaction makes.
use Rattle.std.proofs.Common.{◌≡◌, ◌+◌, ℕ, Bool, true, false, if◌then◌else◌, List, [], ◌∷◌, drop, length, Option, Some, None, refl, sym, ap, ◌∙◌, subst, ◌⊎◌, inl, inr, ⊎_elim}
use Rattle.std.specs.Prelude.{Contains, is_some, IsSome, option_and_then, slice_get}
use Rattle.std.specs.Option.{option_or}
use Rattle.std.specs.List.{AllPairs, list_any}
use Rattle.std.specs.Str.{bytes_eq}
use Rattle.std.specs.Cmp.Lexicographic.{bytes_decides}
use Rattle.std.proofs.lemmas.Bool.{true≢false, false_from_ne_true}
use Rattle.gate_bytes.proofs.Members.{Contains-cons_cases, Contains-head, Contains-rest, not_in_none, any_is}
use Rattle.gate_tx.specs.declared.Coin.{Coin}
use Rattle.gate_tx.specs.declared.OutPoint.{OutPoint}
use Rattle.gate_tx.specs.declared.TxIn.{TxIn}
use Rattle.gate_tx.specs.declared.TxOut.{TxOut}
use Rattle.gate_tx.specs.Coins.{point_eq, spends, is_unspendable}
use Rattle.gate_tx.specs.Equality.{out_point_decides}
use Rattle.gate_tx.specs.Ids.{txid_of}
use Rattle.gate_tx.specs.Text.{IsTx, stripped}
use Rattle.gate_tx.specs.Tx.{Tx}
use Rattle.gate_tx.proofs.Stripped.{stripped_same}
use Rattle.gate_chain.specs.Blocks.{Block}
use Rattle.gate_chain.specs.Coins.{coin_made, coin_of_transaction, coin_of_transactions, coin_of_blocks, coin_of, opening_coin_of, is_spent_in, is_known_txid}
use Rattle.gate_chain.specs.History.{History, first_connected}
use Rattle.gate_chain.specs.Times.{tip_of}
use Rattle.gate_pool.specs.Pool.{Admitted, has_txid, entry_by_txid}
use Rattle.gate_pool.proofs.Adding.{found_by_id}
use Rattle.gate_pool.proofs.Entries.{find_some}
use Rattle.gate_admit.specs.Coins.{pool_coin, view_coin}
use Rattle.gate_admit.specs.Good.{IsSettled, connected_transactions}
use Rattle.gate_admit.proofs.Removing.{DifferByTxid}
use Rattle.gate_admit.proofs.Unconnected.{founded}
use Rattle.gate_submission.specs.Blocks.{transactions_of}
use Rattle.gate_reorg.proofs.Knowing.{Contains-from_flat_map, Contains-flat_map}

-- ---- what a transaction makes

-- a transaction makes a coin at an outpoint, whatever its height
abbrev pub makes : Tx → OutPoint → Bool
makes tx p = is_some (coin_of_transaction 0 false tx p)

made_alike : (height : ℕ) (coinbase : Bool) (o : Option TxOut) → is_some (option_and_then (coin_made height coinbase) o) ≡ is_some (option_and_then (coin_made 0 false) o)
made_alike height coinbase None = refl
made_alike height coinbase (Some o) = go (is_unspendable o.script)
  where
    go : (b : Bool) → is_some {T = Coin} (if b then None else Some (record { value = o.value; script = o.script; height = height; coinbase = coinbase }))
        ≡ is_some {T = Coin} (if b then None else Some (record { value = o.value; script = o.script; height = 0; coinbase = false }))
    go true = refl
    go false = refl

pub makes_alike : (height : ℕ) (coinbase : Bool) (tx : Tx) (p : OutPoint) → is_some (coin_of_transaction height coinbase tx p) ≡ makes tx p
makes_alike height coinbase tx p = go (bytes_eq (txid_of tx) p.txid)
  where
    go : (b : Bool) → is_some (if b then option_and_then (coin_made height coinbase) (slice_get tx.outputs p.index) else None) ≡ is_some (if b then option_and_then (coin_made 0 false) (slice_get tx.outputs p.index) else None)
    go true = made_alike height coinbase (slice_get tx.outputs p.index)
    go false = refl

-- by its txid
pub makes_by : (tx : Tx) (p : OutPoint) → makes tx p ≡ true → txid_of tx ≡ p.txid
makes_by tx p h = (bytes_decides (txid_of tx) p.txid).0 (go (bytes_eq (txid_of tx) p.txid) (option_and_then (coin_made 0 false) (slice_get tx.outputs p.index)) h)
  where
    go : (b : Bool) (o : Option Coin) → is_some (if b then o else None) ≡ true → b ≡ true
    go true o k = refl
    go false o k = k

-- transactions with the same form without witnesses make the same
pub makes_same : (a b : Tx) → IsTx a → IsTx b → txid_of a ≡ txid_of b → stripped a ≡ stripped b → (p : OutPoint) → makes a p ≡ true → makes b p ≡ true
makes_same a b is_a is_b id form p h =
    let outputs : a.outputs ≡ b.outputs = ap (λ (t : Tx). t.outputs) (stripped_same a b is_a is_b form) in
    sym (λ j. is_some (if bytes_eq (id j) p.txid then option_and_then (coin_made 0 false) (slice_get (outputs j) p.index) else None)) ∙ h

-- ---- what a chain makes

some_or : {X : Type 0} (a b : Option X) → is_some (option_or a b) ≡ true → (is_some a ≡ true) ⊎ (is_some b ≡ true)
some_or None b h = inr h
some_or (Some x) b h = inl refl

or_first : {X : Type 0} (a b : Option X) → is_some a ≡ true → is_some (option_or a b) ≡ true
or_first None b h = absurd (true≢false (sym h))
or_first (Some x) b h = refl

or_second : {X : Type 0} (a b : Option X) → is_some b ≡ true → is_some (option_or a b) ≡ true
or_second None b h = h
or_second (Some x) b h = refl

abbrev pub MadeBy : List Tx → OutPoint → Type 0
MadeBy txs p = (t : Tx) × Contains txs t × (makes t p ≡ true)

in_transactions : (height : ℕ) (coinbase : Bool) (txs : List Tx) (p : OutPoint) → is_some (coin_of_transactions height coinbase txs p) ≡ true → MadeBy txs p
in_transactions height coinbase [] p h = absurd (true≢false (sym h))
in_transactions height coinbase (t ∷ txs) p h =
    ⊎_elim (λ (k : is_some (coin_of_transaction height coinbase t p) ≡ true). (t, Contains-head t txs, sym (makes_alike height coinbase t p) ∙ k))
    (λ k. let w = in_transactions height false txs p k in (w.0, Contains-rest t txs w.0 w.1, w.2))
    (some_or (coin_of_transaction height coinbase t p) (coin_of_transactions height false txs p) h)

from_transactions : (height : ℕ) (coinbase : Bool) (txs : List Tx) (p : OutPoint) (t : Tx) → Contains txs t → makes t p ≡ true → is_some (coin_of_transactions height coinbase txs p) ≡ true
from_transactions height coinbase [] p t m h = not_in_none t m
from_transactions height coinbase (x ∷ txs) p t m h =
    ⊎_elim (λ (e : x ≡ t). or_first (coin_of_transaction height coinbase x p) (coin_of_transactions height false txs p) (makes_alike height coinbase x p ∙ ap (λ (u : Tx). makes u p) e ∙ h))
    (λ (k : Contains txs t). or_second (coin_of_transaction height coinbase x p) (coin_of_transactions height false txs p) (from_transactions height false txs p t k h))
    (Contains-cons_cases x txs t m)

record MadeIn (blocks : List Block) (p : OutPoint) : Type 0 where
  pub block : Block
  pub among : Contains blocks block
  pub made : MadeBy block.transactions p

in_blocks : (height : ℕ) (blocks : List Block) (p : OutPoint) → is_some (coin_of_blocks height blocks p) ≡ true → MadeIn blocks p
in_blocks height [] p h = absurd (true≢false (sym h))
in_blocks height (b ∷ blocks) p h =
    ⊎_elim (λ (k : is_some (coin_of_transactions height true b.transactions p) ≡ true). record { block = b; among = Contains-head b blocks; made = in_transactions height true b.transactions p k })
    (λ k. let w = in_blocks (height + 1) blocks p k in record { block = w.block; among = Contains-rest b blocks w.block w.among; made = w.made })
    (some_or (coin_of_transactions height true b.transactions p) (coin_of_blocks (height + 1) blocks p) h)

from_blocks : (height : ℕ) (blocks : List Block) (p : OutPoint) (b : Block) (t : Tx) → Contains blocks b → Contains b.transactions t → makes t p ≡ true → is_some (coin_of_blocks height blocks p) ≡ true
from_blocks height [] p b t at m h = not_in_none b at
from_blocks height (c ∷ blocks) p b t at m h =
    ⊎_elim (λ (e : c ≡ b). or_first (coin_of_transactions height true c.transactions p) (coin_of_blocks (height + 1) blocks p)
    (from_transactions height true c.transactions p t (subst (λ (d : Block). Contains d.transactions t) (sym e) m) h))
    (λ (k : Contains blocks b). or_second (coin_of_transactions height true c.transactions p) (coin_of_blocks (height + 1) blocks p) (from_blocks (height + 1) blocks p b t k m h))
    (Contains-cons_cases c blocks b at)

-- ---- coins of a chain

-- some connected block spends an outpoint
abbrev pub is_spent : History → OutPoint → Bool
is_spent h p = list_any (is_spent_in p) h.blocks

-- an opening has a coin there, or a connected transaction makes one
abbrev pub IsMade : History → OutPoint → Type 0
IsMade h p = (is_some (opening_coin_of h.coins p) ≡ true) ⊎ MadeBy (connected_transactions h) p

unspent_made : {X : Type 0} (b : Bool) (o : Option X) → is_some (if b then None else o) ≡ true → (b ≡ false) × (is_some o ≡ true)
unspent_made true o h = absurd (true≢false (sym h))
unspent_made false o h = (refl, h)

pub coin_is_made : (h : History) (p : OutPoint) → IsSome (coin_of h p) → (is_spent h p ≡ false) × IsMade h p
unfolding coin_of
coin_is_made h p k =
    let w = unspent_made (is_spent h p) (option_or (opening_coin_of h.coins p) (coin_of_blocks (first_connected h) h.blocks p)) k in (
      w.0,
      ⊎_elim (λ (o : is_some (opening_coin_of h.coins p) ≡ true). inl o)
          (λ o. let m = in_blocks (first_connected h) h.blocks p o in inr (m.made.0, Contains-flat_map (λ (b : Block). b.transactions) h.blocks m.block m.made.0 m.among m.made.1, m.made.2))
          (some_or (opening_coin_of h.coins p) (coin_of_blocks (first_connected h) h.blocks p) w.1),
    )

left_over : {X : Type 0} (b : Bool) (o : Option X) → b ≡ false → is_some o ≡ true → is_some (if b then None else o) ≡ true
left_over true o e h = absurd (true≢false e)
left_over false o e h = h

pub made_is_coin : (h : History) (p : OutPoint) → is_spent h p ≡ false → IsMade h p → IsSome (coin_of h p)
unfolding coin_of
made_is_coin h p unspent made =
    left_over (is_spent h p) (option_or (opening_coin_of h.coins p) (coin_of_blocks (first_connected h) h.blocks p)) unspent
    (⊎_elim (λ (o : is_some (opening_coin_of h.coins p) ≡ true). or_first (opening_coin_of h.coins p) (coin_of_blocks (first_connected h) h.blocks p) o)
    (λ (w : MadeBy (connected_transactions h) p).
    let m = Contains-from_flat_map (λ (b : Block). b.transactions) h.blocks w.0 w.1 in
    or_second (opening_coin_of h.coins p) (coin_of_blocks (first_connected h) h.blocks p) (from_blocks (first_connected h) h.blocks p m.item w.0 m.among m.within w.2))
    made)

-- what is behind the first of a list is in it
pub Contains-behind : {X : Type 0} (xs : List X) (x : X) → Contains (drop 1 xs) x → Contains xs x
Contains-behind [] x m = m
Contains-behind (y ∷ xs) x m = Contains-rest y xs x m

-- what no transaction of blocks spends
pub unspent_by : (blocks : List Block) (p : OutPoint) → ((t : Tx) → Contains (transactions_of blocks) t → spends t.inputs p ≡ false) → list_any (is_spent_in p) blocks ≡ false
unspent_by blocks p none = false_from_ne_true _ (λ h.
    let b = any_is (is_spent_in p) blocks h in
    let t = any_is (λ (tx : Tx). spends tx.inputs p) (drop 1 b.0.transactions) b.2 in
    true≢false (sym t.2 ∙ none t.0 (Contains-flat_map (λ (c : Block). c.transactions) blocks b.0 t.0 b.1 (Contains-behind b.0.transactions t.0 t.1))))

-- what the chain doesn't know, nothing in it spends
pub unspent_if_unknown : (h : History) → IsSettled h → (p : OutPoint) → is_known_txid h p.txid ≡ false → is_spent h p ≡ false
unspent_if_unknown h settled p unknown = false_from_ne_true _ (λ k.
    let b = any_is (is_spent_in p) h.blocks k in
    let t = any_is (λ (tx : Tx). spends tx.inputs p) (drop 1 b.0.transactions) b.2 in
    let i = any_is (λ (i : TxIn). point_eq i.prevout p) t.0.inputs t.2 in
    true≢false (sym (founded h settled b.0 b.1 t.0 t.1 i.0 i.1) ∙ ap (λ (q : OutPoint). is_known_txid h q.txid) ((out_point_decides i.0.prevout p).0 i.2) ∙ unknown))

-- ---- coins of the view

-- an entry makes it
abbrev pub PoolMakes : List Admitted → OutPoint → Type 0
PoolMakes entries p = (a : Admitted) × Contains entries a × (makes a.tx p ≡ true)

abbrev coin_at : ℕ → OutPoint → Option Admitted → Option Coin
coin_at height p found = option_and_then (λ (e : Admitted). option_and_then (coin_made height false) (slice_get e.tx.outputs p.index)) found

chosen : {X : Type 0} (b : Bool) (o : Option X) → b ≡ true → is_some (if b then o else None) ≡ is_some o
chosen true o e = refl
chosen false o e = absurd (true≢false (sym e))

pub view_cases : (chain : History) (entries : List Admitted) (p : OutPoint) → IsSome (view_coin chain entries p) → PoolMakes entries p ⊎ IsSome (coin_of chain p)
view_cases chain entries p h = go (entry_by_txid entries p.txid) refl h
  where
    go : (o : Option Admitted) → entry_by_txid entries p.txid ≡ o → is_some (option_or (coin_at (tip_of chain + 1) p o) (coin_of chain p)) ≡ true → PoolMakes entries p ⊎ IsSome (coin_of chain p)
    go None e k = inr k
    go (Some a) e k =
        let w = find_some (λ (x : Admitted). has_txid x p.txid) entries a e in
        ⊎_elim
        (λ (m : is_some (coin_at (tip_of chain + 1) p (Some a)) ≡ true).
        inl (a, w.0, chosen (bytes_eq (txid_of a.tx) p.txid) _ w.1 ∙ sym (made_alike (tip_of chain + 1) false (slice_get a.tx.outputs p.index)) ∙ m))
        (λ (m : is_some (coin_of chain p) ≡ true). inr m)
        (some_or (coin_at (tip_of chain + 1) p (Some a)) (coin_of chain p) k)

pub view_chain : (chain : History) (entries : List Admitted) (p : OutPoint) → IsSome (coin_of chain p) → IsSome (view_coin chain entries p)
view_chain chain entries p h = or_second (pool_coin (tip_of chain + 1) entries p) (coin_of chain p) h

-- where ids tell entries apart, what one makes has a coin
pub view_pool : (chain : History) (entries : List Admitted) (p : OutPoint) → AllPairs DifferByTxid entries → PoolMakes entries p → IsSome (view_coin chain entries p)
view_pool chain entries p pairs (a, m, h) =
    let at : entry_by_txid entries p.txid ≡ Some a = ap (entry_by_txid entries) (sym (makes_by a.tx p h)) ∙ found_by_id entries pairs a m in
    ap (λ o. is_some (option_or (coin_at (tip_of chain + 1) p o) (coin_of chain p))) at
    ∙ or_first (coin_at (tip_of chain + 1) p (Some a)) (coin_of chain p)
    (made_alike (tip_of chain + 1) false (slice_get a.tx.outputs p.index) ∙ sym (chosen (bytes_eq (txid_of a.tx) p.txid) _ ((bytes_decides (txid_of a.tx) p.txid).1 (makes_by a.tx p h))) ∙ h)
