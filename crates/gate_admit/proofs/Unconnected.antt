-- What is granted is in no connected block, where transactions are told apart by their ids.
use Rattle.std.proofs.Common.{◌≡◌, ◌+◌, ◌||◌, ℕ, Bool, Option, true, false, List, [], ◌∷◌, ◌++◌, length, drop, Some, None, refl, sym, ap, ◌∙◌, subst, append_assoc, ⊎_elim}
use Rattle.std.specs.Prelude.{◌==◌, map, is_some, IsSome, Contains, option_and_then, slice_get}
use Rattle.std.specs.Option.{option_or}
use Rattle.std.specs.Str.{bytes_eq}
use Rattle.std.specs.List.{All, list_any, flat_map}
use Rattle.std.proofs.lemmas.Bool.{true≢false, false_from_ne_true, or_cases, or_left, or_right}
use Rattle.std.proofs.lemmas.List.Elements.{All-contains}
use Rattle.std.proofs.lemmas.Slice.Eq.{bytes_eq-Decides}
use Rattle.gate_bytes.specs.Order.{NoneFails, first_failing}
use Rattle.gate_bytes.proofs.OrderLemmas.{none_fails-append}
use Rattle.gate_bytes.proofs.Members.{Contains-cons_cases, Contains-head, Contains-rest, not_in_none, any_is, list_any_of}
use Rattle.gate_tx.specs.declared.Coin.{Coin}
use Rattle.gate_tx.specs.declared.OutPoint.{OutPoint}
use Rattle.gate_tx.specs.declared.TxIn.{TxIn}
use Rattle.gate_tx.specs.Coins.{point_eq, spends, is_null}
use Rattle.gate_tx.specs.Equality.{out_point_decides}
use Rattle.gate_tx.specs.Ids.{txid_of}
use Rattle.gate_tx.specs.Laws.{prevouts}
use Rattle.gate_tx.specs.Text.{IsTx, stripped}
use Rattle.gate_tx.specs.Tx.{Tx}
use Rattle.gate_tx.proofs.Stripped.{stripped_forms_spend_the_same}
use Rattle.gate_standard.specs.Rules.{transaction_rules, output_value_rules, is_coinbase}
use Rattle.gate_chain.specs.Blocks.{Block}
use Rattle.gate_chain.specs.Coins.{has_txid as opened_by, coin_made, coin_of, has_transaction, is_known_txid, is_spent_in}
use Rattle.gate_chain.specs.History.{History}
use Rattle.gate_admit.specs.declared.attempt.Attempt.{Attempt}
use Rattle.gate_admit.specs.Good.{AreApart, IsSettled, IsUnconnected, begins_with_coinbase, chain_up_to, connected_transactions}
use Rattle.gate_chain.specs.Times.{tip_of}
use Rattle.gate_pool.specs.Pool.{Admitted, has_txid, entry_by_txid, spends_of}
use Rattle.gate_pool.proofs.Entries.{Contains-map}
use Rattle.gate_admit.specs.Coins.{view_coin}
use Rattle.gate_admit.specs.Rules.{admission_rules}
use Rattle.gate_submission.specs.Alone.{alone_rules}
use Rattle.gate_standard.specs.declared.Standards.{Standards}
use Rattle.gate_admit.specs.Standing.{Standing}
use Rattle.gate_rbf.proofs.Conflicting.{is_some-find}
use Rattle.gate_admit.proofs.Granted.{rules_grant}
use Rattle.gate_admit.proofs.Passing.{passes}

-- ---- outpoints that inputs spend

spends-prevouts : (inputs : List TxIn) (p : OutPoint) → spends inputs p ≡ list_any (λ q. point_eq q p) (map (λ (i : TxIn). i.prevout) inputs)
spends-prevouts [] p = refl
spends-prevouts (i ∷ inputs) p = ap (λ b. point_eq i.prevout p || b) (spends-prevouts inputs p)

spends_alike : (a b : Tx) (p : OutPoint) → prevouts a ≡ prevouts b → spends a.inputs p ≡ spends b.inputs p
spends_alike a b p h = spends-prevouts a.inputs p ∙ ap (list_any (λ q. point_eq q p)) h ∙ sym (spends-prevouts b.inputs p)

-- whether outpoints are those of a coinbase
only_null : List OutPoint → Bool
only_null [] = false
only_null (p ∷ []) = is_null p
only_null (p ∷ q ∷ ps) = false

coinbase-prevouts : (inputs : List TxIn) → is_coinbase inputs ≡ only_null (map (λ (i : TxIn). i.prevout) inputs)
unfolding only_null
coinbase-prevouts [] = refl
coinbase-prevouts (i ∷ []) = refl
coinbase-prevouts (i ∷ j ∷ inputs) = refl

coinbase_alike : (a b : Tx) → prevouts a ≡ prevouts b → is_coinbase a.inputs ≡ is_coinbase b.inputs
coinbase_alike a b h = coinbase-prevouts a.inputs ∙ ap only_null h ∙ sym (coinbase-prevouts b.inputs)

spends_first : (i : TxIn) (inputs : List TxIn) → spends (i ∷ inputs) i.prevout ≡ true
spends_first i inputs = ap (λ b. b || spends inputs i.prevout) ((out_point_decides i.prevout i.prevout).1 refl)

-- ---- members of blocks

Contains-left : {X : Type 0} (xs ys : List X) (x : X) → Contains xs x → Contains (xs ++ ys) x
Contains-left [] ys x c = not_in_none x c
Contains-left {X} (z ∷ xs) ys x c =
    ⊎_elim (λ (e : z ≡ x). subst (λ (w : X). Contains (z ∷ (xs ++ ys)) w) e (Contains-head z (xs ++ ys))) (λ k. Contains-rest z (xs ++ ys) x (Contains-left xs ys x k)) (Contains-cons_cases z xs x c)

Contains-right : {X : Type 0} (xs ys : List X) (x : X) → Contains ys x → Contains (xs ++ ys) x
Contains-right [] ys x c = c
Contains-right (z ∷ xs) ys x c = Contains-rest z (xs ++ ys) x (Contains-right xs ys x c)

Contains-flat_map : {X Y : Type 0} (f : X → List Y) (xs : List X) (x : X) (y : Y) → Contains xs x → Contains (f x) y → Contains (flat_map f xs) y
Contains-flat_map f [] x y h k = not_in_none x h
Contains-flat_map {X} {Y} f (z ∷ xs) x y h k =
    ⊎_elim (λ (e : z ≡ x). Contains-left (f z) (flat_map f xs) y (subst (λ (w : X). Contains (f w) y) (sym e) k))
    (λ c. Contains-right (f z) (flat_map f xs) y (Contains-flat_map f xs x y c k))
    (Contains-cons_cases z xs x h)

coin_gone : (chain : History) (p : OutPoint) → list_any (is_spent_in p) chain.blocks ≡ true → is_some (coin_of chain p) ≡ false
unfolding coin_of
coin_gone chain p h = rw h refl

-- a transaction behind a block's first spends a coin for good
spent_behind : (chain : History) (b : Block) (t : Tx) (p : OutPoint) → Contains chain.blocks b → Contains (drop 1 b.transactions) t → spends t.inputs p ≡ true → is_some (coin_of chain p) ≡ false
spent_behind chain b t p at behind spent =
    coin_gone chain p (list_any_of (is_spent_in p) chain.blocks b at (list_any_of (λ (u : Tx). spends u.inputs p) (drop 1 b.transactions) t behind spent))

-- a transaction that spends what one of a block's does is a coinbase, or that one stands behind the block's first
alike : (chain : History) (tx t : Tx) (b : Block) (txs : List Tx) → IsSettled chain → Contains chain.blocks b → b.transactions ≡ txs → Contains txs t
    → prevouts t ≡ prevouts tx → is_coinbase tx.inputs ≡ false → Contains (drop 1 txs) t
alike chain tx t b [] settled at parts member same no_coinbase = not_in_none t member
alike chain tx t b (t0 ∷ txs) settled at parts member same no_coinbase =
    ⊎_elim
    (λ (e : t0 ≡ t). absurd (true≢false (sym (subst (λ (ts : List Tx). begins_with_coinbase ts ≡ true) parts (settled.coinbases b at)) ∙ ap (λ (u : Tx). is_coinbase u.inputs) e ∙ coinbase_alike t tx same ∙ no_coinbase)))
    (λ (c : Contains txs t). c)
    (Contains-cons_cases t0 txs t member)

not_coinbase : (standards : Standards) (tx : Tx) → NoneFails (alone_rules standards tx) → is_coinbase tx.inputs ≡ false
unfolding alone_rules transaction_rules
not_coinbase standards tx h =
    let every = (none_fails-append (transaction_rules tx) _ h).0 in
    (none_fails-append (output_value_rules 0 tx.outputs) _ every.1.1.1).1.1.1.1.0

some_inputs : (standards : Standards) (tx : Tx) → NoneFails (alone_rules standards tx) → (length tx.inputs == 0) ≡ false
unfolding alone_rules transaction_rules
some_inputs standards tx h = (none_fails-append (transaction_rules tx) _ h).0.0

-- a coin that the chain doesn't have is an output of an entry
entry_gives : (chain : History) (entries : List Admitted) (p : OutPoint) → is_some (view_coin chain entries p) ≡ true → is_some (coin_of chain p) ≡ false → is_some (entry_by_txid entries p.txid) ≡ true
entry_gives chain entries p = go (entry_by_txid entries p.txid) (coin_of chain p)
  where
    go : (e : Option Admitted) (c : Option Coin) → is_some (option_or (option_and_then (λ (e : Admitted). option_and_then (coin_made (tip_of chain + 1) false) (slice_get e.tx.outputs p.index)) e) c) ≡ true
        → is_some c ≡ false → is_some e ≡ true
    go (Some e) c h k = refl
    go None (Some c) h k = sym k
    go None None h k = h

-- the chain knows the transaction of no entry
unknown_entry : (chain : History) (entries : List Admitted) (txid : List ℕ) → All (λ (e : Admitted). is_known_txid chain (txid_of e.tx) ≡ false) entries → is_some (entry_by_txid entries txid) ≡ true
    → is_known_txid chain txid ≡ false
unknown_entry chain entries txid fresh h =
    let found = any_is (λ (e : Admitted). has_txid e txid) entries (sym (is_some-find (λ (e : Admitted). has_txid e txid) entries) ∙ h) in
    subst (λ (a : List ℕ). is_known_txid chain a ≡ false) ((bytes_eq-Decides (txid_of found.0.tx) txid).0 found.2)
    (subst (λ (e : Admitted). is_known_txid chain (txid_of e.tx) ≡ false) found.1.2 (fresh found.1.0 found.0 found.1.1))

-- where an element of a list stands
pub record Place {X : Type 0} (xs : List X) (x : X) : Type 0 where
  pub before : List X
  pub after : List X
  pub is : xs ≡ before ++ x ∷ after

pub place : {X : Type 0} (xs : List X) (x : X) → Contains xs x → Place xs x
place [] x c = not_in_none x c
place {X} (y ∷ xs) x c =
    ⊎_elim (λ (e : y ≡ x). record { before = []; after = xs; is = ap (λ (z : X). z ∷ xs) e })
    (λ (k : Contains xs x). let p = place xs x k in record { before = y ∷ p.before; after = p.after; is = ap (λ (l : List X). y ∷ l) p.is })
    (Contains-cons_cases y xs x c)

-- what a chain knew it knows
pub known_still : (chain : History) (before after : List Block) (b : Block) (txid : List ℕ) → chain.blocks ≡ before ++ b ∷ after
    → is_known_txid (chain_up_to chain before b) txid ≡ true → is_known_txid chain txid ≡ true
unfolding is_known_txid
known_still chain before after b txid is h =
    ⊎_elim (λ (k : opened_by txid chain.coins ≡ true). or_left (opened_by txid chain.coins) (list_any (has_transaction txid) chain.blocks) k)
    (λ (k : list_any (has_transaction txid) (before ++ b ∷ []) ≡ true).
    let w = any_is (has_transaction txid) (before ++ b ∷ []) k in
    or_right (opened_by txid chain.coins) (list_any (has_transaction txid) chain.blocks)
    (list_any_of (has_transaction txid) chain.blocks w.0
    (subst (λ (bs : List Block). Contains bs w.0) (append_assoc before (b ∷ []) after ∙ sym is) (Contains-left (before ++ b ∷ []) after w.0 w.1)) w.2))
    (or_cases (opened_by txid chain.coins) (list_any (has_transaction txid) (before ++ b ∷ [])) h)

-- what a transaction behind a block's first spends came from what the chain knows
pub founded : (chain : History) → IsSettled chain → (b : Block) → Contains chain.blocks b → (t : Tx) → Contains (drop 1 b.transactions) t → (i : TxIn) → Contains t.inputs i
    → is_known_txid chain i.prevout.txid ≡ true
founded chain settled b at t behind i among =
    let p = place chain.blocks b at in
    known_still chain p.before p.after b i.prevout.txid p.is (settled.founded p.before p.after b p.is t behind i among)

-- a transaction behind a block's first spends from what the chain knows
known_first : (chain : History) (tx t : Tx) (b : Block) (i : TxIn) (rest : List TxIn) → IsSettled chain → Contains chain.blocks b → Contains (drop 1 b.transactions) t → tx.inputs ≡ i ∷ rest → prevouts t ≡ prevouts tx
    → is_known_txid chain i.prevout.txid ≡ true
known_first chain tx t b i rest settled at behind inputs same = go t.inputs refl
  where
    go : (is : List TxIn) → t.inputs ≡ is → is_known_txid chain i.prevout.txid ≡ true
    go [] e = let f : map (λ (j : TxIn). j.prevout) [] ≡ i.prevout ∷ map (λ (j : TxIn). j.prevout) rest = ap (map (λ (j : TxIn). j.prevout)) (sym e) ∙ same ∙ ap (map (λ (j : TxIn). j.prevout)) inputs in cc
    go (j ∷ js) e =
        let f : j.prevout ∷ map (λ (k : TxIn). k.prevout) js ≡ i.prevout ∷ map (λ (k : TxIn). k.prevout) rest = ap (map (λ (k : TxIn). k.prevout)) (sym e) ∙ same ∙ ap (map (λ (k : TxIn). k.prevout)) inputs in
        let one : j.prevout ≡ i.prevout = cc in
        subst (λ (p : OutPoint). is_known_txid chain p.txid ≡ true) one (founded chain settled b at t behind j (subst (λ (is : List TxIn). Contains is j) (sym e) (Contains-head j js)))

-- where it was, its first coin is spent for good, and what else gives a coin the chain doesn't know
pub unconnected_by : (standards : Standards) (chain : History) (tx : Tx) → IsSettled chain → IsTx tx → AreApart (tx ∷ connected_transactions chain) → NoneFails (alone_rules standards tx)
    → ((i : TxIn) → Contains tx.inputs i → is_some (coin_of chain i.prevout) ≡ false → is_known_txid chain i.prevout.txid ≡ false) → IsUnconnected chain (Some tx)
unconnected_by standards chain tx settled is_tx apart alone given = go tx.inputs refl
  where
    go : (inputs : List TxIn) → tx.inputs ≡ inputs → list_any (has_transaction (txid_of tx)) chain.blocks ≡ false
    go [] e = absurd (true≢false (ap (λ (is : List TxIn). length is == 0) (sym e) ∙ some_inputs standards tx alone))
    go (i ∷ rest) e = false_from_ne_true _ (λ h.
        let block = any_is (has_transaction (txid_of tx)) chain.blocks h in
        let member = any_is (λ (t : Tx). bytes_eq (txid_of t) (txid_of tx)) block.0.transactions block.2 in
        let inside : Contains (connected_transactions chain) member.0 = Contains-flat_map (λ (b : Block). b.transactions) chain.blocks block.0 member.0 block.1 member.1 in
        let one_form : stripped member.0 ≡ stripped tx = apart member.0 tx (Contains-rest tx (connected_transactions chain) member.0 inside) (Contains-head tx (connected_transactions chain)) ((bytes_eq-Decides (txid_of member.0) (txid_of tx)).0 member.2) in
        let same : prevouts member.0 ≡ prevouts tx = stripped_forms_spend_the_same member.0 tx (settled.spelled member.0 inside) is_tx one_form in
        let behind = alike chain tx member.0 block.0 block.0.transactions settled block.1 refl member.1 same (not_coinbase standards tx alone) in
        let spent : spends member.0.inputs i.prevout ≡ true = spends_alike member.0 tx i.prevout same ∙ ap (λ (is : List TxIn). spends is i.prevout) e ∙ spends_first i rest in
        let gone = spent_behind chain block.0 member.0 i.prevout block.1 behind spent in
        let first : Contains tx.inputs i = subst (λ (is : List TxIn). Contains is i) (sym e) (Contains-head i rest) in
        true≢false (sym (known_first chain tx member.0 block.0 i rest settled block.1 behind e same) ∙ given i first gone))

-- a coin of the view that the chain doesn't have is of an entry, whose transaction the chain doesn't know
pub unknown_if_gone : (chain : History) (entries : List Admitted) (p : OutPoint) → All (λ (e : Admitted). is_known_txid chain (txid_of e.tx) ≡ false) entries → is_some (view_coin chain entries p) ≡ true
    → is_some (coin_of chain p) ≡ false → is_known_txid chain p.txid ≡ false
unknown_if_gone chain entries p fresh has gone = unknown_entry chain entries p.txid fresh (entry_gives chain entries p has gone)

-- where it was, its first coin is spent for good, and no entry gives it
pub unconnected : (attempt : Attempt) (over : Standing) (tx : Tx) → IsSettled over.chain → All (λ (e : Admitted). is_known_txid over.chain (txid_of e.tx) ≡ false) over.entries → IsTx tx
    → AreApart (tx ∷ connected_transactions over.chain) → first_failing (admission_rules attempt over tx) ≡ None → IsUnconnected over.chain (Some tx)
unconnected attempt over tx settled fresh is_tx apart granted =
    unconnected_by over.policy.standards over.chain tx settled is_tx apart (passes attempt over tx granted).alone
    (λ i c gone. unknown_if_gone over.chain over.entries i.prevout fresh
    (All-contains (λ (p : OutPoint). IsSome (view_coin over.chain over.entries p)) (spends_of tx) i.prevout (rules_grant attempt over tx granted).coins (Contains-map (λ (j : TxIn). j.prevout) tx.inputs i c)) gone)
