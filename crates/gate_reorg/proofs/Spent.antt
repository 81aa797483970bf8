-- The connected blocks spend coins that were made, each once, where blocks come and go at the chain's end.
use Rattle.std.proofs.Common.{◌≡◌, ℕ, ◌+◌, Bool, true, false, List, [], ◌∷◌, ◌++◌, take, drop, Option, Some, None, refl, sym, ap, ◌∙◌, subst, ⊎_elim, append_assoc}
use Rattle.std.specs.Prelude.{Contains, is_some, IsSome, if◌then◌else◌}
use Rattle.std.specs.List.{list_any}
use Rattle.std.specs.Option.{option_or}
use Rattle.std.proofs.lemmas.Bool.{true≢false, or_parts}
use Rattle.std.proofs.lemmas.List.{take-append-drop}
use Rattle.std.proofs.lemmas.List.Folds.{list_any-append}
use Rattle.gate_bytes.specs.Order.{first_failing, NoneFails}
use Rattle.gate_bytes.proofs.OrderLemmas.{none_fails-append}
use Rattle.gate_bytes.proofs.Members.{Contains-cons_cases, not_in_none, any_is}
use Rattle.gate_tx.specs.declared.Coin.{Coin}
use Rattle.gate_tx.specs.declared.OutPoint.{OutPoint}
use Rattle.gate_tx.specs.declared.TxIn.{TxIn}
use Rattle.gate_tx.specs.Coins.{point_eq, spends}
use Rattle.gate_tx.specs.Equality.{out_point_decides}
use Rattle.gate_tx.specs.Text.{is_nonempty}
use Rattle.gate_tx.specs.Tx.{Tx}
use Rattle.gate_chain.specs.Blocks.{Block}
use Rattle.gate_chain.specs.Coins.{coin_of, coin_of_transaction, coin_of_transactions, coin_of_blocks, is_spent_in, opening_coin_of}
use Rattle.gate_chain.specs.Connecting.{grown, with_part, head_rules, transaction_rules, transactions_rules, block_rules}
use Rattle.gate_chain.specs.History.{History, first_connected}
use Rattle.gate_block.specs.Switching.{with_blocks, grown_by, left_of, without_last, switched, blocks_rules, switch_rules}
use Rattle.gate_admit.specs.Good.{SpendsCoins, chain_up_to, coin_made_at}
use Rattle.gate_admit.proofs.Coining.{made_if_coin}
use Rattle.gate_reorg.specs.Events.{event_of}
use Rattle.gate_reorg.specs.Goodness.{EventsSpendCoins}
use Rattle.gate_reorg.proofs.Settling.{LastOf, asked, found, grown_by-cons, grown_by-none, last_cases, nonempty-append, switched_rules}

-- ---- coins that were made stay made

-- an alternative that is there if it was, or if the other one was
pub some_more : {X : Type 0} (a b c d : Option X) → (is_some a ≡ true → is_some c ≡ true) → (is_some b ≡ true → is_some d ≡ true) → is_some (option_or a b) ≡ true → is_some (option_or c d) ≡ true
some_more (Some x) b (Some y) d f g h = refl
some_more (Some x) b None d f g h = absurd (true≢false (sym (f refl)))
some_more None b (Some y) d f g h = refl
some_more None b None d f g h = g h

transactions_more : (height : ℕ) (coinbase : Bool) (xs ys : List Tx) (p : OutPoint) → is_some (coin_of_transactions height coinbase xs p) ≡ true → is_some (coin_of_transactions height coinbase (xs ++ ys) p) ≡ true
transactions_more height coinbase [] ys p h = absurd (true≢false (sym h))
transactions_more height coinbase (x ∷ xs) ys p h =
    some_more (coin_of_transaction height coinbase x p) (coin_of_transactions height false xs p) (coin_of_transaction height coinbase x p) (coin_of_transactions height false (xs ++ ys) p)
    (λ k. k) (transactions_more height false xs ys p) h

-- the last block has more transactions
last_more : (height : ℕ) (blocks : List Block) (header : List ℕ) (done more : List Tx) (p : OutPoint)
    → is_some (coin_of_blocks height (blocks ++ record { header = header; transactions = done } ∷ []) p) ≡ true
    → is_some (coin_of_blocks height (blocks ++ record { header = header; transactions = done ++ more } ∷ []) p) ≡ true
last_more height [] header done more p h =
    some_more (coin_of_transactions height true done p) None (coin_of_transactions height true (done ++ more) p) None (transactions_more height true done more p) (λ k. k) h
last_more height (b ∷ blocks) header done more p h =
    some_more (coin_of_transactions height true b.transactions p) (coin_of_blocks (height + 1) (blocks ++ record { header = header; transactions = done } ∷ []) p)
    (coin_of_transactions height true b.transactions p) (coin_of_blocks (height + 1) (blocks ++ record { header = header; transactions = done ++ more } ∷ []) p)
    (λ k. k) (last_more (height + 1) blocks header done more p) h

part_made : (h : History) (header : List ℕ) (done more : List Tx) (p : OutPoint) → IsSome (coin_made_at (with_part h header done) p) → IsSome (coin_made_at (with_part h header (done ++ more)) p)
part_made h header done more p k =
    some_more (opening_coin_of h.coins p) (coin_of_blocks (first_connected h) (with_part h header done).blocks p) (opening_coin_of h.coins p) (coin_of_blocks (first_connected h) (with_part h header (done ++ more)).blocks p)
    (λ j. j) (last_more (first_connected h) h.blocks header done more p) k

-- ---- what the transactions of a new block spend

-- the outpoint has a coin once a part of a block is entered, and no block below spends it
record IsThere (h : History) (header : List ℕ) (txs : List Tx) (p : OutPoint) : Type 0 where
  made : IsSome (coin_made_at (with_part h header txs) p)
  unspent : list_any (is_spent_in p) h.blocks ≡ false

not_spent : {X : Type 0} (b : Bool) (o : Option X) → is_some (if b then None else o) ≡ true → b ≡ false
not_spent true o h = absurd (true≢false (sym h))
not_spent false o h = refl

-- a coin that the chain has is spent by no block
unspent_if_coin : (h : History) (p : OutPoint) → IsSome (coin_of h p) → list_any (is_spent_in p) h.blocks ≡ false
unfolding coin_of
unspent_if_coin h p k = not_spent (list_any (is_spent_in p) h.blocks) _ k

there_if_coin : (h : History) (header : List ℕ) (done more : List Tx) (p : OutPoint) → IsSome (coin_of (with_part h header done) p) → IsThere h header (done ++ more) p
there_if_coin h header done more p k =
    let part : Block = record { header = header; transactions = done } in
    record {
      made = part_made h header done more p (made_if_coin (with_part h header done) p k);
      unspent = (or_parts (list_any (is_spent_in p) h.blocks) (list_any (is_spent_in p) (part ∷ []))
          (sym (list_any-append (is_spent_in p) h.blocks (part ∷ [])) ∙ unspent_if_coin (with_part h header done) p k)).0;
    }

spends_there : (h : History) (header : List ℕ) (done txs : List Tx) → is_nonempty done ≡ true → NoneFails (transactions_rules h header done txs)
    → (t : Tx) → Contains txs t → (i : TxIn) → Contains t.inputs i → IsThere h header (done ++ txs) i.prevout
unfolding transaction_rules
spends_there h header done [] some rules t m i c = not_in_none t m
spends_there h header done (x ∷ txs) some rules t m i c =
    let parts = none_fails-append (transaction_rules h header done x) (transactions_rules h header (done ++ x ∷ []) txs) rules in
    ⊎_elim
    (λ (e : x ≡ t). there_if_coin h header done (x ∷ txs) i.prevout
    (found (λ p. is_some (coin_of (with_part h header done) p)) x.inputs (asked (is_nonempty done) _ some parts.0.1.0) i (subst (λ (u : Tx). Contains u.inputs i) (sym e) c)))
    (λ (k : Contains txs t).
    subst (λ (l : List Tx). IsThere h header l i.prevout) (append_assoc done (x ∷ []) txs)
    (spends_there h header (done ++ x ∷ []) txs (nonempty-append done x) parts.1 t k i c))
    (Contains-cons_cases x txs t m)

behind_first_there : (h : History) (b : Block) (txs : List Tx) → NoneFails (transactions_rules h b.header [] txs)
    → (t : Tx) → Contains (drop 1 txs) t → (i : TxIn) → Contains t.inputs i → IsThere h b.header txs i.prevout
behind_first_there h b [] rules t m i c = not_in_none t m
behind_first_there h b (x ∷ txs) rules t m i c =
    spends_there h b.header (x ∷ []) txs refl (none_fails-append (transaction_rules h b.header [] x) (transactions_rules h b.header (x ∷ []) txs) rules).1 t m i c

-- what a new block spends
spent_there : (h : History) (b : Block) (p : OutPoint) → NoneFails (transactions_rules h b.header [] b.transactions) → is_spent_in p b ≡ true → IsThere h b.header b.transactions p
spent_there h b p rules spent =
    let t = any_is (λ (tx : Tx). spends tx.inputs p) (drop 1 b.transactions) spent in
    let i = any_is (λ (j : TxIn). point_eq j.prevout p) t.0.inputs t.2 in
    subst (IsThere h b.header b.transactions) ((out_point_decides i.0.prevout p).0 i.2) (behind_first_there h b b.transactions rules t.0 t.1 i.0 i.1)

-- ---- one block more

pub spends_grown : (h : History) (b : Block) → SpendsCoins h → NoneFails (block_rules h b) → SpendsCoins (grown h b)
unfolding block_rules
spends_grown h b old rules =
    let parts = none_fails-append (head_rules h b) (transactions_rules h b.header [] b.transactions) rules in
    record {
      made = λ before after c is p spent. ⊎_elim
          (λ w.
          subst (λ (d : Block). IsSome (coin_made_at (chain_up_to (grown h b) before d) p)) (sym w.1)
          (subst (λ (bs : List Block). IsSome (coin_made_at (chain_up_to (grown h b) bs b) p)) (sym w.0)
          (spent_there h b p parts.1 (subst (λ (d : Block). is_spent_in p d ≡ true) w.1 spent)).made))
          (λ (w : LastOf h.blocks b before after c). old.made before w.earlier c w.is p spent)
          (last_cases h.blocks b before after c is);
      once = λ before after c is p spent. ⊎_elim
          (λ w.
          subst (λ (bs : List Block). list_any (is_spent_in p) bs ≡ false) (sym w.0)
          (spent_there h b p parts.1 (subst (λ (d : Block). is_spent_in p d ≡ true) w.1 spent)).unspent)
          (λ (w : LastOf h.blocks b before after c). old.once before w.earlier c w.is p spent)
          (last_cases h.blocks b before after c is);
    }

-- ---- several blocks

spends_by : (h : History) (blocks : List Block) → SpendsCoins h → NoneFails (blocks_rules h blocks) → SpendsCoins (grown_by h blocks)
spends_by h [] old rules = subst SpendsCoins (sym (grown_by-none h)) old
spends_by h (b ∷ blocks) old rules =
    let parts = none_fails-append (block_rules h b) (blocks_rules (grown h b) blocks) rules in
    subst SpendsCoins (grown_by-cons h b blocks) (spends_by (grown h b) blocks (spends_grown h b old parts.0) parts.1)

-- blocks go
spends_front : (h : History) (front back : List Block) → h.blocks ≡ front ++ back → SpendsCoins h → SpendsCoins (with_blocks h front)
spends_front h front back is old = record {
  made = λ before after b split p spent. old.made before (after ++ back) b (is ∙ ap (λ (l : List Block). l ++ back) split ∙ append_assoc before (b ∷ after) back) p spent;
  once = λ before after b split p spent. old.once before (after ++ back) b (is ∙ ap (λ (l : List Block). l ++ back) split ∙ append_assoc before (b ∷ after) back) p spent;
}

-- blocks in the place of others
pub spends_switched : (h : History) (depth : ℕ) (blocks : List Block) → SpendsCoins h → first_failing (switch_rules h depth blocks) ≡ None → SpendsCoins (switched h depth blocks)
spends_switched h depth blocks old passes =
    spends_by (without_last h depth) blocks (spends_front h (take (left_of h depth) h.blocks) (drop (left_of h depth) h.blocks) (sym (take-append-drop (left_of h depth) h.blocks)) old)
    (switched_rules h depth blocks passes)

pub events_spend_coins : EventsSpendCoins
unfolding event_of
events_spend_coins over depth blocks now budget passes old = spends_switched over.chain depth blocks old passes
