-- A chain stays settled where blocks come and go at its end.
use Rattle.std.proofs.Common.{◌≡◌, ℕ, Bool, true, false, not, ◌&&◌, List, [], ◌∷◌, ◌++◌, take, drop, refl, sym, ap, ◌∙◌, subst, ◌⊎◌, inl, inr, ⊎_elim, append-nil, append_assoc, None}
use Rattle.std.specs.Prelude.{Contains, is_some}
use Rattle.std.proofs.lemmas.Bool.{true≢false, or_parts, and_parts}
use Rattle.std.proofs.lemmas.List.{take-append-drop}
use Rattle.std.proofs.lemmas.List.Elements.{Contains-append_left, Contains-append_right, Contains-append_cases}
use Rattle.gate_bytes.specs.Order.{first_failing, NoneFails}
use Rattle.gate_bytes.proofs.OrderLemmas.{none_fails, none_fails-append}
use Rattle.gate_bytes.proofs.Members.{Contains-cons_cases, not_in_none}
use Rattle.gate_tx.specs.declared.OutPoint.{OutPoint}
use Rattle.gate_tx.specs.declared.TxIn.{TxIn}
use Rattle.gate_tx.specs.Coins.{point_eq}
use Rattle.gate_tx.specs.Ids.{txid_of}
use Rattle.gate_tx.specs.Text.{IsTx, is_nonempty}
use Rattle.gate_tx.specs.Tx.{Tx}
use Rattle.gate_standard.specs.Rules.{is_coinbase as coinbase_inputs}
use Rattle.gate_chain.specs.Blocks.{Block}
use Rattle.gate_chain.specs.Coins.{coin_of, is_known_txid}
use Rattle.gate_chain.specs.Connecting.{grown, with_part, missing, spends_null, lacks_coinbase, head_rules, transaction_rules, transactions_rules, block_rules}
use Rattle.gate_chain.specs.History.{History}
use Rattle.gate_block.specs.Switching.{with_blocks, grown_by, left_of, without_last, switched, blocks_rules, switch_rules}
use Rattle.gate_admit.specs.Good.{IsSettled, begins_with_coinbase, chain_up_to}
use Rattle.gate_admit.proofs.Coining.{known_if_coin}
use Rattle.gate_submission.specs.Blocks.{transactions_of}
use Rattle.gate_reorg.proofs.Knowing.{Contains-first_blocks, Contains-last_blocks, blocks_cases, known_more, unknown_less}

-- ---- the rules of a block's transactions

true_from_not : (b : Bool) → not b ≡ false → b ≡ true
true_from_not true h = refl
true_from_not false h = sym h

-- an input that is not missing finds a coin
pub found : (has : OutPoint → Bool) (inputs : List TxIn) → missing has inputs ≡ false → (i : TxIn) → Contains inputs i → has i.prevout ≡ true
found has [] h i c = not_in_none i c
found has (j ∷ inputs) h i c =
    let parts = or_parts (not (has j.prevout)) (missing (λ p. not (point_eq j.prevout p) && has p) inputs) h in
    ⊎_elim (λ (e : j ≡ i). subst (λ (k : TxIn). has k.prevout ≡ true) e (true_from_not _ parts.0))
    (λ (k : Contains inputs i). (and_parts _ _ (found (λ p. not (point_eq j.prevout p) && has p) inputs parts.1 i k)).1)
    (Contains-cons_cases j inputs i c)

pub asked : (some lacks : Bool) → some ≡ true → (some && lacks) ≡ false → lacks ≡ false
asked true lacks e h = h
asked false lacks e h = absurd (true≢false (sym e))

pub nonempty-append : (done : List Tx) (x : Tx) → is_nonempty (done ++ x ∷ []) ≡ true
nonempty-append [] x = refl
nonempty-append (y ∷ done) x = refl

-- a part of a block knows what the whole does
part_known : (h : History) (header : List ℕ) (done more : List Tx) (txid : List ℕ) → is_known_txid (with_part h header done) txid ≡ true → is_known_txid (with_part h header (done ++ more)) txid ≡ true
part_known h header done more txid k =
    known_more (with_part h header done) (with_part h header (done ++ more)) refl
    (λ tx m.
    ⊎_elim (λ (l : Contains (transactions_of h.blocks) tx). Contains-first_blocks h.blocks _ tx l)
    (λ (l : Contains (transactions_of ((record { header = header; transactions = done }) ∷ [])) tx).
    Contains-last_blocks h.blocks ((record { header = header; transactions = done ++ more }) ∷ []) tx
    (subst (λ (l : List Tx). Contains l tx) (sym (append-nil (done ++ more))) (Contains-append_left done more tx (subst (λ (l : List Tx). Contains l tx) (append-nil done) l))))
    (blocks_cases h.blocks ((record { header = header; transactions = done }) ∷ []) tx m))
    txid k

-- what transactions behind others of their block spend is known
behind_first : (h : History) (header : List ℕ) (done txs : List Tx) → is_nonempty done ≡ true → NoneFails (transactions_rules h header done txs)
    → (t : Tx) → Contains txs t → (i : TxIn) → Contains t.inputs i → is_known_txid (with_part h header (done ++ txs)) i.prevout.txid ≡ true
unfolding transaction_rules
behind_first h header done [] some rules t m i c = not_in_none t m
behind_first h header done (x ∷ txs) some rules t m i c =
    let parts = none_fails-append (transaction_rules h header done x) (transactions_rules h header (done ++ x ∷ []) txs) rules in
    ⊎_elim
    (λ (e : x ≡ t). part_known h header done (x ∷ txs) i.prevout.txid
    (known_if_coin (with_part h header done) i.prevout
    (found (λ p. is_some (coin_of (with_part h header done) p)) x.inputs (asked (is_nonempty done) _ some parts.0.1.0) i (subst (λ (u : Tx). Contains u.inputs i) (sym e) c))))
    (λ (k : Contains txs t).
    subst (λ (l : List Tx). is_known_txid (with_part h header l) i.prevout.txid ≡ true) (append_assoc done (x ∷ []) txs)
    (behind_first h header (done ++ x ∷ []) txs (nonempty-append done x) parts.1 t k i c))
    (Contains-cons_cases x txs t m)

-- the transactions of a block are new
new_here : (h : History) (header : List ℕ) (done txs : List Tx) → NoneFails (transactions_rules h header done txs) → (t : Tx) → Contains txs t → is_known_txid h (txid_of t) ≡ false
unfolding transaction_rules
new_here h header done [] rules t m = not_in_none t m
new_here h header done (x ∷ txs) rules t m =
    let parts = none_fails-append (transaction_rules h header done x) (transactions_rules h header (done ++ x ∷ []) txs) rules in
    ⊎_elim
    (λ (e : x ≡ t). subst (λ (u : Tx). is_known_txid h (txid_of u) ≡ false) e
    (unknown_less h (with_part h header done) refl (λ tx l. Contains-first_blocks h.blocks _ tx l) (txid_of x) parts.0.0))
    (λ (k : Contains txs t). new_here h header (done ++ x ∷ []) txs parts.1 t k)
    (Contains-cons_cases x txs t m)

-- ---- one block more

coinbase_same : (inputs : List TxIn) → spends_null inputs ≡ coinbase_inputs inputs
coinbase_same [] = refl
coinbase_same (i ∷ []) = refl
coinbase_same (i ∷ j ∷ inputs) = refl

coinbase_first : (txs : List Tx) → lacks_coinbase txs ≡ false → begins_with_coinbase txs ≡ true
coinbase_first [] h = sym h
coinbase_first (t ∷ txs) h = sym (coinbase_same t.inputs) ∙ true_from_not _ (or_parts _ _ h).0

behind_coinbase : (h : History) (b : Block) (txs : List Tx) → b.transactions ≡ txs → NoneFails (transactions_rules h b.header [] txs)
    → (t : Tx) → Contains (drop 1 txs) t → (i : TxIn) → Contains t.inputs i → is_known_txid (with_part h b.header txs) i.prevout.txid ≡ true
behind_coinbase h b [] is rules t m i c = not_in_none t m
behind_coinbase h b (x ∷ txs) is rules t m i c =
    behind_first h b.header (x ∷ []) txs refl (none_fails-append (transaction_rules h b.header [] x) (transactions_rules h b.header (x ∷ []) txs) rules).1 t m i c

-- the last of a list stands before its end, or is the end
pub record LastOf {X : Type 0} (xs : List X) (y : X) (before after : List X) (b : X) : Type 0 where
  pub earlier : List X
  pub is : xs ≡ before ++ b ∷ earlier

pub last_cases : {X : Type 0} (xs : List X) (y : X) (before after : List X) (b : X) → xs ++ y ∷ [] ≡ before ++ b ∷ after → ((before ≡ xs) × (b ≡ y)) ⊎ LastOf xs y before after b
last_cases [] y [] after b e = inl ((λ _. []), (let f : y ∷ [] ≡ b ∷ after = e in cc))
last_cases [] y (z ∷ []) after b e = absurd (let f : y ∷ [] ≡ z ∷ b ∷ after = e in cc)
last_cases [] y (z ∷ w ∷ before) after b e = absurd (let f : y ∷ [] ≡ z ∷ w ∷ (before ++ b ∷ after) = e in cc)
last_cases {X} (x ∷ xs) y [] after b e = let f : x ∷ (xs ++ y ∷ []) ≡ b ∷ after = e in let g : x ≡ b = cc in inr (record { earlier = xs; is = ap (λ (z : X). z ∷ xs) g })
last_cases {X} (x ∷ xs) y (z ∷ before) after b e =
    let f : x ∷ (xs ++ y ∷ []) ≡ z ∷ (before ++ b ∷ after) = e in
    let g : x ≡ z = cc in
    let t : xs ++ y ∷ [] ≡ before ++ b ∷ after = cc in
    ⊎_elim (λ w. inl ((λ j. sym g j ∷ w.0 j), w.1)) (λ (w : LastOf xs y before after b). inr (record { earlier = w.earlier; is = λ j. g j ∷ w.is j })) (last_cases xs y before after b t)

pub settled_grown : (h : History) (b : Block) → IsSettled h → NoneFails (block_rules h b) → ((tx : Tx) → Contains b.transactions tx → IsTx tx) → IsSettled (grown h b)
unfolding block_rules head_rules
settled_grown h b settled rules spelled =
    let parts = none_fails-append (head_rules h b) (transactions_rules h b.header [] b.transactions) rules in
    record {
      coinbases = λ c m. ⊎_elim (λ (k : Contains h.blocks c). settled.coinbases c k)
          (λ (k : Contains (b ∷ []) c). ⊎_elim (λ (e : b ≡ c). subst (λ (d : Block). begins_with_coinbase d.transactions ≡ true) e (coinbase_first b.transactions parts.0.1.1.0)) (λ n. not_in_none c n) (Contains-cons_cases b [] c k))
          (Contains-append_cases h.blocks (b ∷ []) c m);
      spelled = λ tx m. ⊎_elim (λ (k : Contains (transactions_of h.blocks) tx). settled.spelled tx k)
          (λ (k : Contains (transactions_of (b ∷ [])) tx). spelled tx (subst (λ (l : List Tx). Contains l tx) (append-nil b.transactions) k))
          (blocks_cases h.blocks (b ∷ []) tx m);
      founded = λ before after c is tx m i k. ⊎_elim
          (λ w.
          let behind : Contains (drop 1 b.transactions) tx = subst (λ (d : Block). Contains (drop 1 d.transactions) tx) w.1 m in
          subst (λ (d : Block). is_known_txid (chain_up_to (grown h b) before d) i.prevout.txid ≡ true) (sym w.1)
          (subst (λ (bs : List Block). is_known_txid (chain_up_to (grown h b) bs b) i.prevout.txid ≡ true) (sym w.0)
          (behind_coinbase h b b.transactions refl parts.1 tx behind i k)))
          (λ (w : LastOf h.blocks b before after c). settled.founded before w.earlier c w.is tx m i k)
          (last_cases h.blocks b before after c is);
    }

-- ---- several blocks

pub grown_by-none : (h : History) → grown_by h [] ≡ h
grown_by-none h = λ j. with_blocks h (append-nil h.blocks j)

pub grown_by-cons : (h : History) (b : Block) (blocks : List Block) → grown_by (grown h b) blocks ≡ grown_by h (b ∷ blocks)
grown_by-cons h b blocks = λ j. with_blocks h (append_assoc h.blocks (b ∷ []) blocks j)

pub settled_by : (h : History) (blocks : List Block) → IsSettled h → NoneFails (blocks_rules h blocks) → ((tx : Tx) → Contains (transactions_of blocks) tx → IsTx tx) → IsSettled (grown_by h blocks)
settled_by h [] settled rules spelled = subst IsSettled (sym (grown_by-none h)) settled
settled_by h (b ∷ blocks) settled rules spelled =
    let parts = none_fails-append (block_rules h b) (blocks_rules (grown h b) blocks) rules in
    subst IsSettled (grown_by-cons h b blocks)
    (settled_by (grown h b) blocks (settled_grown h b settled parts.0 (λ tx m. spelled tx (Contains-append_left b.transactions (transactions_of blocks) tx m))) parts.1
    (λ tx m. spelled tx (Contains-append_right b.transactions (transactions_of blocks) tx m)))

-- the transactions of new blocks are new
pub new_by : (h : History) (blocks : List Block) → NoneFails (blocks_rules h blocks) → (t : Tx) → Contains (transactions_of blocks) t → is_known_txid h (txid_of t) ≡ false
unfolding block_rules
new_by h [] rules t m = not_in_none t m
new_by h (b ∷ blocks) rules t m =
    let parts = none_fails-append (block_rules h b) (blocks_rules (grown h b) blocks) rules in
    ⊎_elim (λ (k : Contains b.transactions t). new_here h b.header [] b.transactions (none_fails-append (head_rules h b) (transactions_rules h b.header [] b.transactions) parts.0).1 t k)
    (λ (k : Contains (transactions_of blocks) t).
    unknown_less h (grown h b) refl (λ tx l. Contains-first_blocks h.blocks (b ∷ []) tx l) (txid_of t) (new_by (grown h b) blocks parts.1 t k))
    (Contains-append_cases b.transactions (transactions_of blocks) t m)

-- ---- blocks go

pub settled_front : (h : History) (front back : List Block) → h.blocks ≡ front ++ back → IsSettled h → IsSettled (with_blocks h front)
settled_front h front back is settled = record {
  coinbases = λ b m. settled.coinbases b (subst (λ (bs : List Block). Contains bs b) (sym is) (Contains-append_left front back b m));
  spelled = λ tx m. settled.spelled tx (subst (λ (bs : List Block). Contains (transactions_of bs) tx) (sym is) (Contains-first_blocks front back tx m));
  founded = λ before after b split tx m i k.
      settled.founded before (after ++ back) b (is ∙ ap (λ (l : List Block). l ++ back) split ∙ append_assoc before (b ∷ after) back) tx m i k;
}

pub settled_without : (h : History) (depth : ℕ) → IsSettled h → IsSettled (without_last h depth)
settled_without h depth settled = settled_front h (take (left_of h depth) h.blocks) (drop (left_of h depth) h.blocks) (sym (take-append-drop (left_of h depth) h.blocks)) settled

-- ---- blocks in the place of others

pub switched_rules : (h : History) (depth : ℕ) (blocks : List Block) → first_failing (switch_rules h depth blocks) ≡ None → NoneFails (blocks_rules (without_last h depth) blocks)
switched_rules h depth blocks passes = (none_fails (switch_rules h depth blocks) passes).1

pub settled_switched : (h : History) (depth : ℕ) (blocks : List Block) → IsSettled h → ((tx : Tx) → Contains (transactions_of blocks) tx → IsTx tx) → first_failing (switch_rules h depth blocks) ≡ None → IsSettled (switched h depth blocks)
settled_switched h depth blocks settled spelled passes = settled_by (without_last h depth) blocks (settled_without h depth settled) (switched_rules h depth blocks passes) spelled
