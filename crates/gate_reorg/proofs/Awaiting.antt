-- A pool between the steps of a chain event: sound, but for coins of transactions that are still to be tried again.
use Rattle.std.proofs.Common.{◌≡◌, ℕ, true, false, ◌||◌, List, [], ◌++◌, take, get_or, sym, ap, ◌∙◌, subst, ◌⊎◌, inl, inr, ⊎_elim}
use Rattle.std.specs.Prelude.{Contains, IsSome, is_some, map}
use Rattle.std.specs.List.{list_any}
use Rattle.std.proofs.lemmas.Bool.{true≢false, false_from_ne_true}
use Rattle.std.proofs.lemmas.List.{take-append-drop}
use Rattle.std.proofs.lemmas.List.Elements.{All-contains, Contains-get_or, Contains-append_left, Contains-append_right}
use Rattle.std.proofs.lemmas.List.Folds.{list_any-append}
use Rattle.gate_bytes.specs.Order.{NoneFails}
use Rattle.gate_bytes.proofs.Members.{not_in_none}
use Rattle.gate_tx.specs.declared.OutPoint.{OutPoint}
use Rattle.gate_tx.specs.declared.TxIn.{TxIn}
use Rattle.gate_tx.specs.Ids.{txid_of}
use Rattle.gate_tx.specs.Text.{IsTx}
use Rattle.gate_tx.specs.Tx.{Tx}
use Rattle.gate_chain.specs.Blocks.{Block}
use Rattle.gate_chain.specs.Coins.{coin_of, is_known_txid, is_spent_in, has_txid, opening_coin_of}
use Rattle.gate_chain.specs.History.{History}
use Rattle.gate_block.specs.Switching.{left_of, without_last, last_blocks, switched, blocks_rules}
use Rattle.gate_pool.specs.Pool.{Admitted, spends_of}
use Rattle.gate_pool.proofs.Entries.{Contains-map, Contains-from_map}
use Rattle.gate_admit.specs.Coins.{view_coin}
use Rattle.gate_admit.specs.Policies.{Policy}
use Rattle.gate_admit.specs.Good.{AreApart, IsSettled, IsSound, connected_transactions}
use Rattle.gate_admit.proofs.Filtering.{All-flat_map}
use Rattle.gate_admit.proofs.Removing.{spent_at}
use Rattle.gate_submission.specs.Blocks.{transactions_of}
use Rattle.gate_reorg.proofs.Knowing.{Contains-first_blocks, Contains-last_blocks, blocks_cases, known_cases, known_opened, known_connected}
use Rattle.gate_reorg.proofs.Leaving.{AreOrderly, Leaves}
use Rattle.gate_reorg.proofs.Making.{makes, makes_by, makes_same, MadeBy, is_spent, PoolMakes, coin_is_made, made_is_coin, unspent_by, unspent_if_unknown, view_cases, view_chain, view_pool}
use Rattle.gate_reorg.proofs.Settling.{new_by, settled_without}

-- sound, but that a coin may be of a transaction that is pending
pub record IsSoundBut (policy : Policy) (pending : List Tx) (chain : History) (entries : List Admitted) : Type 0 where
  pub orderly : AreOrderly policy entries
  pub coins : (e : Admitted) → Contains entries e → (i : TxIn) → Contains e.tx.inputs i → IsSome (view_coin chain entries i.prevout) ⊎ MadeBy pending i.prevout
  pub fresh : (e : Admitted) → Contains entries e → is_known_txid chain (txid_of e.tx) ≡ false

-- where nothing is pending, sound
pub sound_at_last : (policy : Policy) (chain : History) (entries : List Admitted) → IsSoundBut policy [] chain entries → IsSound policy chain entries
sound_at_last policy chain entries h = record {
  bounds = h.orderly.bounds;
  txids = h.orderly.txids;
  wtxids = h.orderly.wtxids;
  spends = h.orderly.spends;
  coins = All-flat_map (λ (e : Admitted). spends_of e.tx) (λ (p : OutPoint). IsSome (view_coin chain entries p)) entries
      (λ e m k d l.
      let w = Contains-from_map (λ (i : TxIn). i.prevout) e.tx.inputs (get_or (spends_of e.tx) k d) (Contains-get_or (spends_of e.tx) k d l) in
      subst (λ (p : OutPoint). IsSome (view_coin chain entries p)) w.is
      (⊎_elim (λ c. c) (λ (n : MadeBy [] w.item.prevout). absurd (not_in_none n.0 n.1)) (h.coins e m w.item w.among)));
  fresh = λ k d l. h.fresh (get_or entries k d) (Contains-get_or entries k d l);
  light = h.orderly.light;
  limited = h.orderly.limited;
}

-- what is sound is orderly
pub sound_orderly : (policy : Policy) (chain : History) (entries : List Admitted) → IsSound policy chain entries → AreOrderly policy entries
sound_orderly policy chain entries h = record { bounds = h.bounds; txids = h.txids; wtxids = h.wtxids; spends = h.spends; light = h.light; limited = h.limited }

-- ---- blocks in the place of others

-- transactions of one id are one, as far as coins go
abbrev pub AreTold : List Tx → Type 0
AreTold txs = (a b : Tx) → Contains txs a → Contains txs b → txid_of a ≡ txid_of b → (p : OutPoint) → makes a p ≡ true → makes b p ≡ true

pub told_apart : (txs : List Tx) → ((tx : Tx) → Contains txs tx → IsTx tx) → AreApart txs → AreTold txs
told_apart txs spelled apart = λ a b m n same. makes_same a b (spelled a m) (spelled b n) same (apart a b m n same)

-- each of these has the id of one of the others, or is pending
abbrev pub LeavesPending : List Tx → List Tx → List Tx → Type 0
LeavesPending gone new pending = (t : Tx) → Contains gone t → ((u : Tx) × Contains new u × (txid_of u ≡ txid_of t)) ⊎ Contains pending t

module _
    (h : History) (depth : ℕ) (blocks : List Block) (entries left : List Admitted) (pending : List Tx)
    (settled : IsSettled h) (rules : NoneFails (blocks_rules (without_last h depth) blocks))
    (told : AreTold ((connected_transactions h ++ map (λ (e : Admitted). e.tx) entries) ++ transactions_of blocks))
    (policy : Policy) (sound : IsSound policy h entries) (leaves : Leaves entries left (transactions_of blocks)) (waits : LeavesPending (transactions_of (last_blocks h depth)) (transactions_of blocks) pending)
  where
    front_back : h.blocks ≡ take (left_of h depth) h.blocks ++ last_blocks h depth
    front_back = sym (take-append-drop (left_of h depth) h.blocks)

    in_chain : (t : Tx) → Contains (connected_transactions h) t → Contains ((connected_transactions h ++ map (λ (e : Admitted). e.tx) entries) ++ transactions_of blocks) t
    in_chain t m = Contains-append_left _ _ t (Contains-append_left _ _ t m)

    in_pool : (a : Admitted) → Contains entries a → Contains ((connected_transactions h ++ map (λ (e : Admitted). e.tx) entries) ++ transactions_of blocks) a.tx
    in_pool a m = Contains-append_left _ _ a.tx (Contains-append_right (connected_transactions h) _ a.tx (Contains-map (λ (e : Admitted). e.tx) entries a m))

    in_new : (t : Tx) → Contains (transactions_of blocks) t → Contains ((connected_transactions h ++ map (λ (e : Admitted). e.tx) entries) ++ transactions_of blocks) t
    in_new t m = Contains-append_right (connected_transactions h ++ map (λ (e : Admitted). e.tx) entries) (transactions_of blocks) t m

    gone_before : (t : Tx) → Contains (transactions_of (last_blocks h depth)) t → Contains (connected_transactions h) t
    gone_before t m = subst (λ (bs : List Block). Contains (transactions_of bs) t) (sym front_back) (Contains-last_blocks (take (left_of h depth) h.blocks) (last_blocks h depth) t m)

    stays_before : (t : Tx) → Contains (transactions_of (take (left_of h depth) h.blocks)) t → Contains (connected_transactions h) t
    stays_before t m = subst (λ (bs : List Block). Contains (transactions_of bs) t) (sym front_back) (Contains-first_blocks (take (left_of h depth) h.blocks) (last_blocks h depth) t m)

    -- what an entry that stays spends, no block spends now, where none that stays does
    unspent_now : (e : Admitted) → Contains left e → (i : TxIn) → Contains e.tx.inputs i → is_spent (without_last h depth) i.prevout ≡ false → is_spent (switched h depth blocks) i.prevout ≡ false
    unspent_now e m i c before =
        list_any-append (is_spent_in i.prevout) (take (left_of h depth) h.blocks) blocks
        ∙ ap (λ b. b || (list_any (is_spent_in i.prevout) blocks)) before
        ∙ unspent_by blocks i.prevout (leaves.unspent e m i c)

    unspent_first : (p : OutPoint) → is_spent h p ≡ false → is_spent (without_last h depth) p ≡ false
    unspent_first p h0 = false_from_ne_true _ (λ k. true≢false (sym
        (ap (λ (bs : List Block). list_any (is_spent_in p) bs) front_back ∙ list_any-append (is_spent_in p) (take (left_of h depth) h.blocks) (last_blocks h depth)
        ∙ ap (λ b. b || (list_any (is_spent_in p) (last_blocks h depth))) k) ∙ h0))

    -- what a new transaction makes
    made_new : (e : Admitted) → Contains left e → (i : TxIn) → Contains e.tx.inputs i → (t : Tx) → Contains (transactions_of blocks) t → makes t i.prevout ≡ true → IsSome (view_coin (switched h depth blocks) left i.prevout)
    made_new e m i c t at makes =
        let unknown : is_known_txid (without_last h depth) i.prevout.txid ≡ false = ap (is_known_txid (without_last h depth)) (sym (makes_by t i.prevout makes)) ∙ new_by (without_last h depth) blocks rules t at in
        view_chain (switched h depth blocks) left i.prevout
        (made_is_coin (switched h depth blocks) i.prevout (unspent_now e m i c (unspent_if_unknown (without_last h depth) (settled_without h depth settled) i.prevout unknown))
        (inr (t, Contains-last_blocks (take (left_of h depth) h.blocks) blocks t at, makes)))

    coin_now : (e : Admitted) → Contains left e → (i : TxIn) → Contains e.tx.inputs i → IsSome (view_coin (switched h depth blocks) left i.prevout) ⊎ MadeBy pending i.prevout
    coin_now e m i c =
        let chain = switched h depth blocks in
        ⊎_elim
        (λ (w : PoolMakes entries i.prevout).
        inl (⊎_elim
        (λ (k : Contains left w.0). view_pool chain left i.prevout (leaves.orderly policy (sound_orderly policy h entries sound)).txids (w.0, k, w.2))
        (λ t. made_new e m i c t.0 t.1 (told w.0.tx t.0 (in_pool w.0 w.1) (in_new t.0 t.1) (makes_by w.0.tx i.prevout w.2 ∙ sym t.2) i.prevout w.2))
        (leaves.parents e m i c w.0 w.1 (makes_by w.0.tx i.prevout w.2))))
        (λ (k : IsSome (coin_of h i.prevout)).
        let made = coin_is_made h i.prevout k in
        let unspent = unspent_now e m i c (unspent_first i.prevout made.0) in
        ⊎_elim
        (λ (o : is_some (opening_coin_of h.coins i.prevout) ≡ true). inl (view_chain chain left i.prevout (made_is_coin chain i.prevout unspent (inl o))))
        (λ (w : MadeBy (connected_transactions h) i.prevout).
        ⊎_elim
        (λ (l : Contains (transactions_of (take (left_of h depth) h.blocks)) w.0).
        inl (view_chain chain left i.prevout (made_is_coin chain i.prevout unspent (inr (w.0, Contains-first_blocks (take (left_of h depth) h.blocks) blocks w.0 l, w.2)))))
        (λ (l : Contains (transactions_of (last_blocks h depth)) w.0).
        ⊎_elim
        (λ u. inl (made_new e m i c u.0 u.1 (told w.0 u.0 (in_chain w.0 w.1) (in_new u.0 u.1) (sym u.2) i.prevout w.2)))
        (λ (p : Contains pending w.0). inr (w.0, p, w.2))
        (waits w.0 l))
        (blocks_cases (take (left_of h depth) h.blocks) (last_blocks h depth) w.0 (subst (λ (bs : List Block). Contains (transactions_of bs) w.0) front_back w.1)))
        made.1)
        (view_cases h entries i.prevout (spent_at (λ (p : OutPoint). IsSome (view_coin h entries p)) entries e i sound.coins (leaves.within e m) c))

    fresh_now : (e : Admitted) → Contains left e → is_known_txid (switched h depth blocks) (txid_of e.tx) ≡ false
    fresh_now e m = false_from_ne_true _ (λ k.
        let fresh : is_known_txid h (txid_of e.tx) ≡ false = All-contains (λ (a : Admitted). is_known_txid h (txid_of a.tx) ≡ false) entries e sound.fresh (leaves.within e m) in
        ⊎_elim
        (λ (o : has_txid (txid_of e.tx) h.coins ≡ true). true≢false (sym (known_opened h (txid_of e.tx) o) ∙ fresh))
        (λ w. ⊎_elim
        (λ (l : Contains (transactions_of (take (left_of h depth) h.blocks)) w.0). true≢false (sym (known_connected h w.0 (txid_of e.tx) (stays_before w.0 l) w.2) ∙ fresh))
        (λ (l : Contains (transactions_of blocks) w.0). leaves.apart e m w.0 l (sym w.2))
        (blocks_cases (take (left_of h depth) h.blocks) blocks w.0 w.1))
        (known_cases (switched h depth blocks) (txid_of e.tx) k))

    -- after new blocks took the place of others
    pub switched_sound : IsSoundBut policy pending (switched h depth blocks) left
    switched_sound = record { orderly = leaves.orderly policy (sound_orderly policy h entries sound); coins = coin_now; fresh = fresh_now }
