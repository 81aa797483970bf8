-- Which transactions a chain knows.
use Rattle.std.proofs.Common.{◌≡◌, ℕ, true, false, List, [], ◌∷◌, ◌++◌, sym, ◌∙◌, subst, ◌⊎◌, inl, inr, ⊎_elim}
use Rattle.std.specs.Prelude.{Contains}
use Rattle.std.specs.List.{list_any, flat_map}
use Rattle.std.specs.Str.{bytes_eq}
use Rattle.std.specs.Cmp.Lexicographic.{bytes_decides}
use Rattle.std.proofs.lemmas.Bool.{true≢false, false_from_ne_true, or_cases, or_left, or_right}
use Rattle.std.proofs.lemmas.Grind.{flat_map-append}
use Rattle.std.proofs.lemmas.List.Elements.{Contains-append_left, Contains-append_right, Contains-append_cases}
use Rattle.gate_bytes.proofs.Members.{Contains-cons_cases, Contains-head, Contains-rest, not_in_none, any_is, list_any_of}
use Rattle.gate_tx.specs.Ids.{txid_of}
use Rattle.gate_tx.specs.Tx.{Tx}
use Rattle.gate_chain.specs.Blocks.{Block}
use Rattle.gate_chain.specs.declared.OpeningCoin.{OpeningCoin}
use Rattle.gate_chain.specs.Coins.{has_txid, has_transaction, is_known_txid}
use Rattle.gate_chain.specs.History.{History}
use Rattle.gate_admit.specs.Good.{connected_transactions}
use Rattle.gate_submission.specs.Blocks.{transactions_of}

-- ---- members of lists of lists

pub record ListOf {X Y : Type 0} (f : X → List Y) (xs : List X) (y : Y) : Type 0 where
  pub item : X
  pub among : Contains xs item
  pub within : Contains (f item) y

pub Contains-from_flat_map : {X Y : Type 0} (f : X → List Y) (xs : List X) (y : Y) → Contains (flat_map f xs) y → ListOf f xs y
Contains-from_flat_map f [] y c = not_in_none y c
Contains-from_flat_map f (x ∷ xs) y c =
    ⊎_elim (λ (k : Contains (f x) y). record { item = x; among = Contains-head x xs; within = k })
    (λ (k : Contains (flat_map f xs) y). let w = Contains-from_flat_map f xs y k in record { item = w.item; among = Contains-rest x xs w.item w.among; within = w.within })
    (Contains-append_cases (f x) (flat_map f xs) y c)

pub Contains-flat_map : {X Y : Type 0} (f : X → List Y) (xs : List X) (x : X) (y : Y) → Contains xs x → Contains (f x) y → Contains (flat_map f xs) y
Contains-flat_map f [] x y h k = not_in_none x h
Contains-flat_map {X} {Y} f (z ∷ xs) x y h k =
    ⊎_elim (λ (e : z ≡ x). Contains-append_left (f z) (flat_map f xs) y (subst (λ (w : X). Contains (f w) y) (sym e) k))
    (λ c. Contains-append_right (f z) (flat_map f xs) y (Contains-flat_map f xs x y c k))
    (Contains-cons_cases z xs x h)

-- ---- the transactions of blocks

-- a chain knows a transaction by an opening coin, or has it in a block
pub known_cases : (h : History) (txid : List ℕ) → is_known_txid h txid ≡ true → (has_txid txid h.coins ≡ true) ⊎ ((tx : Tx) × Contains (connected_transactions h) tx × (txid_of tx ≡ txid))
unfolding is_known_txid
known_cases h txid k =
    ⊎_elim (λ (o : has_txid txid h.coins ≡ true). inl o)
    (λ (o : list_any (has_transaction txid) h.blocks ≡ true).
    let b = any_is (has_transaction txid) h.blocks o in
    let t = any_is (λ (tx : Tx). bytes_eq (txid_of tx) txid) b.0.transactions b.2 in
    inr (t.0, Contains-flat_map (λ (b : Block). b.transactions) h.blocks b.0 t.0 b.1 t.1, (bytes_decides (txid_of t.0) txid).0 t.2))
    (or_cases (has_txid txid h.coins) (list_any (has_transaction txid) h.blocks) k)

pub known_opened : (h : History) (txid : List ℕ) → has_txid txid h.coins ≡ true → is_known_txid h txid ≡ true
unfolding is_known_txid
known_opened h txid k = or_left (has_txid txid h.coins) (list_any (has_transaction txid) h.blocks) k

-- a block has a transaction of this id
pub has_id : (b : Block) (tx : Tx) (txid : List ℕ) → Contains b.transactions tx → txid_of tx ≡ txid → has_transaction txid b ≡ true
has_id b tx txid m same = list_any_of (λ (t : Tx). bytes_eq (txid_of t) txid) b.transactions tx m ((bytes_decides (txid_of tx) txid).1 same)

pub known_connected : (h : History) (tx : Tx) (txid : List ℕ) → Contains (connected_transactions h) tx → txid_of tx ≡ txid → is_known_txid h txid ≡ true
unfolding is_known_txid
known_connected h tx txid m same =
    let w = Contains-from_flat_map (λ (b : Block). b.transactions) h.blocks tx m in
    or_right (has_txid txid h.coins) (list_any (has_transaction txid) h.blocks) (list_any_of (has_transaction txid) h.blocks w.item w.among (has_id w.item tx txid w.within same))

-- what has the same opening and more transactions knows more
pub known_more : (h more : History) → more.coins ≡ h.coins → ((tx : Tx) → Contains (connected_transactions h) tx → Contains (connected_transactions more) tx)
    → (txid : List ℕ) → is_known_txid h txid ≡ true → is_known_txid more txid ≡ true
known_more h more coins within txid k =
    ⊎_elim (λ (o : has_txid txid h.coins ≡ true). known_opened more txid (subst (λ (cs : List OpeningCoin). has_txid txid cs ≡ true) (sym coins) o))
    (λ w. known_connected more w.0 txid (within w.0 w.1) w.2)
    (known_cases h txid k)

pub unknown_less : (h more : History) → more.coins ≡ h.coins → ((tx : Tx) → Contains (connected_transactions h) tx → Contains (connected_transactions more) tx)
    → (txid : List ℕ) → is_known_txid more txid ≡ false → is_known_txid h txid ≡ false
unknown_less h more coins within txid k = false_from_ne_true _ (λ t. true≢false (sym (known_more h more coins within txid t) ∙ k))

-- the transactions of blocks and of more
pub transactions-append : (xs ys : List Block) → transactions_of (xs ++ ys) ≡ transactions_of xs ++ transactions_of ys
transactions-append xs ys = flat_map-append (λ (b : Block). b.transactions) xs ys

pub Contains-first_blocks : (xs ys : List Block) (tx : Tx) → Contains (transactions_of xs) tx → Contains (transactions_of (xs ++ ys)) tx
Contains-first_blocks xs ys tx m = subst (λ (l : List Tx). Contains l tx) (sym (transactions-append xs ys)) (Contains-append_left (transactions_of xs) (transactions_of ys) tx m)

pub Contains-last_blocks : (xs ys : List Block) (tx : Tx) → Contains (transactions_of ys) tx → Contains (transactions_of (xs ++ ys)) tx
Contains-last_blocks xs ys tx m = subst (λ (l : List Tx). Contains l tx) (sym (transactions-append xs ys)) (Contains-append_right (transactions_of xs) (transactions_of ys) tx m)

pub blocks_cases : (xs ys : List Block) (tx : Tx) → Contains (transactions_of (xs ++ ys)) tx → Contains (transactions_of xs) tx ⊎ Contains (transactions_of ys) tx
blocks_cases xs ys tx m = Contains-append_cases (transactions_of xs) (transactions_of ys) tx (subst (λ (l : List Tx). Contains l tx) (transactions-append xs ys) m)
