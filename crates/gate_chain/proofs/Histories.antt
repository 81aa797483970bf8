-- A history as its last block grows by one transaction.
use Rattle.std.proofs.Common.{◌≡◌, ℕ, zero, suc, ◌+◌, ◌<◌, ◌==◌, Bool, true, false, cond, not, ◌||◌, ◌&&◌, List, [], ◌∷◌, ◌++◌, length, map, drop, find, slice_get, Option, Some, None, is_some, if◌then◌else◌, refl, sym, ap, ◌∙◌, true≢false, arith, add-one, append-nil, append_assoc}
use Rattle.std.specs.Prelude.{option_and_then}
use Rattle.std.proofs.lemmas.Bool.Decides.{nat_tests}
use Rattle.std.proofs.lemmas.List.{map-append}
use Rattle.std.proofs.lemmas.List.Folds.{list_any-append}
use Rattle.std.proofs.lemmas.Slice.Eq.{bytes_eq-Decides}
use Rattle.std.specs.Bool.{Decides, one_answer}
use Rattle.std.specs.List.{list_any}
use Rattle.std.specs.Map.{lookup}
use Rattle.std.specs.Option.{option_or, option_map}
use Rattle.std.specs.Str.{bytes_eq}
use Rattle.gate_tx.specs.declared.OutPoint.{OutPoint}
use Rattle.gate_tx.specs.declared.TxOut.{TxOut}
use Rattle.gate_tx.specs.declared.Coin.{Coin}
use Rattle.gate_tx.specs.Coins.{point_eq, spends, is_unspendable}
use Rattle.gate_tx.specs.Ids.{txid_of}
use Rattle.gate_tx.specs.Text.{is_nonempty}
use Rattle.gate_tx.specs.Tx.{Tx}
use Rattle.gate_chain.specs.Blocks.{Block}
use Rattle.gate_chain.specs.declared.marked.Marked.{Marked}
use Rattle.gate_chain.specs.declared.opening.OpeningCoin.{OpeningCoin}
use Rattle.gate_chain.specs.Coins.{coin_of, coin_made, coin_of_transaction, coin_of_transactions, coin_of_blocks, opening_coin_of, any_spends, is_spent_in, has_txid, has_transaction, is_known_txid}
use Rattle.gate_chain.specs.Connecting.{with_part}
use Rattle.gate_chain.specs.History.{History, first_connected}
use Rattle.gate_chain.specs.Marking.{IsNew, coins_in, coins_made, opening_entry, made_by, made_by_all, made_by_blocks, ids_of}
use Rattle.gate_chain.specs.Linked.{is_spent}
use Rattle.gate_chain.proofs.Marks.{lookup-append, coin_of_entry, lookup-coins_in}

or_false : (b : Bool) → (b || false) ≡ b
or_false true = refl
or_false false = refl

or_both : (a b c : Bool) → ((a || b) || c) ≡ (a || (b || c))
or_both true b c = refl
or_both false b c = refl

pub or_left : (a b : Bool) → a ≡ true → (a || b) ≡ true
or_left a b h = ap (λ x. x || b) h

pub or_right : (a b : Bool) → b ≡ true → (a || b) ≡ true
or_right true b h = refl
or_right false b h = h

pub or_cases : (a b : Bool) (P : Type 0) → (a || b) ≡ true → (a ≡ true → P) → (b ≡ true → P) → P
or_cases true b P h f g = f refl
or_cases false b P h f g = g h

pub bytes_same : (a b : List ℕ) → bytes_eq a b ≡ true → a ≡ b
bytes_same a b h = let d : Decides (bytes_eq a b) (a ≡ b) = bytes_eq-Decides a b in d.0 h

pub bytes_swap : (a b : List ℕ) → bytes_eq a b ≡ true → bytes_eq b a ≡ true
bytes_swap a b h = let d : Decides (bytes_eq b a) (b ≡ a) = bytes_eq-Decides b a in d.1 (sym (bytes_same a b h))

spent_push : (done : List Tx) (t : Tx) (p : OutPoint) → any_spends (drop 1 (done ++ t ∷ [])) p ≡ (any_spends (drop 1 done) p || (is_nonempty done && spends t.inputs p))
spent_push [] t p = refl
spent_push (x ∷ done) t p = list_any-append (λ (tx : Tx). spends tx.inputs p) done (t ∷ []) ∙ ap (λ b. any_spends done p || b) (or_false (spends t.inputs p))

pub bytes_either : (a b : List ℕ) → bytes_eq a b ≡ bytes_eq b a
bytes_either a b =
    let there : Decides (bytes_eq a b) (a ≡ b) = bytes_eq-Decides a b in
    let back : Decides (bytes_eq b a) (b ≡ a) = bytes_eq-Decides b a in
    one_answer (bytes_eq a b) (bytes_eq b a) there ((λ e. sym (back.0 e)), (λ e. back.1 (sym e)))

-- the lists of coins and ids, with one more transaction at the end
later_push : (height : ℕ) (done : List Tx) (t : Tx) → made_by_all height false (done ++ t ∷ []) ≡ made_by_all height false done ++ made_by (txid_of t) height false 0 t.outputs
later_push height [] t = append-nil (made_by (txid_of t) height false 0 t.outputs)
later_push height (x ∷ done) t =
    ap (λ l. made_by (txid_of x) height false 0 x.outputs ++ l) (later_push height done t)
    ∙ sym (append_assoc (made_by (txid_of x) height false 0 x.outputs) (made_by_all height false done) (made_by (txid_of t) height false 0 t.outputs))

all_push : (height : ℕ) (done : List Tx) (t : Tx) → made_by_all height true (done ++ t ∷ []) ≡ made_by_all height true done ++ made_by (txid_of t) height (not (is_nonempty done)) 0 t.outputs
all_push height [] t = append-nil (made_by (txid_of t) height true 0 t.outputs)
all_push height (x ∷ done) t =
    ap (λ l. made_by (txid_of x) height true 0 x.outputs ++ l) (later_push height done t)
    ∙ sym (append_assoc (made_by (txid_of x) height true 0 x.outputs) (made_by_all height false done) (made_by (txid_of t) height false 0 t.outputs))

blocks_push : (height : ℕ) (blocks : List Block) (b : Block) → made_by_blocks height (blocks ++ b ∷ []) ≡ made_by_blocks height blocks ++ made_by_all (height + length blocks) true b.transactions
blocks_push height [] b =
    append-nil (made_by_all height true b.transactions)
    ∙ ap (λ n. made_by_all n true b.transactions) (let e : height ≡ height + 0 = omega arith in e)
blocks_push height (x ∷ blocks) b =
    ap (λ l. made_by_all height true x.transactions ++ l) (blocks_push (height + 1) blocks b
    ∙ ap (λ n. made_by_blocks (height + 1) blocks ++ made_by_all n true b.transactions)
    (let e : height + 1 + length blocks ≡ height + (length blocks + 1) = omega arith in e ∙ (λ j. height + add-one (length blocks) j)))
    ∙ sym (append_assoc (made_by_all height true x.transactions) (made_by_blocks (height + 1) blocks) (made_by_all (height + length (x ∷ blocks)) true b.transactions))

ids_push : (blocks : List Block) (b : Block) → ids_of (blocks ++ b ∷ []) ≡ ids_of blocks ++ map txid_of b.transactions
ids_push [] b = append-nil (map txid_of b.transactions)
ids_push (x ∷ blocks) b = ap (λ l. map txid_of x.transactions ++ l) (ids_push blocks b) ∙ sym (append_assoc (map txid_of x.transactions) (ids_of blocks) (map txid_of b.transactions))

pub coins_form : (h : History) (header : List ℕ) (d : List Tx) → coins_made (with_part h header d) ≡ coins_made h ++ made_by_all (first_connected h + length h.blocks) true d
coins_form h header d =
    ap (λ l. map opening_entry h.coins ++ l) (blocks_push (first_connected h) h.blocks (record { header = header; transactions = d }))
    ∙ sym (append_assoc (map opening_entry h.coins) (made_by_blocks (first_connected h) h.blocks) (made_by_all (first_connected h + length h.blocks) true d))

pub ids_form : (h : History) (header : List ℕ) (d : List Tx) → ids_of (with_part h header d).blocks ≡ ids_of h.blocks ++ map txid_of d
ids_form h header d = ids_push h.blocks (record { header = header; transactions = d })

pub coins_more : (h : History) (header : List ℕ) (done : List Tx) (t : Tx)
    → coins_made (with_part h header (done ++ t ∷ [])) ≡ coins_made (with_part h header done) ++ made_by (txid_of t) (first_connected h + length h.blocks) (not (is_nonempty done)) 0 t.outputs
coins_more h header done t =
    coins_form h header (done ++ t ∷ []) ∙ ap (λ l. coins_made h ++ l) (all_push (first_connected h + length h.blocks) done t)
    ∙ sym (append_assoc (coins_made h) (made_by_all (first_connected h + length h.blocks) true done) (made_by (txid_of t) (first_connected h + length h.blocks) (not (is_nonempty done)) 0 t.outputs))
    ∙ ap (λ l. l ++ made_by (txid_of t) (first_connected h + length h.blocks) (not (is_nonempty done)) 0 t.outputs) (sym (coins_form h header done))

pub ids_more : (h : History) (header : List ℕ) (done : List Tx) (t : Tx) → ids_of (with_part h header (done ++ t ∷ [])).blocks ≡ ids_of (with_part h header done).blocks ++ txid_of t ∷ []
ids_more h header done t =
    ids_form h header (done ++ t ∷ []) ∙ ap (λ l. ids_of h.blocks ++ l) (map-append txid_of done (t ∷ []))
    ∙ sym (append_assoc (ids_of h.blocks) (map txid_of done) (txid_of t ∷ []))
    ∙ ap (λ l. l ++ txid_of t ∷ []) (sym (ids_form h header done))

abbrev pick : Bool → Option Coin → Option Coin → Option Coin
pick u a b = if u then a else b

-- the coin that the list has at an outpoint is the one that the history made
module _ (id : List ℕ) (height : ℕ) (coinbase : Bool) (p : OutPoint) where
  made_of : TxOut → Coin
  made_of o = record { value = o.value; script = o.script; height = height; coinbase = coinbase }

  step : (o : TxOut) (outputs : List TxOut) (i : ℕ) → lookup (point_eq p) (made_by id height coinbase i (o ∷ outputs))
      ≡ (if is_unspendable o.script then lookup (point_eq p) (made_by id height coinbase (i + 1) outputs)
      else cond (bytes_eq p.txid id && (p.index == i)) (Some (record { value = o.value; script = o.script; height = height; coinbase = coinbase })) (lookup (point_eq p) (made_by id height coinbase (i + 1) outputs)))
  step o outputs i = by (is_unspendable o.script)
    where
      by : (u : Bool) → lookup (point_eq p) (if u then made_by id height coinbase (i + 1) outputs
          else (record { txid = id; index = i }, record { value = o.value; script = o.script; height = height; coinbase = coinbase }) ∷ made_by id height coinbase (i + 1) outputs)
          ≡ (if u then lookup (point_eq p) (made_by id height coinbase (i + 1) outputs)
          else cond (bytes_eq p.txid id && (p.index == i)) (Some (record { value = o.value; script = o.script; height = height; coinbase = coinbase })) (lookup (point_eq p) (made_by id height coinbase (i + 1) outputs)))
      by true = refl
      by false = refl

  made_before : (outputs : List TxOut) (i : ℕ) → p.index < i → lookup (point_eq p) (made_by id height coinbase i outputs) ≡ None
  made_before [] i lt = refl
  made_before (o ∷ outputs) i lt =
      let nope : (p.index == i) ≡ false = grind (arith, nat_tests) in
      step o outputs i
      ∙ ap (λ r. pick (is_unspendable o.script) r (cond (bytes_eq p.txid id && (p.index == i)) (Some (record { value = o.value; script = o.script; height = height; coinbase = coinbase })) r)) (made_before outputs (i + 1) (omega arith))
      ∙ ap (λ b. pick (is_unspendable o.script) None (cond (bytes_eq p.txid id && b) (Some (record { value = o.value; script = o.script; height = height; coinbase = coinbase })) None)) nope
      ∙ by (is_unspendable o.script) (bytes_eq p.txid id)
    where
      by : (u b : Bool) → (pick u None (cond (b && false) (Some (record { value = o.value; script = o.script; height = height; coinbase = coinbase })) None)) ≡ None
      by true b = refl
      by false true = refl
      by false false = refl

  made_at : (outputs : List TxOut) (i j : ℕ) → p.index ≡ i + j → lookup (point_eq p) (made_by id height coinbase i outputs)
      ≡ (if bytes_eq id p.txid then option_and_then (coin_made height coinbase) (slice_get outputs j) else None)
  made_at [] i j at = by (bytes_eq id p.txid)
    where
      by : (b : Bool) → None ≡ (if b then option_and_then (coin_made height coinbase) (slice_get [] j) else None)
      by true = refl
      by false = refl
  made_at (o ∷ outputs) i zero at =
      let here : (p.index == i) ≡ true = grind (arith, nat_tests) in
      step o outputs i
      ∙ ap (λ r. pick (is_unspendable o.script) r (cond (bytes_eq p.txid id && (p.index == i)) (Some (record { value = o.value; script = o.script; height = height; coinbase = coinbase })) r)) (made_before outputs (i + 1) (omega arith))
      ∙ (λ k. pick (is_unspendable o.script) None (cond (bytes_either p.txid id k && here k) (Some (record { value = o.value; script = o.script; height = height; coinbase = coinbase })) None))
      ∙ by (is_unspendable o.script) (bytes_eq id p.txid)
    where
      by : (u b : Bool) → (pick u None (cond (b && true) (Some (record { value = o.value; script = o.script; height = height; coinbase = coinbase })) None))
          ≡ pick b (pick u None (Some (record { value = o.value; script = o.script; height = height; coinbase = coinbase }))) None
      by true true = refl
      by true false = refl
      by false true = refl
      by false false = refl
  made_at (o ∷ outputs) i (suc j) at =
      let nope : (p.index == i) ≡ false = grind (arith, nat_tests) in
      step o outputs i
      ∙ ap (λ b. if is_unspendable o.script then lookup (point_eq p) (made_by id height coinbase (i + 1) outputs) else cond (bytes_eq p.txid id && b) (Some (record { value = o.value; script = o.script; height = height; coinbase = coinbase })) (lookup (point_eq p) (made_by id height coinbase (i + 1) outputs))) nope
      ∙ by (is_unspendable o.script) (bytes_eq p.txid id)
      ∙ made_at outputs (i + 1) j (omega arith)
    where
      by : (u b : Bool) → (if u then lookup (point_eq p) (made_by id height coinbase (i + 1) outputs) else cond (b && false) (Some (record { value = o.value; script = o.script; height = height; coinbase = coinbase })) (lookup (point_eq p) (made_by id height coinbase (i + 1) outputs)))
          ≡ lookup (point_eq p) (made_by id height coinbase (i + 1) outputs)
      by true b = refl
      by false true = refl
      by false false = refl

transaction_made : (height : ℕ) (coinbase : Bool) (t : Tx) (p : OutPoint) → lookup (point_eq p) (made_by (txid_of t) height coinbase 0 t.outputs) ≡ coin_of_transaction height coinbase t p
transaction_made height coinbase t p = made_at (txid_of t) height coinbase p t.outputs 0 p.index (omega arith)

pub all_made : (height : ℕ) (coinbase : Bool) (txs : List Tx) (p : OutPoint) → lookup (point_eq p) (made_by_all height coinbase txs) ≡ coin_of_transactions height coinbase txs p
all_made height coinbase [] p = refl
all_made height coinbase (t ∷ txs) p =
    lookup-append (point_eq p) (made_by (txid_of t) height coinbase 0 t.outputs) (made_by_all height false txs)
    ∙ (λ j. option_or (transaction_made height coinbase t p j) (all_made height false txs p j))

pub blocks_made : (height : ℕ) (blocks : List Block) (p : OutPoint) → lookup (point_eq p) (made_by_blocks height blocks) ≡ coin_of_blocks height blocks p
blocks_made height [] p = refl
blocks_made height (b ∷ blocks) p =
    lookup-append (point_eq p) (made_by_all height true b.transactions) (made_by_blocks (height + 1) blocks)
    ∙ (λ j. option_or (all_made height true b.transactions p j) (blocks_made (height + 1) blocks p j))

pub opening_made : (coins : List OpeningCoin) (p : OutPoint) → lookup (point_eq p) (map opening_entry coins) ≡ opening_coin_of coins p
opening_made [] p = refl
opening_made (c ∷ coins) p = by (point_eq p c.outpoint) (opening_made coins p)
  where
    by : (b : Bool) → lookup (point_eq p) (map opening_entry coins) ≡ opening_coin_of coins p
        → cond b (Some c.coin) (lookup (point_eq p) (map opening_entry coins)) ≡ option_map (λ (c : OpeningCoin). c.coin) (cond b (Some c) (find (λ c. point_eq p c.outpoint) coins))
    by true h = refl
    by false h = h

pub made_is : (h : History) (p : OutPoint) → lookup (point_eq p) (coins_made h) ≡ option_or (opening_coin_of h.coins p) (coin_of_blocks (first_connected h) h.blocks p)
made_is h p =
    lookup-append (point_eq p) (map opening_entry h.coins) (made_by_blocks (first_connected h) h.blocks)
    ∙ (λ j. option_or (opening_made h.coins p j) (blocks_made (first_connected h) h.blocks p j))

pub coin_is : (h : History) (p : OutPoint) → coin_of h p ≡ (if is_spent h p then None else lookup (point_eq p) (coins_made h))
unfolding coin_of
coin_is h p = ap (λ o. if is_spent h p then None else o) (sym (made_is h p))

module _ (h : History) (header : List ℕ) (done : List Tx) (t : Tx) where
  pub spent_form : (d : List Tx) (p : OutPoint) → is_spent (with_part h header d) p ≡ (list_any (is_spent_in p) h.blocks || any_spends (drop 1 d) p)
  spent_form d p = list_any-append (is_spent_in p) h.blocks ((record { header = header; transactions = d }) ∷ []) ∙ ap (λ b. list_any (is_spent_in p) h.blocks || b) (or_false (any_spends (drop 1 d) p))

  pub spent_none : (p : OutPoint) → is_spent (with_part h header []) p ≡ is_spent h p
  spent_none p = spent_form [] p ∙ or_false (list_any (is_spent_in p) h.blocks)

  pub spent_more : (p : OutPoint) → is_spent (with_part h header (done ++ t ∷ [])) p ≡ (is_spent (with_part h header done) p || (is_nonempty done && spends t.inputs p))
  spent_more p =
      spent_form (done ++ t ∷ []) p ∙ ap (λ b. list_any (is_spent_in p) h.blocks || b) (spent_push done t p)
      ∙ sym (or_both (list_any (is_spent_in p) h.blocks) (any_spends (drop 1 done) p) (is_nonempty done && spends t.inputs p))
      ∙ ap (λ b. b || (is_nonempty done && spends t.inputs p)) (sym (spent_form done p))

-- what is a coin came from a known transaction
pub some_or : {X : Type 0} (a b : Option X) → is_some (option_or a b) ≡ (is_some a || is_some b)
some_or None b = refl
some_or (Some x) b = refl

pub opening_known : (coins : List OpeningCoin) (p : OutPoint) → is_some (opening_coin_of coins p) ≡ true → has_txid p.txid coins ≡ true
opening_known [] p h = h
opening_known (c ∷ coins) p h = by (point_eq p c.outpoint) refl h (opening_known coins p)
  where
    by : (b : Bool) → point_eq p c.outpoint ≡ b
        → is_some (option_map (λ (c : OpeningCoin). c.coin) (cond b (Some c) (find (λ c. point_eq p c.outpoint) coins))) ≡ true
        → (is_some (opening_coin_of coins p) ≡ true → has_txid p.txid coins ≡ true) → (bytes_eq c.outpoint.txid p.txid || has_txid p.txid coins) ≡ true
    by true e h rest = or_left _ _ (bytes_swap p.txid c.outpoint.txid (first (bytes_eq p.txid c.outpoint.txid) _ e))
      where
        first : (a b : Bool) → (a && b) ≡ true → a ≡ true
        first true b h = refl
        first false b h = h
    by false e h rest = or_right (bytes_eq c.outpoint.txid p.txid) _ (rest h)

pub made_known : (height : ℕ) (coinbase : Bool) (t : Tx) (p : OutPoint) → is_some (coin_of_transaction height coinbase t p) ≡ true → bytes_eq (txid_of t) p.txid ≡ true
made_known height coinbase t p h = by (bytes_eq (txid_of t) p.txid) _ h
  where
    by : (b : Bool) (o : Option Coin) → is_some (if b then o else None) ≡ true → b ≡ true
    by true o h = refl
    by false o h = h

pub all_made_known : (height : ℕ) (coinbase : Bool) (txs : List Tx) (p : OutPoint) → is_some (coin_of_transactions height coinbase txs p) ≡ true → list_any (λ t. bytes_eq (txid_of t) p.txid) txs ≡ true
all_made_known height coinbase [] p h = h
all_made_known height coinbase (t ∷ txs) p h =
    or_cases _ _ _ (sym (some_or (coin_of_transaction height coinbase t p) (coin_of_transactions height false txs p)) ∙ h)
    (λ e. or_left _ _ (made_known height coinbase t p e))
    (λ e. or_right (bytes_eq (txid_of t) p.txid) _ (all_made_known height false txs p e))

pub blocks_known : (height : ℕ) (blocks : List Block) (p : OutPoint) → is_some (coin_of_blocks height blocks p) ≡ true → list_any (has_transaction p.txid) blocks ≡ true
blocks_known height [] p h = h
blocks_known height (b ∷ blocks) p h =
    or_cases _ _ _ (sym (some_or (coin_of_transactions height true b.transactions p) (coin_of_blocks (height + 1) blocks p)) ∙ h)
    (λ e. or_left _ _ (all_made_known height true b.transactions p e))
    (λ e. or_right (has_transaction p.txid b) _ (blocks_known (height + 1) blocks p e))

pub made_known_all : (h : History) (p : OutPoint) → is_some (lookup (point_eq p) (coins_made h)) ≡ true → is_known_txid h p.txid ≡ true
unfolding is_known_txid
made_known_all h p e =
    or_cases _ _ _ (sym (some_or (opening_coin_of h.coins p) (coin_of_blocks (first_connected h) h.blocks p)) ∙ ap is_some (sym (made_is h p)) ∙ e)
    (λ e. or_left _ _ (opening_known h.coins p e))
    (λ e. or_right (has_txid p.txid h.coins) _ (blocks_known (first_connected h) h.blocks p e))

pub unknown_new : (h : History) (id : List ℕ) (es : List (OutPoint × Marked)) → is_known_txid h id ≡ false → coins_in es ≡ coins_made h → IsNew id es
unknown_new h id es nope are p at = by (lookup (point_eq p) es) refl
  where
    by : (o : Option Marked) → lookup (point_eq p) es ≡ o → o ≡ None
    by None e = refl
    by (Some m) e =
        let there : is_some (lookup (point_eq p) (coins_made h)) ≡ true = ap is_some (ap (lookup (point_eq p)) (sym are) ∙ lookup-coins_in (point_eq p) es ∙ ap coin_of_entry e) in
        absurd (true≢false (sym (made_known_all h p there) ∙ ap (is_known_txid h) (sym (bytes_same id p.txid at)) ∙ nope))

-- the ids of blocks are those of their transactions
ids_in : (txs : List Tx) (id : List ℕ) → list_any (bytes_eq id) (map txid_of txs) ≡ list_any (λ t. bytes_eq (txid_of t) id) txs
ids_in [] id = refl
ids_in (t ∷ txs) id = λ j. bytes_either id (txid_of t) j || ids_in txs id j

pub ids_known : (blocks : List Block) (id : List ℕ) → list_any (bytes_eq id) (ids_of blocks) ≡ list_any (has_transaction id) blocks
ids_known [] id = refl
ids_known (b ∷ blocks) id =
    list_any-append (bytes_eq id) (map txid_of b.transactions) (ids_of blocks)
    ∙ (λ j. ids_in b.transactions id j || ids_known blocks id j)
