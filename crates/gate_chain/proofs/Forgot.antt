-- What a history is once its lowest blocks became blocks of its opening.
use Rattle.std.proofs.Common.{◌≡◌, ℕ, ◌+◌, ◌-◌, Bool, true, false, cond, not, ◌||◌, ◌&&◌, List, [], ◌∷◌, ◌++◌, length, map, take, drop, filter, Option, Some, None, is_some, if◌then◌else◌, refl, sym, ap, subst, ◌∙◌, true≢false, arith, append_assoc, length-append}
use Rattle.std.proofs.lemmas.List.{map-append, length-map, take-append-drop}
use Rattle.std.proofs.lemmas.List.Folds.{list_any-append}
use Rattle.std.specs.Bool.{Decides}
use Rattle.std.specs.List.{list_any}
use Rattle.std.specs.Map.{lookup}
use Rattle.std.specs.Option.{option_or}
use Rattle.std.specs.Str.{bytes_eq}
use Rattle.gate_tx.specs.declared.OutPoint.{OutPoint}
use Rattle.gate_tx.specs.declared.TxIn.{TxIn}
use Rattle.gate_tx.specs.declared.TxOut.{TxOut}
use Rattle.gate_tx.specs.declared.Coin.{Coin}
use Rattle.gate_tx.specs.Coins.{point_eq, spends, is_unspendable}
use Rattle.gate_tx.specs.Equality.{out_point_decides}
use Rattle.gate_tx.specs.Ids.{txid_of}
use Rattle.gate_tx.specs.Tx.{Tx}
use Rattle.gate_chain.specs.Blocks.{Block}
use Rattle.gate_rules.specs.declared.ChainDenial.TheVariants.{TxidRepeated}
use Rattle.gate_chain.specs.declared.opening.OpeningCoin.{OpeningCoin}
use Rattle.gate_chain.specs.Coins.{any_spends, coin_of, coin_of_blocks, opening_coin_of, has_txid, has_transaction, is_known_txid, is_spent_in}
use Rattle.gate_chain.specs.Connecting.{with_part, transaction_rules, transaction_denial, transactions_denial}
use Rattle.gate_chain.specs.Forgetting.{counts, forgotten, is_spent_in_any, opening_with, stays}
use Rattle.gate_chain.specs.Founding.{AreConnected, with_only}
use Rattle.gate_chain.specs.Headers.{header_time}
use Rattle.gate_chain.specs.History.{History, first_connected}
use Rattle.gate_chain.specs.Keeping.{IsOpening, opening_coin, opening_coins}
use Rattle.gate_chain.specs.Marking.{made_by, made_by_all, made_by_blocks, opening_entry}
use Rattle.gate_chain.specs.Times.{times_of}
use Rattle.gate_chain.proofs.Founded.{all_made_there, connected_front}
use Rattle.gate_chain.proofs.Growing.{denial_more, not_either, once}
use Rattle.gate_chain.proofs.Heights.{IsWithin, blocks_within, either, more}
use Rattle.gate_chain.proofs.Histories.{blocks_known, blocks_made, bytes_same, made_is, made_known_all, opening_made, or_cases, or_left, or_right}
use Rattle.gate_chain.proofs.Learnt.{entries_back}
use Rattle.gate_chain.proofs.Marks.{lookup-append, or_assoc, same_point}
use Rattle.gate_chain.proofs.Opened.{neither, passed}
use Rattle.gate_chain.proofs.Restoring.{blocks_append}
use Rattle.gate_chain.proofs.Still.{denial_still}

-- what is found in the entries that are kept
module _ {X : Type 0} (keep : OutPoint → Bool) where
  abbrev left : List (OutPoint × X) → List (OutPoint × X)
  left es = filter (λ (e : OutPoint × X). keep e.0) es

  kept_all : (b : Bool) → b ≡ true → (o : Option X) → (if b then o else None) ≡ o
  kept_all true f o = refl
  kept_all false f o = absurd (true≢false (sym f))

  kept_none : (b : Bool) → b ≡ false → (o : Option X) → (if b then o else None) ≡ None
  kept_none true f o = absurd (true≢false f)
  kept_none false f o = refl

  abbrev kept_nil : List (OutPoint × X)
  kept_nil = []

  kept_nothing : (p : OutPoint) (b : Bool) → lookup (point_eq p) kept_nil ≡ (if b then lookup (point_eq p) kept_nil else None)
  kept_nothing p true = refl
  kept_nothing p false = refl

  pub lookup_kept : (es : List (OutPoint × X)) (p : OutPoint) → lookup (point_eq p) (left es) ≡ (if keep p then lookup (point_eq p) es else None)
  lookup_kept [] p = kept_nothing p (keep p)
  lookup_kept (e ∷ es) p = by (keep e.0) refl (point_eq p e.0) refl (lookup_kept es p)
    where
      by : (k : Bool) → keep e.0 ≡ k → (q : Bool) → point_eq p e.0 ≡ q → lookup (point_eq p) (left es) ≡ (if keep p then lookup (point_eq p) es else None)
          → lookup (point_eq p) (cond k (e ∷ left es) (left es)) ≡ (if keep p then cond q (Some e.1) (lookup (point_eq p) es) else None)
      by false f true at rest = rest ∙ kept_none (keep p) (ap keep (same_point p e.0 at) ∙ f) (lookup (point_eq p) es) ∙ sym (kept_none (keep p) (ap keep (same_point p e.0 at) ∙ f) (Some e.1))
      by false f false at rest = rest
      by true f true at rest = ap (λ b. cond b (Some e.1) (lookup (point_eq p) (left es))) at ∙ sym (kept_all (keep p) (ap keep (same_point p e.0 at) ∙ f) (Some e.1))
      by true f false at rest = ap (λ b. cond b (Some e.1) (lookup (point_eq p) (left es))) at ∙ rest

pub entries_kept : (keep : OutPoint → Bool) (cs : List OpeningCoin) → map opening_entry (filter (λ (c : OpeningCoin). keep c.outpoint) cs) ≡ filter (λ (e : OutPoint × Coin). keep e.0) (map opening_entry cs)
entries_kept keep [] = refl
entries_kept keep (c ∷ cs) = by (keep c.outpoint) (entries_kept keep cs)
  where
    by : (b : Bool) → map opening_entry (filter (λ (c : OpeningCoin). keep c.outpoint) cs) ≡ filter (λ (e : OutPoint × Coin). keep e.0) (map opening_entry cs)
        → map opening_entry (cond b (c ∷ filter (λ (c : OpeningCoin). keep c.outpoint) cs) (filter (λ (c : OpeningCoin). keep c.outpoint) cs))
        ≡ cond b (opening_entry c ∷ filter (λ (e : OutPoint × Coin). keep e.0) (map opening_entry cs)) (filter (λ (e : OutPoint × Coin). keep e.0) (map opening_entry cs))
    by true h = ap (λ l. opening_entry c ∷ l) h
    by false h = h

-- no coin that is kept came from a transaction that no coin came from
txid_kept : (id : List ℕ) (keep : OpeningCoin → Bool) (cs : List OpeningCoin) → has_txid id cs ≡ false → has_txid id (filter keep cs) ≡ false
txid_kept id keep [] e = refl
txid_kept id keep (c ∷ cs) e = let parts = not_either (bytes_eq c.outpoint.txid id) (has_txid id cs) e in by (keep c) parts.0 (txid_kept id keep cs parts.1)
  where
    by : (b : Bool) → bytes_eq c.outpoint.txid id ≡ false → has_txid id (filter keep cs) ≡ false → has_txid id (cond b (c ∷ filter keep cs) (filter keep cs)) ≡ false
    by true f h = λ j. f j || h j
    by false f h = h

made_apart : (id other : List ℕ) (height : ℕ) (coinbase : Bool) (i : ℕ) (outputs : List TxOut) → bytes_eq other id ≡ false → has_txid id (opening_coins (made_by other height coinbase i outputs)) ≡ false
made_apart id other height coinbase i [] e = refl
made_apart id other height coinbase i (o ∷ outputs) e = by (is_unspendable o.script) (made_apart id other height coinbase (i + 1) outputs e)
  where
    by : (u : Bool) → has_txid id (opening_coins (made_by other height coinbase (i + 1) outputs)) ≡ false
        → has_txid id (opening_coins (if u then made_by other height coinbase (i + 1) outputs
        else (record { txid = other; index = i }, record { value = o.value; script = o.script; height = height; coinbase = coinbase }) ∷ made_by other height coinbase (i + 1) outputs)) ≡ false
    by true h = h
    by false h = λ j. e j || h j

has_both : (id : List ℕ) (a b : List (OutPoint × Coin)) → has_txid id (opening_coins (a ++ b)) ≡ (has_txid id (opening_coins a) || has_txid id (opening_coins b))
has_both id a b = ap (has_txid id) (map-append opening_coin a b) ∙ list_any-append (λ (x : OpeningCoin). bytes_eq x.outpoint.txid id) (opening_coins a) (opening_coins b)

all_apart : (id : List ℕ) (height : ℕ) (coinbase : Bool) (txs : List Tx) → list_any (λ (t : Tx). bytes_eq (txid_of t) id) txs ≡ false → has_txid id (opening_coins (made_by_all height coinbase txs)) ≡ false
all_apart id height coinbase [] e = refl
all_apart id height coinbase (t ∷ txs) e =
    let parts = not_either (bytes_eq (txid_of t) id) (list_any (λ (t : Tx). bytes_eq (txid_of t) id) txs) e in
    has_both id (made_by (txid_of t) height coinbase 0 t.outputs) (made_by_all height false txs)
    ∙ (λ j. made_apart id (txid_of t) height coinbase 0 t.outputs parts.0 j || all_apart id height false txs parts.1 j)

blocks_apart : (id : List ℕ) (height : ℕ) (blocks : List Block) → list_any (has_transaction id) blocks ≡ false → has_txid id (opening_coins (made_by_blocks height blocks)) ≡ false
blocks_apart id height [] e = refl
blocks_apart id height (b ∷ blocks) e =
    let parts = not_either (has_transaction id b) (list_any (has_transaction id) blocks) e in
    has_both id (made_by_all height true b.transactions) (made_by_blocks (height + 1) blocks)
    ∙ (λ j. all_apart id height true b.transactions parts.0 j || blocks_apart id (height + 1) blocks parts.1 j)

-- a transaction without a fault was not known
fresh : (h : History) (header : List ℕ) (done : List Tx) (t : Tx) → transaction_denial h header done t ≡ None → is_known_txid h (txid_of t) ≡ false
unfolding transaction_rules is_known_txid
fresh h header done t f =
    less (has_txid (txid_of t) h.coins) (list_any (has_transaction (txid_of t)) h.blocks) _
    (ap (λ b. has_txid (txid_of t) h.coins || b) (sym (list_any-append (has_transaction (txid_of t)) h.blocks ((record { header = header; transactions = done }) ∷ [])))
    ∙ (passed (is_known_txid (with_part h header done) (txid_of t)) TxidRepeated _ f).0)
  where
    less : (a b c : Bool) → (a || (b || c)) ≡ false → (a || b) ≡ false
    less true b c f = f
    less false true c f = f
    less false false c f = refl

unknown_in : (h : History) (header : List ℕ) (id : List ℕ) (done txs : List Tx) → transactions_denial h header done txs ≡ None → list_any (λ (t : Tx). bytes_eq (txid_of t) id) txs ≡ true → is_known_txid h id ≡ false
unknown_in h header id done [] e at = absurd (true≢false (sym at))
unknown_in h header id done (t ∷ txs) e at =
    let parts = neither (transaction_denial h header done t) (transactions_denial h header (done ++ t ∷ []) txs) (sym (denial_more h header done t txs) ∙ e) in
    or_cases (bytes_eq (txid_of t) id) (list_any (λ (t : Tx). bytes_eq (txid_of t) id) txs) (is_known_txid h id ≡ false) at
    (λ here. ap (is_known_txid h) (sym (bytes_same (txid_of t) id here)) ∙ fresh h header done t parts.0)
    (λ later. unknown_in h header id (done ++ t ∷ []) txs parts.1 later)

-- what is known stays known under more blocks
known_under : (h : History) (a b : List Block) (id : List ℕ) → is_known_txid (with_only h a) id ≡ true → is_known_txid (with_only h (a ++ b)) id ≡ true
unfolding is_known_txid
known_under h a b id e =
    ap (λ t. has_txid id h.coins || t) (list_any-append (has_transaction id) a b)
    ∙ by (has_txid id h.coins) (list_any (has_transaction id) a) (list_any (has_transaction id) b) e
  where
    by : (x y z : Bool) → (x || y) ≡ true → (x || (y || z)) ≡ true
    by true y z f = refl
    by false true z f = refl
    by false false z f = absurd (true≢false (sym f))

-- what fails of each block fails of all
none_of : (P : Block → Bool) (bs : List Block) → ((before after : List Block) (b : Block) → bs ≡ before ++ b ∷ after → P b ≡ false) → list_any P bs ≡ false
none_of P [] each = refl
none_of P (b ∷ bs) each = (λ j. each [] bs b refl j || none_of P bs (λ before after x e. each (b ∷ before) after x (ap (λ l. b ∷ l) e)) j)

nowhere : (b : Bool) → (b ≡ true → ⊥) → b ≡ false
nowhere true f = absurd (f refl)
nowhere false f = refl

pub same_with : (q : OutPoint) → point_eq q q ≡ true
same_with q = let d : Decides (point_eq q q) (q ≡ q) = out_point_decides q q in d.1 refl

-- what transactions spend passes a test of each outpoint that they spend
none_bad : (test : OutPoint → Bool) (txs : List Tx) → ((p : OutPoint) → any_spends txs p ≡ true → test p ≡ true) → list_any (λ (t : Tx). list_any (λ (i : TxIn). not (test i.prevout)) t.inputs) txs ≡ false
none_bad test [] each = refl
none_bad test (t ∷ txs) each =
    (λ j. inputs t.inputs (λ p s. each p (or_left (spends t.inputs p) (any_spends txs p) s)) j || none_bad test txs (λ p s. each p (or_right (spends t.inputs p) (any_spends txs p) s)) j)
  where
    inputs : (is : List TxIn) → ((p : OutPoint) → spends is p ≡ true → test p ≡ true) → list_any (λ (i : TxIn). not (test i.prevout)) is ≡ false
    inputs [] all = refl
    inputs (i ∷ is) all = (λ j. not (all i.prevout (or_left (point_eq i.prevout i.prevout) (spends is i.prevout) (self i.prevout)) j) || inputs is (λ p s. all p (or_right (point_eq i.prevout p) (spends is p) s)) j)
      where
        self : (q : OutPoint) → point_eq q q ≡ true
        self q = same_with q

abbrev time_of_block : Block → ℕ
time_of_block b = header_time b.header

-- the times stay
pub times_stay : (h : History) (n : ℕ) (wanted : OutPoint → Bool) → times_of (forgotten h n wanted) ≡ times_of h
times_stay h n wanted =
    append_assoc h.times (map time_of_block (take n h.blocks)) (map time_of_block (drop n h.blocks))
    ∙ ap (λ l. h.times ++ l) (sym (map-append time_of_block (take n h.blocks) (drop n h.blocks)) ∙ ap (map time_of_block) (take-append-drop n h.blocks))

module _ (h : History) (n : ℕ) (wanted : OutPoint → Bool) (fine : AreConnected h) where
  abbrev pub front : List Block
  front = take n h.blocks

  abbrev pub back : List Block
  back = drop n h.blocks

  abbrev keep : OutPoint → Bool
  keep p = stays h n wanted p

  abbrev new : History
  new = forgotten h n wanted

  abbrev low : ℕ
  low = first_connected h

  pub split : h.blocks ≡ front ++ back
  split = sym (take-append-drop n h.blocks)

  above : (before after : List Block) (b : Block) → back ≡ before ++ b ∷ after → transactions_denial (with_only h (front ++ before)) b.header [] b.transactions ≡ None
  above before after b is = fine (front ++ before) after b (split ∙ ap (λ l. front ++ l) is ∙ sym (append_assoc front before (b ∷ after)))

  -- what is known below no block above has
  not_above : (id : List ℕ) → is_known_txid (with_only h front) id ≡ true → list_any (has_transaction id) back ≡ false
  not_above id known = none_of (has_transaction id) back (λ before after b is. nowhere (has_transaction id b) (λ at.
      true≢false (sym (known_under h front before id known) ∙ unknown_in (with_only h (front ++ before)) b.header id [] b.transactions (above before after b is) at)))

  -- what the lowest blocks spend no block above spends again
  pub once_spent : (p : OutPoint) → is_spent_in_any p front ≡ true → is_spent_in_any p back ≡ false
  once_spent p e = none_of (is_spent_in p) back (λ before after b is. nowhere (is_spent_in p b) (λ at.
      true≢false (sym (list_any-append (is_spent_in p) front before ∙ or_left (is_spent_in_any p front) (list_any (is_spent_in p) before) e)
      ∙ once (with_only h (front ++ before)) b.header b.transactions (above before after b is) p at)))

  pub none_above : (p : OutPoint) → is_known_txid (with_only h front) p.txid ≡ true → (height : ℕ) → coin_of_blocks height back p ≡ None
  none_above p known height = by (coin_of_blocks height back p) refl
    where
      by : (x : Option Coin) → coin_of_blocks height back p ≡ x → x ≡ None
      by None f = refl
      by (Some x) f = absurd (true≢false (sym (blocks_known height back p (ap is_some f)) ∙ not_above p.txid known))

  pub spent_known : (p : OutPoint) → is_spent_in_any p front ≡ true → is_known_txid (with_only h front) p.txid ≡ true
  spent_known p e = made_known_all (with_only h front) p ((all_made_there (with_only h front) (connected_front h front back split fine)).made p e)

  -- the coin that the opening has now
  opening_kept : (p : OutPoint) → opening_coin_of new.coins p ≡ (if keep p then option_or (opening_coin_of h.coins p) (coin_of_blocks low front p) else None)
  opening_kept p =
      sym (opening_made new.coins p) ∙ ap (lookup (point_eq p)) (entries_kept keep (opening_with h n)) ∙ lookup_kept keep (map opening_entry (opening_with h n)) p
      ∙ ap (λ o. if keep p then o else None)
      (ap (lookup (point_eq p)) (map-append opening_entry h.coins (opening_coins (made_by_blocks low front)) ∙ ap (λ l. map opening_entry h.coins ++ l) (entries_back (made_by_blocks low front)))
      ∙ lookup-append (point_eq p) (map opening_entry h.coins) (made_by_blocks low front)
      ∙ (λ j. option_or (opening_made h.coins p j) (blocks_made low front p j)))

  pub next_low : first_connected new ≡ low + length front
  next_low =
      let a = length-append h.times (map (λ (b : Block). header_time b.header) front) in
      let b = length-map front (λ (b : Block). header_time b.header) in
      omega arith

  blocks_both : (others : List Block) (p : OutPoint) → coin_of_blocks low (front ++ others) p ≡ option_or (coin_of_blocks low front p) (coin_of_blocks (low + length front) others p)
  blocks_both others p =
      sym (blocks_made low (front ++ others) p) ∙ ap (lookup (point_eq p)) (blocks_append low front others)
      ∙ lookup-append (point_eq p) (made_by_blocks low front) (made_by_blocks (low + length front) others)
      ∙ (λ j. option_or (blocks_made low front p j) (blocks_made (low + length front) others p j))

  abbrev found_before : List Block → OutPoint → Option Coin
  found_before others p = option_or (opening_coin_of h.coins p) (coin_of_blocks low (front ++ others) p)

  abbrev found_now : List Block → OutPoint → Option Coin
  found_now others p = option_or (opening_coin_of new.coins p) (coin_of_blocks (first_connected new) others p)

  -- a coin that is kept is found as before
  kept_same : (others : List Block) (p : OutPoint) → keep p ≡ true → found_now others p ≡ found_before others p
  kept_same others p e =
      (λ j. option_or ((opening_kept p ∙ ap (λ b. if b then option_or (opening_coin_of h.coins p) (coin_of_blocks low front p) else None) e) j) (coin_of_blocks (next_low j) others p))
      ∙ or_assoc (opening_coin_of h.coins p) (coin_of_blocks low front p) (coin_of_blocks (low + length front) others p)
      ∙ ap (option_or (opening_coin_of h.coins p)) (sym (blocks_both others p))

  -- and so is one that was not made below
  new_same : (others : List Block) (p : OutPoint) → is_known_txid (with_only h front) p.txid ≡ false → found_now others p ≡ found_before others p
  new_same others p unknown =
      (λ j. option_or ((opening_kept p ∙ nothing (keep p)) j) (coin_of_blocks (next_low j) others p))
      ∙ sym (ap (option_or (opening_coin_of h.coins p)) (blocks_both others p)
      ∙ sym (or_assoc (opening_coin_of h.coins p) (coin_of_blocks low front p) (coin_of_blocks (low + length front) others p))
      ∙ ap (λ o. option_or o (coin_of_blocks (low + length front) others p)) none)
    where
      none : option_or (opening_coin_of h.coins p) (coin_of_blocks low front p) ≡ None
      none = by (option_or (opening_coin_of h.coins p) (coin_of_blocks low front p)) refl
        where
          by : (x : Option Coin) → option_or (opening_coin_of h.coins p) (coin_of_blocks low front p) ≡ x → x ≡ None
          by None f = refl
          by (Some x) f = absurd (true≢false (sym (made_known_all (with_only h front) p (ap is_some (made_is (with_only h front) p ∙ f))) ∙ unknown))

      nothing : (b : Bool) → (if b then option_or (opening_coin_of h.coins p) (coin_of_blocks low front p) else None) ≡ None
      nothing true = none
      nothing false = refl

  coin_before : (p : OutPoint) → coin_of h p ≡ (if is_spent_in_any p front || is_spent_in_any p back then None else found_before back p)
  unfolding coin_of
  coin_before p =
      (λ j. if list_any (is_spent_in p) (split j) then None else option_or (opening_coin_of h.coins p) (coin_of_blocks low (split j) p))
      ∙ ap (λ b. if b then None else found_before back p) (list_any-append (is_spent_in p) front back)

  -- the coin at an outpoint that counts is the one that it was
  pub counted_same : (p : OutPoint) → counts h n wanted p ≡ true → coin_of new p ≡ coin_of h p
  unfolding coin_of
  counted_same p c = by (is_spent_in_any p front) refl (is_spent_in_any p back) refl ∙ sym (coin_before p)
    where
      gone : is_spent_in_any p front ≡ true → found_now back p ≡ None
      gone e =
          (λ j. option_or ((opening_kept p ∙ ap (λ b. if not b && (is_spent_in_any p back || wanted p) then option_or (opening_coin_of h.coins p) (coin_of_blocks low front p) else None) e) j)
          (none_above p (spent_known p e) (first_connected new) j))

      live : (w : Bool) → wanted p ≡ w → is_spent_in_any p front ≡ false → is_spent_in_any p back ≡ false → found_now back p ≡ found_before back p
      live true f e g = kept_same back p (λ j. not (e j) && (g j || f j))
      live false f e g = new_same back p (nowhere (is_known_txid (with_only h front) p.txid) (λ known.
          true≢false (sym c ∙ (λ j. f j || (g j || not_above p.txid known j)))))

      by : (s : Bool) → is_spent_in_any p front ≡ s → (t : Bool) → is_spent_in_any p back ≡ t
          → (if is_spent_in_any p back then None else found_now back p) ≡ (if is_spent_in_any p front || is_spent_in_any p back then None else found_before back p)
      by true e t g =
          (λ j. if once_spent p e j then None else gone e j)
          ∙ sym (ap (λ b. if b || is_spent_in_any p back then None else found_before back p) e)
      by false e true g = (λ j. if g j then None else found_now back p) ∙ sym (λ j. if e j || g j then None else found_before back p)
      by false e false g = (λ j. if g j then None else live (wanted p) refl e g j) ∙ sym (λ j. if e j || g j then None else found_before back p)

  -- nothing is known that was not known
  known_below : (others : List Block) (id : List ℕ) → is_known_txid (with_only h (front ++ others)) id ≡ false → is_known_txid (with_only new others) id ≡ false
  unfolding is_known_txid
  known_below others id e =
      let one = not_either (has_txid id h.coins) (list_any (has_transaction id) (front ++ others)) e in
      let two = not_either (list_any (has_transaction id) front) (list_any (has_transaction id) others) (sym (list_any-append (has_transaction id) front others) ∙ one.1) in
      (λ j. txid_kept id (λ c. keep c.outpoint) (opening_with h n)
      (list_any-append (λ (x : OpeningCoin). bytes_eq x.outpoint.txid id) h.coins (opening_coins (made_by_blocks low front)) ∙ (λ k. one.0 k || blocks_apart id low front two.0 k)) j || two.1 j)

  pub known_less : (id : List ℕ) → is_known_txid h id ≡ false → is_known_txid new id ≡ false
  known_less id e = known_below back id (ap (λ l. is_known_txid (with_only h l) id) (sym split) ∙ e)

  -- a coin that a block above spends is kept
  later_kept : (p : OutPoint) → is_spent_in_any p back ≡ true → keep p ≡ true
  later_kept p e = λ j. not (not_first j) && (e j || wanted p)
    where
      not_first : is_spent_in_any p front ≡ false
      not_first = nowhere (is_spent_in_any p front) (λ s. true≢false (sym e ∙ once_spent p s))

  coin_above : (others : List Block) (p : OutPoint) → is_spent_in_any p back ≡ true → coin_of (with_only new others) p ≡ coin_of (with_only h (front ++ others)) p
  unfolding coin_of
  coin_above others p e =
      λ j. if sym (list_any-append (is_spent_in p) front others ∙ ap (λ b. b || list_any (is_spent_in p) others) (nowhere (is_spent_in_any p front) (λ s. true≢false (sym e ∙ once_spent p s)))) j
      then None else kept_same others p (later_kept p e) j

  spent_later : (before after : List Block) (b : Block) → back ≡ before ++ b ∷ after → (p : OutPoint) → is_spent_in p b ≡ true → is_spent_in_any p back ≡ true
  spent_later before after b is p s =
      ap (is_spent_in_any p) is ∙ list_any-append (is_spent_in p) before (b ∷ after)
      ∙ or_right (is_spent_in_any p before) (is_spent_in p b || is_spent_in_any p after) (or_left (is_spent_in p b) (is_spent_in_any p after) s)

  abbrev part : Block → List Tx → Block
  part b done = record { header = b.header; transactions = done }

  -- the blocks above have no fault on top of the new opening
  pub connected_still : AreConnected new
  connected_still before after b is =
      denial_still (with_only h (front ++ before)) (with_only new before) b.header (λ t. false) (λ p. not (is_spent_in_any p back))
      (λ done t other e. known_below (before ++ part b done ∷ []) (txid_of t) (ap (λ l. is_known_txid (with_only h l) (txid_of t)) (sym (append_assoc front before (part b done ∷ []))) ∙ e))
      (λ done p good e. ap is_some (coin_above (before ++ part b done ∷ []) p (twice (is_spent_in_any p back) good) ∙ ap (λ l. coin_of (with_only h l) p) (sym (append_assoc front before (part b done ∷ [])))) ∙ e)
      b.transactions (none_any b.transactions) (none_bad (λ p. is_spent_in_any p back) (drop 1 b.transactions) (spent_later before after b is)) (above before after b is)
    where
      twice : (x : Bool) → not x ≡ false → x ≡ true
      twice true f = refl
      twice false f = absurd (true≢false f)

      none_any : (txs : List Tx) → list_any (λ (t : Tx). false) txs ≡ false
      none_any [] = refl
      none_any (t ∷ txs) = none_any txs

  -- no coin of the new opening stands above it
  pub heights_still : IsOpening h.first h.coins h.times → IsOpening h.first new.coins new.times
  heights_still is = record {
    some = let a = length-append h.times (map (λ (b : Block). header_time b.header) front) in let s = is.some in omega arith;
    heights = λ p. subst (IsWithin (length new.times + h.first - 1)) (sym (opening_kept p)) (by p (keep p));
  }
    where
      by : (p : OutPoint) (x : Bool) → IsWithin (length new.times + h.first - 1) (if x then option_or (opening_coin_of h.coins p) (coin_of_blocks low front p) else None)
      by p false = tt
      by p true =
          let a = next_low in
          let s = is.some in
          either (length new.times + h.first - 1) (opening_coin_of h.coins p) (coin_of_blocks low front p)
          (more (length h.times + h.first - 1) (length new.times + h.first - 1) _ (omega arith) (is.heights p))
          (blocks_within low (length new.times + h.first - 1) front p (omega arith))
