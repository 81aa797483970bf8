-- A chain whose opening has one more coin.
use Rattle.std.proofs.Common.{◌≡◌, ℕ, ◌+◌, ◌-◌, ◌≤◌, nat_lt, Bool, true, false, cond, not, ◌||◌, List, [], ◌∷◌, ◌++◌, length, map, take, drop, Option, Some, None, is_some, if◌then◌else◌, refl, sym, ap, subst, ◌∙◌, true≢false, arith, length-append}
use Rattle.std.proofs.Math.Seq.{take-append_seam}
use Rattle.std.proofs.lemmas.List.{map-append, length-map, drop_at}
use Rattle.std.proofs.lemmas.Bool.Decides.{nat_tests}
use Rattle.std.proofs.lemmas.List.Folds.{list_any-append}
use Rattle.std.specs.List.{list_any}
use Rattle.std.specs.Map.{lookup}
use Rattle.std.specs.Option.{option_or, option_map}
use Rattle.std.specs.Str.{bytes_eq}
use Rattle.gate_tx.specs.declared.OutPoint.{OutPoint}
use Rattle.gate_tx.specs.declared.TxIn.{TxIn}
use Rattle.gate_tx.specs.declared.Coin.{Coin}
use Rattle.gate_tx.specs.Coins.{point_eq, is_unspendable}
use Rattle.gate_tx.specs.Ids.{txid_of}
use Rattle.gate_tx.specs.Money.{is_money}
use Rattle.gate_tx.specs.Tx.{Tx}
use Rattle.gate_chain.specs.declared.connected.Connected.{Connected}
use Rattle.gate_chain.specs.declared.marked.Marked.{Marked}
use Rattle.gate_chain.specs.declared.opening.OpeningCoin.{OpeningCoin}
use Rattle.gate_rules.specs.declared.ChainDenial.TheVariants.{CoinValue, CoinUnspendable, CoinAboveOpening, CoinKnown}
use Rattle.gate_chain.specs.Coins.{coin_of, coin_of_blocks, opening_coin_of, has_outpoint, has_txid, has_transaction, is_known_txid}
use Rattle.gate_chain.specs.Connecting.{with_part}
use Rattle.gate_chain.specs.History.{History, first_connected}
use Rattle.gate_chain.specs.Keeping.{IsOpening, opening_coins}
use Rattle.gate_chain.specs.Learning.{learnt, learn_denial, learn_rules}
use Rattle.gate_chain.specs.Linked.{is_spent, IsConnected, IsLinked, history, opening_in}
use Rattle.gate_chain.specs.Marking.{coins_in, coin_in, coins_made, is_marked, mark_of, made_by_blocks, opening_entry, unmarked_coin}
use Rattle.gate_chain.proofs.Chains.{relinked, opening_stays}
use Rattle.gate_chain.proofs.Entries.{has_outpoint-entries}
use Rattle.gate_chain.proofs.Growing.{not_either, or_false}
use Rattle.gate_chain.proofs.Histories.{blocks_known, blocks_made, bytes_either, coin_is, ids_known, made_is, opening_made}
use Rattle.gate_chain.proofs.TwoTables.{coins_in-both}
use Rattle.gate_chain.proofs.Marks.{lookup-append, lookup-coins_in, coin_of_entry, same_point, some_in}
use Rattle.gate_chain.proofs.Heights.{IsWithin, either}
use Rattle.gate_chain.proofs.Opened.{passed}
use Rattle.gate_chain.proofs.Still.{denial_still}

-- what holds of a coin without a fault
pub record Fits (h : History) (c : OpeningCoin) : Type 0 where
  pub value : not (is_money c.coin.value) ≡ false
  pub script : is_unspendable c.coin.script ≡ false
  pub height : nat_lt (first_connected h - 1) c.coin.height ≡ false
  pub once : has_outpoint c.outpoint h.coins ≡ false
  pub apart : list_any (has_transaction c.outpoint.txid) h.blocks ≡ false

pub fits : (h : History) (c : OpeningCoin) → learn_denial h c ≡ None → Fits h c
unfolding learn_rules
fits h c e =
    let a = passed (not (is_money c.coin.value)) CoinValue _ e in
    let b = passed (is_unspendable c.coin.script) CoinUnspendable _ a.1 in
    let d = passed (nat_lt (first_connected h - 1) c.coin.height) CoinAboveOpening _ b.1 in
    let f = passed (has_outpoint c.outpoint h.coins || list_any (has_transaction c.outpoint.txid) h.blocks) CoinKnown None d.1 in
    let g = not_either (has_outpoint c.outpoint h.coins) (list_any (has_transaction c.outpoint.txid) h.blocks) f.0 in
    record { value = a.0; script = b.0; height = d.0; once = g.0; apart = g.1 }

-- the opening's coins stand first
pub opening_is : (o m : List (OutPoint × Marked)) → opening_in (length o) (o ++ m) ≡ opening_coins (coins_in o)
opening_is o m =
    ap (λ l. opening_coins (take (length o) l)) (coins_in-both o m)
    ∙ ap (λ n. opening_coins (take n (coins_in o ++ coins_in m))) (sym (length-map o coin_in))
    ∙ ap opening_coins (take-append_seam (coins_in o) (coins_in m))

pub entries_back : (es : List (OutPoint × Coin)) → map opening_entry (opening_coins es) ≡ es
entries_back [] = refl
entries_back (e ∷ es) = ap (λ l. e ∷ l) (entries_back es)

-- the coin at an outpoint, with one more in the opening
opening_more : (coins : List OpeningCoin) (c : OpeningCoin) (p : OutPoint) → opening_coin_of (coins ++ c ∷ []) p ≡ option_or (opening_coin_of coins p) (opening_coin_of (c ∷ []) p)
opening_more coins c p =
    sym (opening_made (coins ++ c ∷ []) p) ∙ ap (lookup (point_eq p)) (map-append opening_entry coins (c ∷ [])) ∙ lookup-append (point_eq p) (map opening_entry coins) (map opening_entry (c ∷ []))
    ∙ (λ j. option_or (opening_made coins p j) (opening_made (c ∷ []) p j))

-- and none stands above the opening's blocks
heights_more : (h : History) (c : OpeningCoin) → IsOpening h.first h.coins h.times → Fits h c → IsOpening h.first (h.coins ++ c ∷ []) h.times
heights_more h c is f = record {
  some = is.some;
  heights = λ p. subst (IsWithin (first_connected h - 1)) (sym (opening_more h.coins c p)) (either (first_connected h - 1) (opening_coin_of h.coins p) (opening_coin_of (c ∷ []) p) (is.heights p) (by (point_eq p c.outpoint)));
}
  where
    low : c.coin.height ≤ first_connected h - 1
    low = let g = f.height in grind (arith, nat_tests)

    by : (b : Bool) → IsWithin (first_connected h - 1) (option_map (λ (x : OpeningCoin). x.coin) (cond b (Some c) None))
    by true = low
    by false = tt

made_more : (h : History) (c : OpeningCoin) (p : OutPoint) → is_some (lookup (point_eq p) (coins_made h)) ≡ true → is_some (lookup (point_eq p) (coins_made (learnt h c))) ≡ true
made_more h c p e =
    ap is_some (made_is (learnt h c) p ∙ ap (λ o. option_or o (coin_of_blocks (first_connected h) h.blocks p)) (opening_more h.coins c p))
    ∙ by (opening_coin_of h.coins p) (opening_coin_of (c ∷ []) p) (coin_of_blocks (first_connected h) h.blocks p) (ap is_some (sym (made_is h p)) ∙ e)
  where
    by : (x y z : Option Coin) → is_some (option_or x z) ≡ true → is_some (option_or (option_or x y) z) ≡ true
    by (Some x) y z g = refl
    by None (Some y) z g = refl
    by None None z g = g

coin_more : (h : History) (c : OpeningCoin) (p : OutPoint) → is_some (coin_of h p) ≡ true → is_some (coin_of (learnt h c) p) ≡ true
coin_more h c p e = ap is_some (coin_is (learnt h c) p) ∙ by (is_spent h p) (ap is_some (sym (coin_is h p)) ∙ e)
  where
    by : (b : Bool) → is_some (if b then None else lookup (point_eq p) (coins_made h)) ≡ true → is_some (if b then None else lookup (point_eq p) (coins_made (learnt h c))) ≡ true
    by true g = absurd (true≢false (sym g))
    by false g = made_more h c p g

-- what a block's transactions are is not known from the coin
known_more : (h : History) (c : OpeningCoin) (id : List ℕ) → bytes_eq id c.outpoint.txid ≡ false → is_known_txid h id ≡ false → is_known_txid (learnt h c) id ≡ false
unfolding is_known_txid
known_more h c id other e =
    let parts = not_either (has_txid id h.coins) (list_any (has_transaction id) h.blocks) e in
    (λ j. (list_any-append (λ (x : OpeningCoin). bytes_eq x.outpoint.txid id) h.coins (c ∷ []) ∙ (λ k. parts.0 k || (swapped k || false))) j || parts.1 j)
  where
    swapped : bytes_eq c.outpoint.txid id ≡ false
    swapped = bytes_either c.outpoint.txid id ∙ other

-- the coin is no other's
pub coin_same : (h : History) (c : OpeningCoin) → Fits h c → (p : OutPoint) → is_some (coin_of h p) ≡ true → coin_of (learnt h c) p ≡ coin_of h p
coin_same h c f p e = coin_is (learnt h c) p ∙ by (is_spent h p) (ap is_some (sym (coin_is h p)) ∙ e) ∙ sym (coin_is h p)
  where
    other : (o : Option Coin) → coin_of_blocks (first_connected h) h.blocks p ≡ o → is_some o ≡ true → opening_coin_of (c ∷ []) p ≡ None
    other o is there = at (point_eq p c.outpoint) refl
      where
        at : (b : Bool) → point_eq p c.outpoint ≡ b → option_map (λ (x : OpeningCoin). x.coin) (cond b (Some c) None) ≡ None
        at true q = absurd (true≢false (sym (blocks_known (first_connected h) h.blocks p (ap is_some is ∙ there)) ∙ ap (λ (x : OutPoint). list_any (has_transaction x.txid) h.blocks) (same_point p c.outpoint q) ∙ f.apart))
        at false q = refl

    made : (x y z : Option Coin) → is_some (option_or x z) ≡ true → (is_some z ≡ true → y ≡ None) → option_or (option_or x y) z ≡ option_or x z
    made (Some x) y z g h = refl
    made None y (Some z) g h = ap (λ o. option_or o (Some z)) (h refl)
    made None y None g h = absurd (true≢false (sym g))

    by : (b : Bool) → is_some (if b then None else lookup (point_eq p) (coins_made h)) ≡ true
        → (if b then None else lookup (point_eq p) (coins_made (learnt h c))) ≡ (if b then None else lookup (point_eq p) (coins_made h))
    by true g = refl
    by false g =
        made_is (learnt h c) p ∙ ap (λ o. option_or o (coin_of_blocks (first_connected h) h.blocks p)) (opening_more h.coins c p)
        ∙ made (opening_coin_of h.coins p) (opening_coin_of (c ∷ []) p) (coin_of_blocks (first_connected h) h.blocks p) (ap is_some (sym (made_is h p)) ∙ g) (other (coin_of_blocks (first_connected h) h.blocks p) refl)
        ∙ sym (made_is h p)

-- what is known of ids that are not the coin's
pub known_same : (h : History) (c : OpeningCoin) (id : List ℕ) → bytes_eq id c.outpoint.txid ≡ false → is_known_txid (learnt h c) id ≡ is_known_txid h id
unfolding is_known_txid
known_same h c id other =
    ap (λ b. b || list_any (has_transaction id) h.blocks)
    (list_any-append (λ (x : OpeningCoin). bytes_eq x.outpoint.txid id) h.coins (c ∷ []) ∙ ap (λ b. has_txid id h.coins || (b || false)) (bytes_either c.outpoint.txid id ∙ other) ∙ or_false (has_txid id h.coins))

-- the blocks stand on the history with the coin
connected_more : (h : History) (c : OpeningCoin) (k : Connected) → has_transaction c.outpoint.txid k.block ≡ false → IsConnected h k → IsConnected (learnt h c) k
connected_more h c k apart is = record {
  faultless = denial_still h (learnt h c) k.block.header (λ t. bytes_eq (txid_of t) c.outpoint.txid) (λ p. false)
      (λ done t other e. known_more (with_part h k.block.header done) c (txid_of t) other e)
      (λ done p good e. coin_more (with_part h k.block.header done) c p e)
      k.block.transactions apart (none (drop 1 k.block.transactions)) is.faultless;
  spent_made = record { made = λ p e. made_more h c p (is.spent_made.made p e) };
  coins_are = let s = is.coins_are in let a = length-append h.coins (c ∷ []) in let b = length-append (map opening_entry h.coins) (made_by_blocks (first_connected h) h.blocks) in
      let d = length-append (map opening_entry (h.coins ++ c ∷ [])) (made_by_blocks (first_connected h) h.blocks) in let e = length-map h.coins opening_entry in let f = length-map (h.coins ++ c ∷ []) opening_entry in omega arith;
  ids_are = is.ids_are;
}
  where
    none_in : (inputs : List TxIn) → list_any (λ (i : TxIn). false) inputs ≡ false
    none_in [] = refl
    none_in (i ∷ inputs) = none_in inputs

    none : (txs : List Tx) → list_any (λ (t : Tx). list_any (λ (i : TxIn). false) t.inputs) txs ≡ false
    none [] = refl
    none (t ∷ txs) = (λ j. none_in t.inputs j || none txs j)

-- the two tables of a chain
module _ (start : ℕ) (coins : List OpeningCoin) (first : ℕ) (ids : List (List ℕ)) (times : List ℕ) (blocks : List Connected) (o m : List (OutPoint × Marked)) (txids : List (List ℕ)) (l : IsLinked start coins (length o) first ids times blocks (o ++ m) txids) where
  pub chain_firsts : coins_in o ≡ map opening_entry coins
  chain_firsts = sym (entries_back (coins_in o)) ∙ ap (map opening_entry) (sym (opening_is o m) ∙ opening_stays start coins (length o) first ids times blocks (o ++ m) txids l)

  pub chain_lasts : coins_in m ≡ made_by_blocks (length (take first times) + start) (map (λ (x : Connected). x.block) blocks)
  chain_lasts =
      sym (drop_at (coins_in o) (coins_in m) (length (coins_in o)) refl) ∙ ap (drop (length (coins_in o))) (sym (coins_in-both o m) ∙ l.maps.coins_are)
      ∙ drop_at (map opening_entry coins) (made_by_blocks (length (take first times) + start) (map (λ (x : Connected). x.block) blocks)) (length (coins_in o)) (ap length (sym chain_firsts))

-- the maps, with the coin between those of the opening and those of blocks
module _ (start : ℕ) (coins : List OpeningCoin) (first : ℕ) (ids ids' : List (List ℕ)) (times : List ℕ) (blocks : List Connected) (o m o' : List (OutPoint × Marked)) (txids : List (List ℕ)) (l : IsLinked start coins (length o) first ids times blocks (o ++ m) txids)
    (c : OpeningCoin) (f : Fits (history start coins (take first times) blocks) c) (put : o' ≡ o ++ unmarked_coin (opening_entry c) ∷ [])
    (noted : (id : List ℕ) → list_any (bytes_eq id) ids' ≡ (list_any (bytes_eq id) ids || bytes_eq c.outpoint.txid id)) where
  abbrev now : History
  now = history start coins (take first times) blocks

  coins_is : opening_coins (coins_in o) ≡ coins
  coins_is = sym (opening_is o m) ∙ opening_stays start coins (length o) first ids times blocks (o ++ m) txids l

  firsts : coins_in o ≡ map opening_entry coins
  firsts = sym (entries_back (coins_in o)) ∙ ap (map opening_entry) coins_is

  lasts : coins_in m ≡ made_by_blocks (length (take first times) + start) now.blocks
  lasts =
      sym (drop_at (coins_in o) (coins_in m) (length (coins_in o)) refl) ∙ ap (drop (length (coins_in o))) (sym (coins_in-both o m) ∙ l.maps.coins_are)
      ∙ drop_at (map opening_entry coins) (made_by_blocks (length (take first times) + start) now.blocks) (length (coins_in o)) (ap length (sym firsts))

  not_made : lookup (point_eq c.outpoint) m ≡ None
  not_made = by (lookup (point_eq c.outpoint) m) refl
    where
      by : (e : Option Marked) → lookup (point_eq c.outpoint) m ≡ e → e ≡ None
      by None is = refl
      by (Some x) is = absurd (true≢false (sym (blocks_known ((length (take first times) + start)) now.blocks c.outpoint
          (ap is_some (sym (blocks_made ((length (take first times) + start)) now.blocks c.outpoint) ∙ ap (lookup (point_eq c.outpoint)) (sym lasts) ∙ lookup-coins_in (point_eq c.outpoint) m ∙ ap coin_of_entry is))) ∙ f.apart))

  not_opened : lookup (point_eq c.outpoint) o ≡ None
  not_opened = by (lookup (point_eq c.outpoint) o) refl
    where
      by : (e : Option Marked) → lookup (point_eq c.outpoint) o ≡ e → e ≡ None
      by None is = refl
      by (Some x) is = absurd (true≢false (sym (sym (has_outpoint-entries c.outpoint (coins_in o)) ∙ sym (some_in (point_eq c.outpoint) o) ∙ ap is_some is) ∙ ap (has_outpoint c.outpoint) coins_is ∙ f.once))

  abbrev one : OutPoint × Marked
  one = unmarked_coin (opening_entry c)

  marks : (p : OutPoint) → is_marked (o' ++ m) p ≡ is_marked (o ++ m) p
  marks p =
      ap mark_of (ap (λ l. lookup (point_eq p) (l ++ m)) put ∙ lookup-append (point_eq p) (o ++ one ∷ []) m ∙ ap (λ x. option_or x (lookup (point_eq p) m)) (lookup-append (point_eq p) o (one ∷ [])))
      ∙ by (point_eq p c.outpoint) refl
      ∙ ap mark_of (sym (lookup-append (point_eq p) o m))
    where
      by : (b : Bool) → point_eq p c.outpoint ≡ b → mark_of (option_or (option_or (lookup (point_eq p) o) (cond b (Some one.1) None)) (lookup (point_eq p) m)) ≡ mark_of (option_or (lookup (point_eq p) o) (lookup (point_eq p) m))
      by true e =
          let at : p ≡ c.outpoint = same_point p c.outpoint e in
          (λ j. mark_of (option_or (option_or ((ap (λ q. lookup (point_eq q) o) at ∙ not_opened) j) (Some one.1)) (lookup (point_eq p) m)))
          ∙ (λ j. mark_of (option_or (sym (ap (λ q. lookup (point_eq q) o) at ∙ not_opened) j) (sym (ap (λ q. lookup (point_eq q) m) at ∙ not_made) j)))
      by false e = ap (λ x. mark_of (option_or x (lookup (point_eq p) m))) (right (lookup (point_eq p) o))
        where
          right : (x : Option Marked) → option_or x None ≡ x
          right None = refl
          right (Some x) = refl

  apart_in : (before after : List Connected) (k : Connected) → blocks ≡ before ++ k ∷ after → has_transaction c.outpoint.txid k.block ≡ false
  apart_in before after k e =
      (not_either (has_transaction c.outpoint.txid k.block) _ (not_either (list_any (has_transaction c.outpoint.txid) (map (λ (x : Connected). x.block) before)) _
      (sym (list_any-append (has_transaction c.outpoint.txid) (map (λ (x : Connected). x.block) before) (map (λ (x : Connected). x.block) (k ∷ after)))
      ∙ ap (list_any (has_transaction c.outpoint.txid)) (sym (ap (map (λ (x : Connected). x.block)) e ∙ map-append (λ (x : Connected). x.block) before (k ∷ after)))
      ∙ f.apart)).1).0

  linked_learnt : IsLinked start (coins ++ c ∷ []) (length o') first ids' times blocks (o' ++ m) txids
  linked_learnt = record {
    opening = heights_more now c l.opening f;
    opened_is = let a = ap length put in let b = length-append o (one ∷ []) in let d = length-append coins (c ∷ []) in let e = l.opened_is in omega arith;
    opened_ids_are = λ id. noted id ∙ ap (λ b. b || bytes_eq c.outpoint.txid id) (l.opened_ids_are id) ∙ ap (λ b. has_txid id coins || b) (sym (or_false (bytes_eq c.outpoint.txid id)))
        ∙ sym (list_any-append (λ (x : OpeningCoin). bytes_eq x.outpoint.txid id) coins (c ∷ []));
    times_are = l.times_are;
    within = l.within;
    few = l.few;
    maps = record {
      coins_are = coins_in-both o' m ∙ (λ j. (ap coins_in put ∙ coins_in-both o (one ∷ []) ∙ ap (λ r. r ++ coins_in (one ∷ [])) firsts ∙ sym (map-append opening_entry coins (c ∷ []))) j ++ lasts j);
      marks_are = λ p. marks p ∙ l.maps.marks_are p;
      txids_are = l.maps.txids_are;
    };
    each = λ before after k e. connected_more (history start coins (take first times) before) c k (apart_in before after k e) (l.each before after k e);
  }

  pub linked_learns : IsLinked start (opening_in (length o') (o' ++ m)) (length o') first ids' times blocks (o' ++ m) txids × (history start (opening_in (length o') (o' ++ m)) (take first times) blocks ≡ learnt now c)
  linked_learns = (
    relinked start (coins ++ c ∷ []) (length o') first ids' times blocks (o' ++ m) txids linked_learnt,
    λ j. history start (opening_stays start (coins ++ c ∷ []) (length o') first ids' times blocks (o' ++ m) txids linked_learnt j) (take first times) blocks,
  )

-- what the tables say of the opening's coins and of the blocks' transactions
module _ (start : ℕ) (coins : List OpeningCoin) (first : ℕ) (ids : List (List ℕ)) (times : List ℕ) (blocks : List Connected) (o m : List (OutPoint × Marked)) (txids : List (List ℕ)) (h : History)
    (l : IsLinked start coins (length o) first ids times blocks (o ++ m) txids) (view : history start coins (take first times) blocks ≡ h) where
  pub opening_has : (p : OutPoint) (found : Bool) → found ≡ is_some (lookup (point_eq p) o) → found ≡ has_outpoint p h.coins
  opening_has p found is =
      is ∙ some_in (point_eq p) o ∙ has_outpoint-entries p (coins_in o)
      ∙ ap (has_outpoint p) (sym (opening_is o m) ∙ opening_stays start coins (length o) first ids times blocks (o ++ m) txids l ∙ ap (λ (x : History). x.coins) view)

  pub blocks_have : (id : List ℕ) (found : Bool) → found ≡ list_any (bytes_eq id) txids → found ≡ list_any (has_transaction id) h.blocks
  blocks_have id found is =
      is ∙ ap (list_any (bytes_eq id)) l.maps.txids_are ∙ ids_known (map (λ (x : Connected). x.block) blocks) id
      ∙ ap (λ (x : History). list_any (has_transaction id) x.blocks) view

  pub not_opened_yet : (c : OpeningCoin) → Fits h c → lookup (point_eq c.outpoint) o ≡ None
  not_opened_yet c f = by (lookup (point_eq c.outpoint) o) refl
    where
      by : (e : Option Marked) → lookup (point_eq c.outpoint) o ≡ e → e ≡ None
      by None is = refl
      by (Some x) is = absurd (true≢false (opening_has c.outpoint true (sym (ap is_some is)) ∙ f.once))
