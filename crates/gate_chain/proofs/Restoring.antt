-- What the last blocks made is kept aside, and put back.
use Rattle.std.proofs.Common.{◌≡◌, ℕ, zero, suc, ◌+◌, ◌-◌, ◌<◌, ◌≤◌, Bool, true, false, ◌||◌, List, [], ◌∷◌, ◌++◌, ◌⊎◌, length, map, take, drop, get_or, Option, Some, None, is_some, refl, sym, ap, subst, ◌∙◌, inl, inr, true≢false, arith, append_assoc, length-append}
use Rattle.std.proofs.lemmas.List.{map-append, length-map, length-drop, take-append-drop, take-append-le, drop_at, take_at, take_all, drop-map, take-map}
use Rattle.std.proofs.lemmas.List.Folds.{list_any-append}
use Rattle.std.specs.List.{list_any, IsDistinct}
use Rattle.std.specs.Map.{lookup, keys_of}
use Rattle.std.specs.Option.{option_or}
use Rattle.std.specs.Str.{bytes_eq}
use Rattle.gate_tx.specs.declared.OutPoint.{OutPoint}
use Rattle.gate_tx.specs.declared.Coin.{Coin}
use Rattle.gate_tx.specs.Coins.{point_eq}
use Rattle.gate_tx.specs.Ids.{txid_of}
use Rattle.gate_chain.specs.Blocks.{Block}
use Rattle.gate_chain.specs.declared.connected.Connected.{Connected}
use Rattle.gate_chain.specs.declared.connected.Place.{Place}
use Rattle.gate_chain.specs.declared.marked.Marked.{Marked}
use Rattle.gate_chain.specs.declared.opening.OpeningCoin.{OpeningCoin}
use Rattle.gate_chain.specs.Coins.{is_spent_in}
use Rattle.gate_chain.specs.Headers.{header_time}
use Rattle.gate_chain.specs.History.{History, first_connected}
use Rattle.gate_chain.specs.Keeping.{IsOpening}
use Rattle.gate_chain.specs.Linked.{is_spent, AreMaps, IsConnected, IsLinked, history, opening_in}
use Rattle.gate_chain.specs.Lowering.{lowered}
use Rattle.gate_chain.specs.Marking.{coins_in, coin_in, coins_made, ids_of, is_marked, mark_of, made_by_all, made_by_blocks, opening_entry}
use Rattle.gate_chain.specs.Times.{times_of}
use Rattle.gate_chain.specs.Tops.{placed, place_of, IsTop}
use Rattle.gate_chain.proofs.Chains.{times_is, maps_join, header_times, relinked, recounted, opening_stays}
use Rattle.gate_chain.proofs.Growing.{spent_made, count_coins, count_ids}
use Rattle.gate_chain.proofs.Marks.{lookup-append, lookup-coins_in, coin_of_entry, marked_made}

abbrev block_of : Connected → Block
block_of c = c.block

abbrev time_of_block : Block → ℕ
time_of_block b = header_time b.header

-- what blocks make, and what others on top of them make
pub blocks_append : (height : ℕ) (a b : List Block) → made_by_blocks height (a ++ b) ≡ made_by_blocks height a ++ made_by_blocks (height + length a) b
blocks_append height [] b = ap (λ n. made_by_blocks n b) (let e : height ≡ height + 0 = omega arith in e)
blocks_append height (x ∷ a) b =
    ap (λ l. made_by_all height true x.transactions ++ l) (blocks_append (height + 1) a b)
    ∙ sym (append_assoc (made_by_all height true x.transactions) (made_by_blocks (height + 1) a) (made_by_blocks (height + 1 + length a) b))
    ∙ ap (λ n. (made_by_all height true x.transactions ++ made_by_blocks (height + 1) a) ++ made_by_blocks n b) (let e : height + 1 + length a ≡ height + length (x ∷ a) = omega arith in e)

pub ids_append : (a b : List Block) → ids_of (a ++ b) ≡ ids_of a ++ ids_of b
ids_append [] b = refl
ids_append (x ∷ a) b = ap (λ l. map txid_of x.transactions ++ l) (ids_append a b) ∙ sym (append_assoc (map txid_of x.transactions) (ids_of a) (ids_of b))

-- what the blocks above the first ones made
abbrev made_above : History → ℕ → List (OutPoint × Coin)
made_above h k = made_by_blocks (first_connected h + length (take k h.blocks)) (drop k h.blocks)

coins_split : (h : History) (k : ℕ) → coins_made h ≡ coins_made (lowered h k) ++ made_above h k
coins_split h k =
    ap (λ b. map opening_entry h.coins ++ made_by_blocks (first_connected h) b) (sym (take-append-drop k h.blocks))
    ∙ ap (λ l. map opening_entry h.coins ++ l) (blocks_append (first_connected h) (take k h.blocks) (drop k h.blocks))
    ∙ sym (append_assoc (map opening_entry h.coins) (made_by_blocks (first_connected h) (take k h.blocks)) (made_above h k))

ids_split : (h : History) (k : ℕ) → ids_of h.blocks ≡ ids_of (take k h.blocks) ++ ids_of (drop k h.blocks)
ids_split h k = ap ids_of (sym (take-append-drop k h.blocks)) ∙ ids_append (take k h.blocks) (drop k h.blocks)

spent_split : (h : History) (k : ℕ) (p : OutPoint) → is_spent h p ≡ (is_spent (lowered h k) p || list_any (is_spent_in p) (drop k h.blocks))
spent_split h k p = ap (list_any (is_spent_in p)) (sym (take-append-drop k h.blocks)) ∙ list_any-append (is_spent_in p) (take k h.blocks) (drop k h.blocks)

keys_of_coins : (es : List (OutPoint × Marked)) → keys_of (coins_in es) ≡ keys_of es
keys_of_coins [] = refl
keys_of_coins (e ∷ es) = ap (λ l. e.0 ∷ l) (keys_of_coins es)

-- blocks at their own places
placed_again : (cs : List Connected) → placed (map place_of cs) (map block_of cs) ≡ cs
placed_again [] = refl
placed_again (c ∷ cs) = ap (λ l. c ∷ l) (placed_again cs)

placed_blocks : (places : List Place) (blocks : List Block) → length places ≡ length blocks → map block_of (placed places blocks) ≡ blocks
placed_blocks [] [] e = refl
placed_blocks [] (b ∷ blocks) e = absurd (omega arith)
placed_blocks (p ∷ places) [] e = absurd (omega arith)
placed_blocks (p ∷ places) (b ∷ blocks) e = ap (λ l. b ∷ l) (placed_blocks places blocks (omega arith))

no_entry : (o : Option Marked) → coin_of_entry o ≡ None → o ≡ None
no_entry None e = refl
no_entry (Some m) e = absurd cc

-- an outpoint that is not among the first coins carries the mark of the others
marked_behind : (a b : List (OutPoint × Marked)) (p : OutPoint) → lookup (point_eq p) (coins_in a) ≡ None → is_marked (a ++ b) p ≡ is_marked b p
marked_behind a b p none =
    ap mark_of (lookup-append (point_eq p) a b
    ∙ ap (λ o. option_or o (lookup (point_eq p) b)) (no_entry (lookup (point_eq p) a) (sym (lookup-coins_in (point_eq p) a) ∙ none)))

marked_before : (a b : List (OutPoint × Marked)) (p : OutPoint) (c : Coin) → lookup (point_eq p) (coins_in a) ≡ Some c → is_marked (a ++ b) p ≡ is_marked a p
marked_before a b p c there = ap mark_of (lookup-append (point_eq p) a b) ∙ by (lookup (point_eq p) a) (sym (lookup-coins_in (point_eq p) a) ∙ there)
  where
    by : (o : Option Marked) → coin_of_entry o ≡ Some c → mark_of (option_or o (lookup (point_eq p) b)) ≡ mark_of o
    by None e = absurd cc
    by (Some m) e = refl

-- the block at a place, and those above it
pub first_at : (xs : List Connected) (k : ℕ) (c : Connected) → k < length xs → c ≡ get_or xs k c → drop k xs ≡ c ∷ drop (k + 1) xs
first_at xs k c lt e = go xs k lt e ∙ ap (λ n. c ∷ drop n xs) (let n : suc k ≡ k + 1 = omega arith in n)
  where
    go : (xs : List Connected) (k : ℕ) → k < length xs → c ≡ get_or xs k c → drop k xs ≡ c ∷ drop (suc k) xs
    go [] k lt e = absurd (omega arith)
    go (x ∷ xs) zero lt e = ap (λ y. y ∷ xs) (sym e)
    go (x ∷ xs) (suc k) lt e = go xs k (omega arith) e

pub rest_of : (xs : List Connected) (k : ℕ) → take (length xs - k) (drop k xs) ≡ drop k xs
rest_of xs k = take_all (length xs - k) (drop k xs) (let n = length-drop k xs in omega arith)

pub so_many_blocks : (start : ℕ) (coins : List OpeningCoin) (times : List ℕ) (blocks : List Connected) (whole : History) (k : ℕ) → history start coins times blocks ≡ whole → k < length whole.blocks → k < length blocks
so_many_blocks start coins times blocks whole k view lt =
    let a = ap (λ (h : History). length h.blocks) view in
    let b = length-map blocks block_of in
    omega arith

drop_front : {X : Type 0} (n : ℕ) (a b : List X) → n ≤ length a → drop n (a ++ b) ≡ drop n a ++ b
drop_front zero a b le = refl
drop_front (suc n) [] b le = absurd (omega arith)
drop_front (suc n) (x ∷ a) b le = drop_front n a b (omega arith)

-- what blocks made stands behind the opening's coins
made_behind : (h : History) → drop (length h.coins) (coins_made h) ≡ made_by_blocks (first_connected h) h.blocks
made_behind h = drop_at (map opening_entry h.coins) (made_by_blocks (first_connected h) h.blocks) (length h.coins) (length-map h.coins opening_entry)

-- what is kept aside
module _ (start : ℕ) (coins : List OpeningCoin) (opened first : ℕ) (opened_ids : List (List ℕ)) (times : List ℕ) (blocks : List Connected) (es : List (OutPoint × Marked)) (txids : List (List ℕ)) (l : IsLinked start coins opened first opened_ids times blocks es txids)
    (k : ℕ) (c : Connected) (rest : List Connected) (opens : drop k blocks ≡ c ∷ rest) where
  abbrev pub now : History
  now = history start coins (take first times) blocks

  low_is : history start coins (take first times) (take k blocks) ≡ lowered now k
  low_is = λ j. record { first = start; coins = coins; times = take first times; blocks = sym (take-map block_of k blocks) j }

  stands : IsConnected (lowered now k) c
  stands = subst (λ (h : History). IsConnected h c) low_is (l.each (take k blocks) rest c (sym (take-append-drop k blocks) ∙ ap (λ r. take k blocks ++ r) opens))

  first_coins : coins_in (take (c.coins + length coins) es) ≡ coins_made (lowered now k)
  first_coins =
      sym (take-map coin_in (c.coins + length coins) es) ∙ ap (take (c.coins + length coins)) (l.maps.coins_are ∙ coins_split now k)
      ∙ take_at (coins_made (lowered now k)) (made_above now k) (c.coins + length coins) (sym stands.coins_are)

  last_coins : coins_in (drop (c.coins + length coins) es) ≡ made_above now k
  last_coins =
      sym (drop-map coin_in (c.coins + length coins) es) ∙ ap (drop (c.coins + length coins)) (l.maps.coins_are ∙ coins_split now k)
      ∙ drop_at (coins_made (lowered now k)) (made_above now k) (c.coins + length coins) (sym stands.coins_are)

  last_ids : drop c.ids txids ≡ ids_of (drop k now.blocks)
  last_ids = ap (drop c.ids) (l.maps.txids_are ∙ ids_split now k) ∙ drop_at (ids_of (take k now.blocks)) (ids_of (drop k now.blocks)) c.ids (sym stands.ids_are)

  same_blocks : drop k now.blocks ≡ map block_of (drop k blocks)
  same_blocks = drop-map block_of k blocks

  placed_is : placed (map place_of (drop k blocks)) (drop k now.blocks) ≡ drop k blocks
  placed_is = ap (placed (map place_of (drop k blocks))) same_blocks ∙ placed_again (drop k blocks)

  marks : (p : OutPoint) → lookup (point_eq p) (coins_made (lowered now k)) ≡ None → is_marked (drop (c.coins + length coins) es) p ≡ is_spent now p
  marks p none =
      sym (marked_behind (take (c.coins + length coins) es) (drop (c.coins + length coins) es) p (ap (lookup (point_eq p)) first_coins ∙ none))
      ∙ ap (λ r. is_marked r p) (take-append-drop (c.coins + length coins) es) ∙ l.maps.marks_are p

  each : (before after : List Connected) (x : Connected) → placed (map place_of (drop k blocks)) (drop k now.blocks) ≡ before ++ x ∷ after
      → IsConnected (record { first = now.first; coins = now.coins; times = now.times; blocks = take k now.blocks ++ map (λ c. c.block) before }) x
  each before after x e =
      subst (λ (h : History). IsConnected h x) (λ j. record { first = start; coins = coins; times = take first times; blocks = (map-append block_of (take k blocks) before ∙ ap (λ r. r ++ map block_of before) (sym (take-map block_of k blocks))) j })
      (l.each (take k blocks ++ before) after x
      (sym (take-append-drop k blocks) ∙ ap (λ r. take k blocks ++ r) (sym placed_is ∙ e) ∙ sym (append_assoc (take k blocks) before (x ∷ after))))

  pub coins_within : (c.coins + length coins) ≤ length es
  coins_within =
      let a = ap length (coins_split now k) in
      let b = length-append (coins_made (lowered now k)) (made_above now k) in
      let n = count_coins now es txids l.maps in
      let s = stands.coins_are in
      omega arith

  pub ids_within : c.ids ≤ length txids
  ids_within =
      let a = ap length (ids_split now k) in
      let b = length-append (ids_of (take k now.blocks)) (ids_of (drop k now.blocks)) in
      let n = count_ids now es txids l.maps in
      let s = stands.ids_are in
      omega arith

  pub topped : (places : List Place) (es' : List (OutPoint × Marked)) (ids' : List (List ℕ)) (coin_room id_room time_room block_room : ℕ) (whole : History)
      → IsDistinct point_eq (keys_of (drop (length coins) es)) → IsDistinct bytes_eq txids → length es ≤ length coins + coin_room → length txids ≤ id_room → length times ≤ time_room → length blocks ≤ block_room
      → now ≡ whole → places ≡ map place_of (drop k blocks) → es' ≡ drop (c.coins + length coins) es → ids' ≡ drop c.ids txids
      → IsTop (record { whole = whole; kept = k }) places es' ids' coin_room id_room time_room block_room
  topped places es' ids' coin_room id_room time_room block_room whole d d' a b t s view pe ee ie =
      subst (λ (w : History). IsTop (record { whole = w; kept = k }) places es' ids' coin_room id_room time_room block_room) view
      (subst (λ (x : List Place). IsTop (record { whole = now; kept = k }) x es' ids' coin_room id_room time_room block_room) (sym pe)
      (subst (λ (x : List (OutPoint × Marked)). IsTop (record { whole = now; kept = k }) (map place_of (drop k blocks)) x ids' coin_room id_room time_room block_room) (sym ee)
      (subst (λ (x : List (List ℕ)). IsTop (record { whole = now; kept = k }) (map place_of (drop k blocks)) (drop (c.coins + length coins) es) x coin_room id_room time_room block_room) (sym ie)
      (record {
        coins_are = ap (λ r. coins_made (lowered now k) ++ r) last_coins ∙ sym (coins_split now k);
        ids_are = ap (λ r. ids_of (take k now.blocks) ++ r) last_ids ∙ sym (ids_split now k);
        marks_are = marks;
        spent_made = spent_made now es txids l.maps;
        apart = subst (IsDistinct point_eq) (sym (keys_of_coins (drop (length coins) es))
            ∙ ap keys_of (sym (drop-map coin_in (length coins) es) ∙ ap (drop (length coins)) l.maps.coins_are ∙ made_behind now)) d;
        ids_apart = subst (IsDistinct bytes_eq) l.maps.txids_are d';
        few = let n = ap length (times_is start coins opened first opened_ids times blocks es txids l) in let f = l.few in omega arith;
        counted = length-map (drop k blocks) place_of ∙ sym (length-map (drop k blocks) block_of) ∙ ap length (sym same_blocks);
        each = each;
        coins_fit = let n = count_coins now es txids l.maps in omega arith;
        ids_fit = let n = count_ids now es txids l.maps in omega arith;
        times_fit = let n = ap length (times_is start coins opened first opened_ids times blocks es txids l) in omega arith;
        blocks_fit = let n = length-map blocks block_of in omega arith;
      }))))

-- a place in one list or in the other
split_two : (xs ys before after : List Connected) (c : Connected) → xs ++ ys ≡ before ++ c ∷ after
    → ((rest : List Connected) × (xs ≡ before ++ c ∷ rest)) ⊎ ((more : List Connected) × (before ≡ xs ++ more) × (ys ≡ more ++ c ∷ after))
split_two [] ys before after c e = inr (before, refl, e)
split_two (x ∷ xs) ys [] after c e = let same : x ≡ c = cc in inl (xs, ap (λ z. z ∷ xs) same)
split_two (x ∷ xs) ys (b ∷ before) after c e =
    let head : x ≡ b = cc in
    let tail : xs ++ ys ≡ before ++ c ∷ after = cc in
    elim (split_two xs ys before after c tail) [
      | inl r ↦ inl (r.0, λ j. head j ∷ r.1 j)
      | inr r ↦ inr (r.0, (λ j. sym head j ∷ r.1 j), r.2)
    ]

-- what was kept aside is put back
module _ (start : ℕ) (coins : List OpeningCoin) (opened first : ℕ) (opened_ids : List (List ℕ)) (times : List ℕ) (blocks : List Connected) (es : List (OutPoint × Marked)) (txids : List (List ℕ)) (l : IsLinked start coins opened first opened_ids times blocks es txids)
    (whole : History) (k : ℕ) (places : List Place) (tes : List (OutPoint × Marked)) (tids : List (List ℕ)) (coin_room id_room time_room block_room : ℕ)
    (t : IsTop (record { whole = whole; kept = k }) places tes tids coin_room id_room time_room block_room)
    (view : history start coins (take first times) blocks ≡ lowered whole k) where
  first_same : start ≡ whole.first
  first_same = ap (λ (h : History). h.first) view

  coins_same : coins ≡ whole.coins
  coins_same = ap (λ (h : History). h.coins) view

  times_same : take first times ≡ whole.times
  times_same = ap (λ (h : History). h.times) view

  blocks_same : map block_of blocks ≡ take k whole.blocks
  blocks_same = ap (λ (h : History). h.blocks) view

  low_coins : coins_in es ≡ coins_made (lowered whole k)
  low_coins = l.maps.coins_are ∙ ap coins_made view

  opening_within : length whole.coins ≤ length es
  opening_within =
      let a = ap length low_coins in
      let b = length-map es coin_in in
      let c = length-append (map opening_entry whole.coins) (made_by_blocks (first_connected whole) (take k whole.blocks)) in
      let d = length-map whole.coins opening_entry in
      omega arith

  pub coins_apart : IsDistinct point_eq (keys_of (drop (length whole.coins) es ++ tes))
  coins_apart = subst (IsDistinct point_eq)
      (ap keys_of (sym (made_behind whole) ∙ ap (drop (length whole.coins)) (sym t.coins_are ∙ ap (λ r. r ++ coins_in tes) (sym low_coins) ∙ sym (map-append coin_in es tes))
      ∙ drop-map coin_in (length whole.coins) (es ++ tes))
      ∙ keys_of_coins (drop (length whole.coins) (es ++ tes)) ∙ ap keys_of (drop_front (length whole.coins) es tes opening_within)) t.apart

  low_ids : txids ≡ ids_of (take k whole.blocks)
  low_ids = l.maps.txids_are ∙ ap (λ (h : History). ids_of h.blocks) view

  pub ids_apart : IsDistinct bytes_eq (txids ++ tids)
  ids_apart = subst (IsDistinct bytes_eq) (sym t.ids_are ∙ ap (λ r. r ++ tids) (sym low_ids)) t.ids_apart

  pub coins_fit : length es + length tes ≤ length coins + coin_room
  coins_fit =
      let n = ap length t.coins_are in
      let a = length-append (coins_made (lowered whole k)) (coins_in tes) in
      let b = ap length low_coins in
      let c = length-map es coin_in in
      let d = length-map tes coin_in in
      let e = ap (λ (l : List OpeningCoin). length l) coins_same in
      let f = t.coins_fit in
      omega arith

  pub ids_fit : length txids + length tids ≤ id_room
  ids_fit =
      let n = ap length t.ids_are in
      let a = length-append (ids_of (take k whole.blocks)) tids in
      let b = ap length low_ids in
      let f = t.ids_fit in
      omega arith

  counts : length blocks + length (drop k whole.blocks) ≡ length whole.blocks
  counts =
      let a = ap length blocks_same in
      let b = length-map blocks block_of in
      let c = ap length (take-append-drop k whole.blocks) in
      let d = length-append (take k whole.blocks) (drop k whole.blocks) in
      omega arith

  pub blocks_fit : length blocks + length (drop k whole.blocks) ≤ block_room
  blocks_fit = let n = counts in let f = t.blocks_fit in omega arith

  pub times_count : length times + length (drop k whole.blocks) ≡ length (times_of whole)
  times_count =
      let a = ap length l.times_are in
      let b = length-append (take first times) (header_times blocks) in
      let c = length-map blocks (λ (c : Connected). header_time c.block.header) in
      let d = ap length times_same in
      let e = length-append whole.times (map time_of_block whole.blocks) in
      let f = length-map whole.blocks time_of_block in
      let n = counts in
      omega arith

  pub times_fit : length times + length (drop k whole.blocks) ≤ time_room
  times_fit = let n = times_count in let f = t.times_fit in omega arith

  -- the maps
  module _ (es2 : List (OutPoint × Marked)) (txids' : List (List ℕ)) (same : coins_in es2 ≡ coins_in (es ++ tes)) (ids_is : txids' ≡ txids ++ tids)
      (marks : (p : OutPoint) → is_some (lookup (point_eq p) (coins_in (es ++ tes))) ≡ true → is_marked es2 p ≡ (list_any (is_spent_in p) (drop k whole.blocks) || is_marked (es ++ tes) p)) where
    all_coins : coins_in es2 ≡ coins_made whole
    all_coins = same ∙ map-append coin_in es tes ∙ ap (λ r. r ++ coins_in tes) low_coins ∙ t.coins_are

    swap : (a b : Bool) → (a || b) ≡ (b || a)
    swap true true = refl
    swap true false = refl
    swap false true = refl
    swap false false = refl

    again : (a b : Bool) → (a || (b || a)) ≡ (b || a)
    again true true = refl
    again true false = refl
    again false b = refl

    first_or_last : (p : OutPoint) (o : Option Coin) → lookup (point_eq p) (coins_made (lowered whole k)) ≡ o → (list_any (is_spent_in p) (drop k whole.blocks) || is_marked (es ++ tes) p) ≡ is_spent whole p
    first_or_last p None none =
        ap (λ b. list_any (is_spent_in p) (drop k whole.blocks) || b) (marked_behind es tes p (ap (lookup (point_eq p)) low_coins ∙ none) ∙ t.marks_are p none ∙ spent_split whole k p)
        ∙ again (list_any (is_spent_in p) (drop k whole.blocks)) (is_spent (lowered whole k) p) ∙ sym (spent_split whole k p)
    first_or_last p (Some c) there =
        ap (λ b. list_any (is_spent_in p) (drop k whole.blocks) || b) (marked_before es tes p c (ap (lookup (point_eq p)) low_coins ∙ there) ∙ l.maps.marks_are p ∙ ap (λ (h : History). is_spent h p) view)
        ∙ swap (list_any (is_spent_in p) (drop k whole.blocks)) (is_spent (lowered whole k) p) ∙ sym (spent_split whole k p)

    not_marked : (p : OutPoint) (b : Bool) → is_marked es2 p ≡ b → is_some (lookup (point_eq p) (coins_in es2)) ≡ false → b ≡ false
    not_marked p true f g = absurd (true≢false (sym (marked_made es2 p f) ∙ g))
    not_marked p false f g = refl

    not_spent : (p : OutPoint) (b : Bool) → is_spent whole p ≡ b → is_some (lookup (point_eq p) (coins_in es2)) ≡ false → b ≡ false
    not_spent p true f g = absurd (true≢false (sym (t.spent_made.made p f) ∙ ap (λ r. is_some (lookup (point_eq p) r)) (sym all_coins) ∙ g))
    not_spent p false f g = refl

    by : (p : OutPoint) (b : Bool) → is_some (lookup (point_eq p) (coins_in es2)) ≡ b → is_marked es2 p ≡ is_spent whole p
    by p true there = marks p (ap (λ r. is_some (lookup (point_eq p) r)) (sym same) ∙ there) ∙ first_or_last p (lookup (point_eq p) (coins_made (lowered whole k))) refl
    by p false gone = not_marked p (is_marked es2 p) refl gone ∙ sym (not_spent p (is_spent whole p) refl gone)

    all_maps : AreMaps whole es2 txids'
    all_maps = record {
      coins_are = all_coins;
      marks_are = λ p. by p (is_some (lookup (point_eq p) (coins_in es2))) refl;
      txids_are = ids_is ∙ ap (λ r. r ++ tids) low_ids ∙ t.ids_are;
    }

    -- and the rest
    module _ (times' : List ℕ) (blocks' : List Connected) (te : times' ≡ times ++ map time_of_block (drop k whole.blocks)) (be : blocks' ≡ blocks ++ placed places (drop k whole.blocks)) where
      top_blocks : map block_of (placed places (drop k whole.blocks)) ≡ drop k whole.blocks
      top_blocks = placed_blocks places (drop k whole.blocks) t.counted

      opening_times : take first times' ≡ take first times
      opening_times = ap (take first) te ∙ take-append-le first times (map time_of_block (drop k whole.blocks)) l.within

      whole_blocks : map block_of blocks' ≡ whole.blocks
      whole_blocks =
          ap (map block_of) be ∙ map-append block_of blocks (placed places (drop k whole.blocks))
          ∙ (λ j. blocks_same j ++ top_blocks j) ∙ take-append-drop k whole.blocks

      whole_is : history start coins (take first times') blocks' ≡ whole
      whole_is = λ j. record { first = first_same j; coins = coins_same j; times = (opening_times ∙ times_same) j; blocks = whole_blocks j }

      all_times : times' ≡ take first times' ++ header_times blocks'
      all_times =
          te ∙ ap (λ r. r ++ map time_of_block (drop k whole.blocks)) l.times_are
          ∙ append_assoc (take first times) (header_times blocks) (map time_of_block (drop k whole.blocks))
          ∙ (λ j. sym opening_times j ++ (ap (λ r. header_times blocks ++ r) (ap (map time_of_block) (sym top_blocks) ∙ maps_join (placed places (drop k whole.blocks)))
          ∙ sym (map-append (λ (c : Connected). header_time c.block.header) blocks (placed places (drop k whole.blocks))) ∙ ap header_times (sym be)) j)

      linked_all : IsLinked start coins opened first opened_ids times' blocks' es2 txids'
      linked_all = record {
        opening = subst (IsOpening start coins) (sym opening_times) l.opening;
        opened_is = l.opened_is;
        opened_ids_are = l.opened_ids_are;
        times_are = all_times;
        within = let n = ap length te in let a = length-append times (map time_of_block (drop k whole.blocks)) in let w = l.within in omega arith;
        few = let n = ap length te in let a = length-append times (map time_of_block (drop k whole.blocks)) in let b = length-map (drop k whole.blocks) time_of_block in let c = times_count in let f = t.few in let s = first_same in omega arith;
        maps = subst (λ (h : History). AreMaps h es2 txids') (sym whole_is) all_maps;
        each = λ before after c e. elim (split_two blocks (placed places (drop k whole.blocks)) before after c (sym be ∙ e)) [
          | inl r ↦ subst (λ x. IsConnected (history start coins x before) c) (sym opening_times) (l.each before r.0 c r.1)
          | inr r ↦ subst (λ (h : History). IsConnected h c)
              (λ j. record { first = sym first_same j; coins = sym coins_same j; times = (sym times_same ∙ sym opening_times) j; blocks = (ap (λ x. x ++ map block_of r.0) (sym blocks_same) ∙ sym (map-append block_of blocks r.0) ∙ ap (map block_of) (sym r.1)) j })
              (t.each r.0 after c r.2)
        ];
      }

      pub restored : (opened' : ℕ) → opened' ≡ opened → IsLinked start (opening_in opened' es2) opened' first opened_ids times' blocks' es2 txids' × (history start (opening_in opened' es2) (take first times') blocks' ≡ whole)
      restored opened' oe = recounted start opened opened' first opened_ids times' blocks' es2 txids' whole oe (
        relinked start coins opened first opened_ids times' blocks' es2 txids' linked_all,
        (λ j. history start (opening_stays start coins opened first opened_ids times' blocks' es2 txids' linked_all j) (take first times') blocks') ∙ whole_is,
      )
