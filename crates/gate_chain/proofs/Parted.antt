-- A chain's tables once its lowest blocks became blocks of its opening.
use Rattle.std.proofs.Common.{◌≡◌, ℕ, zero, suc, ◌+◌, ◌≤◌, Bool, true, false, cond, not, ◌||◌, ◌&&◌, List, [], ◌∷◌, ◌++◌, length, map, take, drop, filter, Option, Some, None, is_some, if◌then◌else◌, refl, sym, ap, subst, ◌∙◌, true≢false, arith, append-nil, append_assoc, length-append}
use Rattle.std.proofs.lemmas.List.{map-append, length-map, take_at, drop_at, take-append-drop, take-map, drop-map}
use Rattle.std.proofs.lemmas.List.Folds.{list_any-append}
use Rattle.std.specs.List.{list_any, IsDistinct, AllByRecursion}
use Rattle.std.specs.Map.{lookup, keys_of}
use Rattle.std.specs.Option.{option_or}
use Rattle.std.specs.Str.{bytes_eq}
use Rattle.gate_tx.specs.declared.OutPoint.{OutPoint}
use Rattle.gate_tx.specs.declared.Coin.{Coin}
use Rattle.gate_tx.specs.Coins.{point_eq}
use Rattle.gate_chain.specs.Blocks.{Block}
use Rattle.gate_chain.specs.declared.connected.Connected.{Connected}
use Rattle.gate_chain.specs.declared.connected.Place.{Place}
use Rattle.gate_chain.specs.declared.marked.Marked.{Marked}
use Rattle.gate_chain.specs.declared.opening.OpeningCoin.{OpeningCoin}
use Rattle.gate_chain.specs.Coins.{coin_of_blocks, has_txid, is_known_txid, is_spent_in}
use Rattle.gate_chain.specs.Connecting.{transactions_denial}
use Rattle.gate_chain.specs.Forgetting.{dropped_coins, forgotten, is_dropped, is_spent_in_any, opening_with, stays}
use Rattle.gate_chain.specs.Founding.{AreConnected, with_only}
use Rattle.gate_chain.specs.Headers.{header_time}
use Rattle.gate_chain.specs.History.{History, first_connected}
use Rattle.gate_chain.specs.Keeping.{IsOpening, opening_coins}
use Rattle.gate_chain.specs.Linked.{IsConnected, IsLinked, history, opening_in}
use Rattle.gate_chain.specs.Marking.{coins_in, coin_in, coins_made, ids_of, is_marked, mark_of, made_by_blocks, opening_entry}
use Rattle.gate_chain.specs.Parting.{has_id, kept_of, lost_of, place_below, rebased, IsTally}
use Rattle.gate_chain.proofs.Chains.{header_times, length_first, maps_join, opening_back, opening_stays, relinked}
use Rattle.gate_chain.proofs.Forgot.{connected_still, entries_kept, heights_still, lookup_kept, next_low, none_above, once_spent, same_with, spent_known}
use Rattle.gate_chain.proofs.Founded.{all_made_there, connected_front}
use Rattle.gate_chain.proofs.Histories.{blocks_made, made_known_all}
use Rattle.gate_chain.proofs.Joined.{absent}
use Rattle.gate_chain.proofs.Learnt.{chain_firsts, chain_lasts, entries_back}
use Rattle.gate_chain.proofs.Marks.{lookup-append, lookup-coins_in, coin_of_entry, some_in}
use Rattle.gate_chain.proofs.Restoring.{blocks_append, ids_append}
use Rattle.gate_chain.proofs.TwoTables.{coins_in-both}

abbrev block_of : Connected → Block
block_of c = c.block

-- a place in a list that was mapped
unmap : {A B : Type 0} (f : A → B) (xs : List A) (before after : List B) (y : B) → map f xs ≡ before ++ y ∷ after
    → (b : List A) × (x : A) × (a : List A) × (xs ≡ b ++ x ∷ a) × (before ≡ map f b) × (y ≡ f x)
unmap f [] [] after y e = absurd (cc)
unmap f [] (z ∷ before) after y e = absurd (cc)
unmap f (x ∷ xs) [] after y e = let same : f x ≡ y = cc in ([], x, xs, refl, refl, sym same)
unmap f (x ∷ xs) (z ∷ before) after y e =
    let head : f x ≡ z = cc in
    let tail : map f xs ≡ before ++ y ∷ after = cc in
    let r = unmap f xs before after y tail in
    (x ∷ r.0, r.1, r.2, ap (λ l. x ∷ l) r.3, (λ j. sym head j ∷ r.4 j), r.5)

-- the entries that are kept, as coins
coins_kept : (keep : OutPoint → Bool) (es : List (OutPoint × Marked)) → coins_in (filter (λ (e : OutPoint × Marked). keep e.0) es) ≡ filter (λ (e : OutPoint × Coin). keep e.0) (coins_in es)
coins_kept keep [] = refl
coins_kept keep (e ∷ es) = by (keep e.0) (coins_kept keep es)
  where
    by : (b : Bool) → coins_in (filter (λ (e : OutPoint × Marked). keep e.0) es) ≡ filter (λ (e : OutPoint × Coin). keep e.0) (coins_in es)
        → coins_in (cond b (e ∷ filter (λ (e : OutPoint × Marked). keep e.0) es) (filter (λ (e : OutPoint × Marked). keep e.0) es))
        ≡ cond b (coin_in e ∷ filter (λ (e : OutPoint × Coin). keep e.0) (coins_in es)) (filter (λ (e : OutPoint × Coin). keep e.0) (coins_in es))
    by true h = ap (λ l. coin_in e ∷ l) h
    by false h = h

has_id-entries : (id : List ℕ) (es : List (OutPoint × Marked)) → has_id id es ≡ has_txid id (opening_coins (coins_in es))
has_id-entries id [] = refl
has_id-entries id (e ∷ es) = ap (λ b. bytes_eq e.0.txid id || b) (has_id-entries id es)

-- outpoints that are distinct, and in one of two lists at most
all_both : (P : OutPoint → Type 0) (a b : List (OutPoint × Marked)) → AllByRecursion P (keys_of a) → AllByRecursion P (keys_of b) → AllByRecursion P (keys_of (a ++ b))
all_both P [] b f g = g
all_both P (e ∷ a) b f g = (f.0, all_both P a b f.1 g)

no_key : (q : OutPoint) (es : List (OutPoint × Marked)) → lookup (point_eq q) es ≡ None → AllByRecursion (λ k. point_eq q k ≡ false) (keys_of es)
no_key q [] e = tt
no_key q (x ∷ es) e = by (point_eq q x.0) refl e (λ h. no_key q es h)
  where
    by : (b : Bool) → point_eq q x.0 ≡ b → cond b (Some x.1) (lookup (point_eq q) es) ≡ None → (lookup (point_eq q) es ≡ None → AllByRecursion (λ k. point_eq q k ≡ false) (keys_of es))
        → AllByRecursion (λ k. point_eq q k ≡ false) (keys_of (x ∷ es))
    by true f h rest = absurd cc
    by false f h rest = (f, rest h)

found_behind : (t : Bool) (m : Marked) (o : Option Marked) → is_some o ≡ true → is_some (cond t (Some m) o) ≡ true
found_behind true m o h = refl
found_behind false m o h = h

distinct_both : (a b : List (OutPoint × Marked)) → IsDistinct point_eq (keys_of a) → IsDistinct point_eq (keys_of b) → ((p : OutPoint) → is_some (lookup (point_eq p) a) ≡ true → lookup (point_eq p) b ≡ None) → IsDistinct point_eq (keys_of (a ++ b))
unfolding IsDistinct
distinct_both [] b d f apart = f
distinct_both (e ∷ a) b d f apart = (
  all_both (λ q. point_eq e.0 q ≡ false) a b d.0 (no_key e.0 b (apart e.0 (ap (λ t. is_some (cond t (Some e.1) (lookup (point_eq e.0) a))) (same_with e.0)))),
  distinct_both a b d.1 f (λ p h. apart p (found_behind (point_eq p e.0) e.1 (lookup (point_eq p) a) h)),
)

all_front : (P : OutPoint → Type 0) (a b : List (OutPoint × Marked)) → AllByRecursion P (keys_of (a ++ b)) → AllByRecursion P (keys_of a)
all_front P [] b all = tt
all_front P (e ∷ a) b all = (all.0, all_front P a b all.1)

distinct_front : (a b : List (OutPoint × Marked)) → IsDistinct point_eq (keys_of (a ++ b)) → IsDistinct point_eq (keys_of a)
unfolding IsDistinct
distinct_front [] b d = tt
distinct_front (e ∷ a) b d = (all_front (λ q. point_eq e.0 q ≡ false) a b d.0, distinct_front a b d.1)

-- of distinct outpoints, each entry has the mark of its outpoint
own_mark : (before : List (OutPoint × Marked)) (e : OutPoint × Marked) (after : List (OutPoint × Marked)) → IsDistinct point_eq (keys_of (before ++ e ∷ after)) → e.1.spent ≡ is_marked (before ++ e ∷ after) e.0
own_mark before e after d =
    sym (ap mark_of (lookup-append (point_eq e.0) before (e ∷ after) ∙ ap (λ o. option_or o (lookup (point_eq e.0) (e ∷ after))) (absent before e after d)
    ∙ ap (λ b. cond b (Some e.1) (lookup (point_eq e.0) after)) (same_with e.0)))

own_marks : (test : OutPoint → Bool → Bool) (before es after : List (OutPoint × Marked)) → IsDistinct point_eq (keys_of (before ++ (es ++ after)))
    → filter (λ (e : OutPoint × Marked). test e.0 e.1.spent) es ≡ filter (λ (e : OutPoint × Marked). test e.0 (is_marked (before ++ (es ++ after)) e.0)) es
own_marks test before [] after d = refl
own_marks test before (e ∷ es) after d =
    let along : (before ++ e ∷ []) ++ (es ++ after) ≡ before ++ (e ∷ (es ++ after)) = append_assoc before (e ∷ []) (es ++ after) in
    let rest : filter (λ (x : OutPoint × Marked). test x.0 x.1.spent) es ≡ filter (λ (x : OutPoint × Marked). test x.0 (is_marked (before ++ (e ∷ (es ++ after))) x.0)) es =
    own_marks test (before ++ e ∷ []) es after (subst (λ l. IsDistinct point_eq (keys_of l)) (sym along) d)
    ∙ ap (λ l. filter (λ (x : OutPoint × Marked). test x.0 (is_marked l x.0)) es) along in
    λ j. cond (test e.0 (own_mark before e (es ++ after) d j)) (e ∷ rest j) (rest j)

-- the chain
module _ (start : ℕ) (coins : List OpeningCoin) (first : ℕ) (ids : List (List ℕ)) (times : List ℕ) (blocks : List Connected) (o m : List (OutPoint × Marked)) (txids : List (List ℕ))
    (l : IsLinked start coins (length o) first ids times blocks (o ++ m) txids) where
  abbrev now : History
  now = history start coins (take first times) blocks

  pub fine : AreConnected now
  fine before after b is =
      let r = unmap block_of blocks before after b is in
      subst (λ (bs : List Block). transactions_denial (with_only now bs) b.header [] b.transactions ≡ None) (sym r.4)
      (subst (λ (k : Block). transactions_denial (history start coins (take first times) r.0) k.header [] k.transactions ≡ None) (sym r.5) (l.each r.0 r.2 r.1 r.3).faultless)

  abbrev low : ℕ
  low = first_connected now

  firsts : coins_in o ≡ map opening_entry coins
  firsts = chain_firsts start coins first ids times blocks o m txids l

  lasts : coins_in m ≡ made_by_blocks low now.blocks
  lasts = chain_lasts start coins first ids times blocks o m txids l

  -- no outpoint is in both tables
  tables_apart : (p : OutPoint) → is_some (lookup (point_eq p) o) ≡ true → lookup (point_eq p) m ≡ None
  tables_apart p there = only (lookup (point_eq p) m) (sym (lookup-coins_in (point_eq p) m) ∙ ap (lookup (point_eq p)) lasts ∙ blocks_made low now.blocks p ∙ none_above now 0 (λ q. false) fine p known low)
    where
      known : is_known_txid (with_only now []) p.txid ≡ true
      known = made_known_all (with_only now []) p
          (ap (λ es. is_some (lookup (point_eq p) es)) (append-nil (map opening_entry coins) ∙ sym firsts) ∙ sym (some_in (point_eq p) o) ∙ there)

      only : (y : Option Marked) → coin_of_entry y ≡ None → y ≡ None
      only None e = refl
      only (Some y) e = absurd cc

  tables_distinct : IsDistinct point_eq (keys_of o) → IsDistinct point_eq (keys_of m) → IsDistinct point_eq (keys_of (o ++ m))
  tables_distinct d e = distinct_both o m d e tables_apart

  -- how many coins and ids the blocks below the later ones made
  module _ (n : ℕ) (le : n ≤ length blocks) where
    abbrev lows : List Block
    lows = map block_of (take n blocks)

    abbrev all : Place
    all = record { coins = length m; ids = length txids }

    count_made : (bs : List Block) → length (coins_made (with_only now bs)) ≡ length coins + length (made_by_blocks low bs)
    count_made bs = length-append (map opening_entry coins) (made_by_blocks low bs) ∙ ap (λ k. k + length (made_by_blocks low bs)) (length-map coins opening_entry)

    place_is : (rest : List Connected) → drop n blocks ≡ rest → ((place_below rest all).coins ≡ length (made_by_blocks low lows)) × ((place_below rest all).ids ≡ length (ids_of lows))
    place_is [] none =
        let whole : take n blocks ≡ blocks = sym (append-nil (take n blocks)) ∙ ap (λ r. take n blocks ++ r) (sym none) ∙ take-append-drop n blocks in (
          sym (length-map m coin_in) ∙ ap length lasts ∙ ap (λ bs. length (made_by_blocks low (map block_of bs))) (sym whole),
          ap length l.maps.txids_are ∙ ap (λ bs. length (ids_of (map block_of bs))) (sym whole),
        )
    place_is (c ∷ rest) opens =
        let is : IsConnected (history start coins (take first times) (take n blocks)) c = l.each (take n blocks) rest c (sym (take-append-drop n blocks) ∙ ap (λ r. take n blocks ++ r) opens) in (
          (let a = is.coins_are in let b = count_made lows in omega arith),
          is.ids_are,
        )

    module _ (below : Place) (below_is : below ≡ place_below (drop n blocks) all) where
      coins_below : below.coins ≡ length (made_by_blocks low lows)
      coins_below = ap (λ (p : Place). p.coins) below_is ∙ (place_is (drop n blocks) refl).0

      ids_below : below.ids ≡ length (ids_of lows)
      ids_below = ap (λ (p : Place). p.ids) below_is ∙ (place_is (drop n blocks) refl).1

      fronts : take n now.blocks ≡ lows
      fronts = take-map block_of n blocks

      backs : drop n now.blocks ≡ map block_of (drop n blocks)
      backs = drop-map block_of n blocks

      halves : now.blocks ≡ lows ++ map block_of (drop n blocks)
      halves = sym (take-append-drop n now.blocks) ∙ (λ j. fronts j ++ backs j)

      made_both : made_by_blocks low now.blocks ≡ made_by_blocks low lows ++ made_by_blocks (low + length lows) (map block_of (drop n blocks))
      made_both = ap (made_by_blocks low) halves ∙ blocks_append low lows (map block_of (drop n blocks))

      pub coins_within : below.coins ≤ length m
      coins_within =
          let a = ap length (lasts ∙ made_both) in
          let b = length-append (made_by_blocks low lows) (made_by_blocks (low + length lows) (map block_of (drop n blocks))) in
          let c = length-map m coin_in in
          let d = coins_below in
          omega arith

      pub ids_within : below.ids ≤ length txids
      ids_within =
          let a = ap length (l.maps.txids_are ∙ ap ids_of halves ∙ ids_append lows (map block_of (drop n blocks))) in
          let b = length-append (ids_of lows) (ids_of (map block_of (drop n blocks))) in
          let d = ids_below in
          omega arith

      taken : coins_in (take below.coins m) ≡ made_by_blocks low lows
      taken = sym (take-map coin_in below.coins m) ∙ ap (take below.coins) (lasts ∙ made_both) ∙ take_at (made_by_blocks low lows) (made_by_blocks (low + length lows) (map block_of (drop n blocks))) below.coins (sym coins_below)

      dropped : coins_in (drop below.coins m) ≡ made_by_blocks (low + length lows) (map block_of (drop n blocks))
      dropped = sym (drop-map coin_in below.coins m) ∙ ap (drop below.coins) (lasts ∙ made_both) ∙ drop_at (made_by_blocks low lows) (made_by_blocks (low + length lows) (map block_of (drop n blocks))) below.coins (sym coins_below)

      pub distinct_below : IsDistinct point_eq (keys_of o) → IsDistinct point_eq (keys_of m) → IsDistinct point_eq (keys_of (o ++ take below.coins m))
      distinct_below d e = distinct_front (o ++ take below.coins m) (drop below.coins m)
          (subst (λ es. IsDistinct point_eq (keys_of es)) (sym (append_assoc o (take below.coins m) (drop below.coins m) ∙ ap (λ r. o ++ r) (take-append-drop below.coins m))) (tables_distinct d e))

      -- the first entries, as coins of the opening
      opened_are : (keep : OutPoint → Bool) → coins_in (filter (λ (e : OutPoint × Marked). keep e.0) (o ++ take below.coins m)) ≡ map opening_entry (filter (λ (c : OpeningCoin). keep c.outpoint) (opening_with now n))
      opened_are keep =
          coins_kept keep (o ++ take below.coins m)
          ∙ ap (filter (λ (e : OutPoint × Coin). keep e.0)) (coins_in-both o (take below.coins m)
          ∙ (λ j. firsts j ++ (taken ∙ ap (made_by_blocks low) (sym fronts) ∙ sym (entries_back (made_by_blocks low (take n now.blocks)))) j)
          ∙ sym (map-append opening_entry coins (opening_coins (made_by_blocks low (take n now.blocks)))))
          ∙ sym (entries_kept keep (opening_with now n))

      module _ (wanted later : OutPoint → Bool) (later_is : (p : OutPoint) → later p ≡ is_spent_in_any p (map block_of (drop n blocks)))
          (distinct : IsDistinct point_eq (keys_of o)) (distinct_made : IsDistinct point_eq (keys_of m)) where
        abbrev keep : OutPoint → Bool
        keep p = stays now n wanted p

        abbrev new : History
        new = forgotten now n wanted

        later_back : (p : OutPoint) → later p ≡ is_spent_in_any p (drop n now.blocks)
        later_back p = later_is p ∙ ap (is_spent_in_any p) (sym backs)

        spent_both : (p : OutPoint) → is_marked (o ++ m) p ≡ (is_spent_in_any p (take n now.blocks) || is_spent_in_any p (drop n now.blocks))
        spent_both p = l.maps.marks_are p ∙ ap (list_any (is_spent_in p)) (sym (take-append-drop n now.blocks)) ∙ list_any-append (is_spent_in p) (take n now.blocks) (drop n now.blocks)

        whole : (o ++ take below.coins m) ++ drop below.coins m ≡ o ++ m
        whole = append_assoc o (take below.coins m) (drop below.coins m) ∙ ap (λ r. o ++ r) (take-append-drop below.coins m)

        -- a test of entries by their own marks is one by what blocks spend
        by_spent : (test : OutPoint → Bool → Bool) → filter (λ (e : OutPoint × Marked). test e.0 e.1.spent) (o ++ take below.coins m)
            ≡ filter (λ (e : OutPoint × Marked). test e.0 (is_spent_in_any e.0 (take n now.blocks) || is_spent_in_any e.0 (drop n now.blocks))) (o ++ take below.coins m)
        by_spent test =
            own_marks test [] (o ++ take below.coins m) (drop below.coins m) (subst (λ es. IsDistinct point_eq (keys_of es)) (sym whole) (tables_distinct distinct distinct_made))
            ∙ (λ j. filter (λ (e : OutPoint × Marked). test e.0 ((ap (λ es. is_marked es e.0) whole ∙ spent_both e.0) j)) (o ++ take below.coins m))

        kept_test : (p : OutPoint) → (later p || (not (is_spent_in_any p (take n now.blocks) || is_spent_in_any p (drop n now.blocks)) && wanted p)) ≡ keep p
        kept_test p = ap (λ b. b || (not (is_spent_in_any p (take n now.blocks) || is_spent_in_any p (drop n now.blocks)) && wanted p)) (later_back p)
            ∙ by (is_spent_in_any p (take n now.blocks)) (is_spent_in_any p (drop n now.blocks)) (λ e. once_spent now n wanted fine p e)
          where
            by : (f b : Bool) → (f ≡ true → b ≡ false) → (b || (not (f || b) && wanted p)) ≡ (not f && (b || wanted p))
            by true true once = absurd (true≢false (once refl))
            by true false once = refl
            by false true once = refl
            by false false once = refl

        lost_test : (p : OutPoint) → (not (later p || (not (is_spent_in_any p (take n now.blocks) || is_spent_in_any p (drop n now.blocks)) && wanted p)) && not (is_spent_in_any p (take n now.blocks) || is_spent_in_any p (drop n now.blocks)))
            ≡ is_dropped now wanted p
        lost_test p =
            ap (λ b. not (b || (not (is_spent_in_any p (take n now.blocks) || is_spent_in_any p (drop n now.blocks)) && wanted p)) && not (is_spent_in_any p (take n now.blocks) || is_spent_in_any p (drop n now.blocks))) (later_back p)
            ∙ by (is_spent_in_any p (take n now.blocks)) (is_spent_in_any p (drop n now.blocks)) (wanted p)
            ∙ ap (λ b. not b && not (wanted p)) (sym (ap (list_any (is_spent_in p)) (sym (take-append-drop n now.blocks)) ∙ list_any-append (is_spent_in p) (take n now.blocks) (drop n now.blocks)))
          where
            by : (f b w : Bool) → (not (b || (not (f || b) && w)) && not (f || b)) ≡ (not (f || b) && not w)
            by true true w = refl
            by true false w = refl
            by false true w = refl
            by false false true = refl
            by false false false = refl

        kept_are : kept_of later wanted (o ++ take below.coins m) ≡ filter (λ (e : OutPoint × Marked). keep e.0) (o ++ take below.coins m)
        kept_are = by_spent (λ p b. later p || (not b && wanted p)) ∙ (λ j. filter (λ (e : OutPoint × Marked). kept_test e.0 j) (o ++ take below.coins m))

        -- how many coins are lost
        pub lost_count : length (lost_of later wanted (o ++ take below.coins m)) ≡ length (dropped_coins now n wanted)
        lost_count =
            ap length (by_spent (λ p b. not (later p || (not b && wanted p)) && not b) ∙ (λ j. filter (λ (e : OutPoint × Marked). lost_test e.0 j) (o ++ take below.coins m)))
            ∙ sym (length-map (filter (λ (e : OutPoint × Marked). is_dropped now wanted e.0) (o ++ take below.coins m)) coin_in)
            ∙ ap length (opened_are (is_dropped now wanted))
            ∙ length-map (dropped_coins now n wanted) opening_entry

        module _ (o' m' : List (OutPoint × Marked)) (oe : o' ≡ kept_of later wanted (o ++ take below.coins m)) (me : m' ≡ drop below.coins m) where
          opened_entries : coins_in o' ≡ map opening_entry new.coins
          opened_entries = ap coins_in (oe ∙ kept_are) ∙ opened_are keep

          next_is : first_connected new ≡ low + length lows
          next_is = next_low now n wanted fine ∙ ap (λ bs. low + length bs) fronts

          -- the marks, of an outpoint that may stand among the first entries or the last
          module _ (p : OutPoint) where
            abbrev at_first : Option Marked
            at_first = lookup (point_eq p) (o ++ take below.coins m)

            abbrev at_last : Option Marked
            at_last = lookup (point_eq p) (drop below.coins m)

            as_before : mark_of (option_or at_first at_last) ≡ (is_spent_in_any p (take n now.blocks) || is_spent_in_any p (drop n now.blocks))
            as_before = ap mark_of (sym (lookup-append (point_eq p) (o ++ take below.coins m) (drop below.coins m))) ∙ ap (λ es. is_marked es p) whole ∙ spent_both p

            no_entry : (y : Option Marked) → coin_of_entry y ≡ None → y ≡ None
            no_entry None e = refl
            no_entry (Some y) e = absurd cc

            not_last : is_known_txid (with_only now (take n now.blocks)) p.txid ≡ true → at_last ≡ None
            not_last known = no_entry at_last (sym (lookup-coins_in (point_eq p) (drop below.coins m)) ∙ ap (lookup (point_eq p)) dropped ∙ blocks_made (low + length lows) (map block_of (drop n blocks)) p
                ∙ ap (λ bs. coin_of_blocks (low + length lows) bs p) (sym backs) ∙ none_above now n wanted fine p known (low + length lows))

            first_known : is_some at_first ≡ true → is_known_txid (with_only now (take n now.blocks)) p.txid ≡ true
            first_known there = made_known_all (with_only now (take n now.blocks)) p
                (ap (λ es. is_some (lookup (point_eq p) es)) (sym (coins_in-both o (take below.coins m) ∙ (λ j. firsts j ++ (taken ∙ ap (made_by_blocks low) (sym fronts)) j)))
                ∙ sym (some_in (point_eq p) (o ++ take below.coins m)) ∙ there)

            unspent : (x : Option Marked) → at_first ≡ x → is_spent_in_any p (take n now.blocks) ≡ false → is_spent_in_any p (drop n now.blocks) ≡ false → mark_of at_last ≡ false
            unspent None f e g = sym (ap (λ x. mark_of (option_or x at_last)) f) ∙ as_before ∙ (λ j. e j || g j)
            unspent (Some x) f e g = ap mark_of (not_last (first_known (ap is_some f)))

            by_cases : (s : Bool) → is_spent_in_any p (take n now.blocks) ≡ s → (t : Bool) → is_spent_in_any p (drop n now.blocks) ≡ t → (w : Bool) → wanted p ≡ w
                → mark_of (option_or (if keep p then at_first else None) at_last) ≡ is_spent_in_any p (drop n now.blocks)
            by_cases true e t g w f =
                ap (λ b. mark_of (option_or (if not b && (is_spent_in_any p (drop n now.blocks) || wanted p) then at_first else None) at_last)) e
                ∙ ap mark_of (not_last (spent_known now n wanted fine p e)) ∙ sym (once_spent now n wanted fine p e)
            by_cases false e true g w f =
                (λ j. mark_of (option_or (if not (e j) && (g j || wanted p) then at_first else None) at_last)) ∙ as_before ∙ (λ j. e j || is_spent_in_any p (drop n now.blocks))
            by_cases false e false g true f =
                (λ j. mark_of (option_or (if not (e j) && (g j || f j) then at_first else None) at_last)) ∙ as_before ∙ (λ j. e j || is_spent_in_any p (drop n now.blocks))
            by_cases false e false g false f =
                (λ j. mark_of (option_or (if not (e j) && (g j || f j) then at_first else None) at_last)) ∙ unspent at_first refl e g ∙ sym g

            marks : is_marked (o' ++ m') p ≡ is_spent_in_any p (drop n now.blocks)
            marks =
                (λ j. is_marked ((oe ∙ kept_are) j ++ me j) p)
                ∙ ap mark_of (lookup-append (point_eq p) (filter (λ (e : OutPoint × Marked). keep e.0) (o ++ take below.coins m)) (drop below.coins m)
                ∙ ap (λ x. option_or x (lookup (point_eq p) (drop below.coins m))) (lookup_kept keep (o ++ take below.coins m) p))
                ∙ by_cases (is_spent_in_any p (take n now.blocks)) refl (is_spent_in_any p (drop n now.blocks)) refl (wanted p) refl

          -- a block that stands above
          stands : (before after : List Connected) (c : Connected) → drop n blocks ≡ before ++ c ∷ after → IsConnected (with_only new (map block_of before)) (rebased below c)
          stands before after c e = record {
            faultless = connected_still now n wanted fine (map block_of before) (map block_of after) c.block place;
            spent_made = all_made_there (with_only new (map block_of before)) (connected_front new (map block_of before) (c.block ∷ map block_of after) place (connected_still now n wanted fine));
            coins_are =
                let a = is.coins_are in
                let b = count_made (map block_of (take n blocks ++ before)) in
                let d = ap (λ bs. length (made_by_blocks low bs)) (map-append block_of (take n blocks) before) in
                let f = ap length (blocks_append low lows (map block_of before)) in
                let g = length-append (made_by_blocks low lows) (made_by_blocks (low + length lows) (map block_of before)) in
                let i = length-append (map opening_entry new.coins) (made_by_blocks (first_connected new) (map block_of before)) in
                let q = length-map new.coins opening_entry in
                let r = ap (λ k. length (made_by_blocks k (map block_of before))) next_is in
                let s = coins_below in
                omega arith;
            ids_are =
                let a = is.ids_are in
                let b = ap (λ bs. length (ids_of bs)) (map-append block_of (take n blocks) before) in
                let d = ap length (ids_append lows (map block_of before)) in
                let f = length-append (ids_of lows) (ids_of (map block_of before)) in
                let s = ids_below in
                omega arith;
          }
            where
              is : IsConnected (history start coins (take first times) (take n blocks ++ before)) c
              is = l.each (take n blocks ++ before) after c (sym (take-append-drop n blocks) ∙ ap (λ r. take n blocks ++ r) e ∙ sym (append_assoc (take n blocks) before (c ∷ after)))

              place : drop n now.blocks ≡ map block_of before ++ c.block ∷ map block_of after
              place = backs ∙ ap (map block_of) e ∙ map-append block_of before (c ∷ after)

          rebased_blocks : (cs : List Connected) → map block_of (map (rebased below) cs) ≡ map block_of cs
          rebased_blocks [] = refl
          rebased_blocks (c ∷ cs) = ap (λ r. c.block ∷ r) (rebased_blocks cs)

          rebased_times : (cs : List Connected) → header_times (map (rebased below) cs) ≡ header_times cs
          rebased_times [] = refl
          rebased_times (c ∷ cs) = ap (λ r. header_time c.block.header ∷ r) (rebased_times cs)

          new_times : new.times ≡ take first times ++ header_times (take n blocks)
          new_times = ap (λ bs. take first times ++ map (λ (b : Block). header_time b.header) bs) fronts ∙ ap (λ r. take first times ++ r) (maps_join (take n blocks))

          all_times : times ≡ new.times ++ header_times (drop n blocks)
          all_times =
              l.times_are ∙ ap (λ cs. take first times ++ header_times cs) (sym (take-append-drop n blocks))
              ∙ ap (λ r. take first times ++ r) (map-append (λ (c : Connected). header_time c.block.header) (take n blocks) (drop n blocks))
              ∙ sym (append_assoc (take first times) (header_times (take n blocks)) (header_times (drop n blocks)))
              ∙ ap (λ r. r ++ header_times (drop n blocks)) (sym new_times)

          times_count : length new.times ≡ first + n
          times_count =
              let a = ap length new_times in
              let b = length-append (take first times) (header_times (take n blocks)) in
              let c = length_first first times l.within in
              let d = length-map (take n blocks) (λ (c : Connected). header_time c.block.header) in
              let e = ap length (take-append-drop n blocks) in
              let f = taken_count n blocks le in
              omega arith
            where
              taken_count : (k : ℕ) (cs : List Connected) → k ≤ length cs → length (take k cs) ≡ k
              taken_count zero cs h = refl
              taken_count (suc k) [] h = absurd (omega arith)
              taken_count (suc k) (c ∷ cs) h = let r = taken_count k cs (omega arith) in omega arith

          low_times : take (first + n) times ≡ new.times
          low_times = ap (take (first + n)) all_times ∙ take_at new.times (header_times (drop n blocks)) (first + n) times_count

          module _ (ids' txids' : List (List ℕ)) (cs' : List Connected) (first' kept lost : ℕ) (te : txids' ≡ drop below.ids txids)
              (tally : IsTally later wanted (o ++ take below.coins m) ids' kept lost) (ce : cs' ≡ map (rebased below) (drop n blocks)) (fe : first' ≡ first + n) where
            opened_coins : opening_coins (coins_in o') ≡ new.coins
            opened_coins = ap opening_coins opened_entries ∙ opening_back new.coins

            same_blocks : map block_of cs' ≡ drop n now.blocks
            same_blocks = ap (map block_of) ce ∙ rebased_blocks (drop n blocks) ∙ sym backs

            linked_new : IsLinked start new.coins (length o') (first + n) ids' times cs' (o' ++ m') txids'
            linked_new = record {
              opening = subst (IsOpening start new.coins) (sym low_times) (heights_still now n wanted fine l.opening);
              opened_is = let a = ap length opened_entries in let b = length-map o' coin_in in let c = length-map new.coins opening_entry in omega arith;
              opened_ids_are = λ id. tally.ids_are id ∙ ap (has_id id) (sym oe) ∙ has_id-entries id o' ∙ ap (has_txid id) opened_coins;
              times_are = all_times ∙ (λ j. sym low_times j ++ (sym (rebased_times (drop n blocks)) ∙ ap header_times (sym ce)) j);
              within = let a = ap length all_times in let b = length-append new.times (header_times (drop n blocks)) in let c = times_count in omega arith;
              few = l.few;
              maps = record {
                coins_are = coins_in-both o' m'
                    ∙ (λ j. opened_entries j ++ (ap coins_in me ∙ dropped ∙ (λ i. made_by_blocks ((sym next_is ∙ ap (λ (ts : List ℕ). length ts + start) (sym low_times)) i) ((sym backs ∙ sym same_blocks) i))) j);
                marks_are = λ p. marks p ∙ ap (list_any (is_spent_in p)) (sym same_blocks);
                txids_are = te ∙ ap (drop below.ids) (l.maps.txids_are ∙ ap ids_of halves ∙ ids_append lows (map block_of (drop n blocks)))
                    ∙ drop_at (ids_of lows) (ids_of (map block_of (drop n blocks))) below.ids (sym ids_below) ∙ ap ids_of (sym backs ∙ sym same_blocks);
              };
              each = λ before after c e.
                  let r = unmap (rebased below) (drop n blocks) before after c (sym ce ∙ e) in
                  subst (λ (h : History). IsConnected h c)
                  (λ j. record { first = start; coins = new.coins; times = sym low_times j; blocks = (sym (rebased_blocks r.0) ∙ ap (map block_of) (sym r.4)) j })
                  (subst (IsConnected (with_only new (map block_of r.0))) (sym r.5) (stands r.0 r.2 r.1 r.3));
            }

            pub parted : IsLinked start (opening_in (length o') (o' ++ m')) (length o') first' ids' times cs' (o' ++ m') txids' × (history start (opening_in (length o') (o' ++ m')) (take first' times) cs' ≡ new)
            parted = subst (λ f. IsLinked start (opening_in (length o') (o' ++ m')) (length o') f ids' times cs' (o' ++ m') txids' × (history start (opening_in (length o') (o' ++ m')) (take f times) cs' ≡ new)) (sym fe) (
              relinked start new.coins (length o') (first + n) ids' times cs' (o' ++ m') txids' linked_new,
              λ j. record { first = start; coins = opening_stays start new.coins (length o') (first + n) ids' times cs' (o' ++ m') txids' linked_new j; times = low_times j; blocks = same_blocks j },
            )
