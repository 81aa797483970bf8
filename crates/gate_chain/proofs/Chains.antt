-- A chain's fields as blocks come and go.
use Rattle.std.proofs.Common.{Ok, ◌≡◌, ℕ, ◌+◌, ◌-◌, ◌<◌, ◌≤◌, nat_le, Bool, true, false, List, [], ◌∷◌, ◌++◌, ◌⊎◌, length, map, take, Option, Some, None, if◌then◌else◌, refl, sym, ap, subst, ◌∙◌, inl, inr, arith, append-nil, append_assoc, length-append, zero, suc}
use Rattle.std.proofs.lemmas.List.{map-append, length-map, take_all, take-append-le}
use Rattle.std.proofs.lemmas.Bool.Decides.{nat_tests}
use Rattle.std.specs.List.{list_any}
use Rattle.gate_tx.specs.declared.OutPoint.{OutPoint}
use Rattle.gate_chain.specs.Blocks.{Block}
use Rattle.gate_chain.specs.declared.connected.Connected.{Connected}
use Rattle.gate_rules.specs.declared.ChainDenial.{ChainDenial}
use Rattle.gate_chain.specs.declared.fault.ChainFault.{ChainFault}
use Rattle.gate_rules.specs.declared.ChainDenial.TheVariants.{ChainFull, NoUndo}
use Rattle.gate_bytes.proofs.OrderLemmas.{found_in_first, found_in_second}
use Rattle.gate_chain.specs.declared.opening.OpeningCoin.{OpeningCoin}
use Rattle.gate_chain.specs.Coins.{has_txid}
use Rattle.gate_chain.specs.Connecting.{Tells, grown, block_rules, head_rules, transactions_rules, head_denial, block_denial, undo_denial, transactions_denial}
use Rattle.gate_chain.specs.Headers.{header_time}
use Rattle.gate_chain.specs.History.{History}
use Rattle.gate_chain.specs.Keeping.{IsFaultless, IsOpening, opening_coins, opening_coin}
use Rattle.gate_chain.specs.declared.marked.Marked.{Marked}
use Rattle.gate_chain.specs.Linked.{AreMaps, Connects, IsConnected, IsLinked, Opens, history, opening_in}
use Rattle.gate_chain.specs.Marking.{coins_in, is_marked, opening_entry}
use Rattle.std.proofs.Math.Seq.{take-append_seam}
use Rattle.std.specs.Str.{bytes_eq}
use Rattle.gate_chain.specs.Times.{times_of, tip_of}
use Rattle.gate_chain.proofs.Opened.{coins_fit, heights_fit}

abbrev pub header_times : List Connected → List ℕ
header_times cs = map (λ c. header_time c.block.header) cs

pub maps_join : (cs : List Connected) → map (λ b. header_time b.header) (map (λ (c : Connected). c.block) cs) ≡ header_times cs
maps_join [] = refl
maps_join (c ∷ cs) = ap (λ l. header_time c.block.header ∷ l) (maps_join cs)

pub history_push : (start : ℕ) (coins : List OpeningCoin) (times : List ℕ) (cs : List Connected) (c : Connected) → history start coins times (cs ++ c ∷ []) ≡ grown (history start coins times cs) c.block
history_push start coins times cs c = λ j. record { first = start; coins = coins; times = times; blocks = map-append (λ (c : Connected). c.block) cs (c ∷ []) j }

pub length_first : (n : ℕ) (xs : List ℕ) → n ≤ length xs → length (take n xs) ≡ n
length_first zero xs le = refl
length_first (suc n) [] le = absurd (omega arith)
length_first (suc n) (x ∷ xs) le = let h = length_first n xs (omega arith) in omega arith

module _ (start : ℕ) (coins : List OpeningCoin) (opened first : ℕ) (ids : List (List ℕ)) (times : List ℕ) (blocks : List Connected) (unspent : List (OutPoint × Marked)) (txids : List (List ℕ)) (l : IsLinked start coins opened first ids times blocks unspent txids) where
  pub times_is : times_of (history start coins (take first times) blocks) ≡ times
  times_is = ap (λ x. take first times ++ x) (maps_join blocks) ∙ sym l.times_are

  pub tip_is : (h : History) → history start coins (take first times) blocks ≡ h → tip_of h ≡ length times + start - 1
  tip_is h view = ap tip_of (sym view) ∙ ap (λ (x : List ℕ). length x + start - 1) times_is

  pub some_times : 0 < length times
  some_times = let n = ap length times_is in let o = l.opening.some in let w = l.within in let k = length_first first times l.within in omega arith

  pub opens : Opens (history start coins (take first times) blocks) ids (length times + start)
  opens = record {
    ids_are = l.opened_ids_are;
    height_is =
        let all = ap length l.times_are in
        let both = length-append (take first times) (header_times blocks) in
        let timed = length-map blocks (λ c. header_time c.block.header) in
        let linked = length-map blocks (λ c. c.block) in
        omega arith;
  }

  -- the maps changed, and stand for the same history
  pub linked_same : (times' : List ℕ) (blocks' : List Connected) (u : List (OutPoint × Marked)) (t : List (List ℕ)) → times' ≡ times → blocks' ≡ blocks
      → AreMaps (history start coins (take first times) blocks) u t → IsLinked start coins opened first ids times' blocks' u t
  linked_same times' blocks' u t te be m =
      subst (λ x. IsLinked start coins opened first ids x blocks' u t) (sym te) (subst (λ x. IsLinked start coins opened first ids times x u t) (sym be)
      (record { opening = l.opening; opened_is = l.opened_is; opened_ids_are = l.opened_ids_are; times_are = l.times_are; within = l.within; few = l.few; maps = m; each = l.each }))

  split : (xs : List Connected) (x : Connected) (before after : List Connected) (k : Connected) → xs ++ x ∷ [] ≡ before ++ k ∷ after
      → ((before ≡ xs) × (k ≡ x)) ⊎ ((rest : List Connected) × (xs ≡ before ++ k ∷ rest))
  split [] x [] after k e = let same : x ≡ k = cc in inl (refl, sym same)
  split [] x (b ∷ []) after k e = absurd (cc)
  split [] x (b ∷ c ∷ bs) after k e = absurd (cc)
  split (y ∷ ys) x [] after k e = let same : y ≡ k = cc in inr (ys, ap (λ z. z ∷ ys) same)
  split (y ∷ ys) x (b ∷ bs) after k e =
      let head : y ≡ b = cc in
      let tail : ys ++ x ∷ [] ≡ bs ++ k ∷ after = cc in
      elim (split ys x bs after k tail) [
        | inl r ↦ inl ((λ j. sym head j ∷ r.0 j), r.1)
        | inr r ↦ inr (r.0, λ j. head j ∷ r.1 j)
      ]

  pub same_first : (x : ℕ) → take first (times ++ x ∷ []) ≡ take first times
  same_first x = take-append-le first times (x ∷ []) l.within

  -- one more block is connected
  pub linked_push : (c : Connected) (times' : List ℕ) (blocks' : List Connected) (u : List (OutPoint × Marked)) (t : List (List ℕ))
      → IsConnected (history start coins (take first times) blocks) c → AreMaps (grown (history start coins (take first times) blocks) c.block) u t → length times + start ≤ 10000000
      → times' ≡ times ++ header_time c.block.header ∷ [] → blocks' ≡ blocks ++ c ∷ [] → IsLinked start coins opened first ids times' blocks' u t
  linked_push c times' blocks' u t is m few te be =
      subst (λ x. IsLinked start coins opened first ids x blocks' u t) (sym te) (subst (λ x. IsLinked start coins opened first ids (times ++ header_time c.block.header ∷ []) x u t) (sym be) (record {
        opening = subst (IsOpening start coins) (sym same) l.opening;
        opened_is = l.opened_is;
        opened_ids_are = l.opened_ids_are;
        times_are = ap (λ x. x ++ header_time c.block.header ∷ []) l.times_are ∙ append_assoc (take first times) (header_times blocks) (header_time c.block.header ∷ [])
            ∙ (λ j. sym same j ++ sym (map-append (λ c. header_time c.block.header) blocks (c ∷ [])) j);
        within = let n = length-append times (header_time c.block.header ∷ []) in let w = l.within in omega arith;
        few = let n = length-append times (header_time c.block.header ∷ []) in omega arith;
        maps = subst (λ (h : History). AreMaps h u t) (sym (history_push start coins (take first times) blocks c) ∙ ap (λ x. history start coins x (blocks ++ c ∷ [])) (sym same)) m;
        each = λ before after k e. subst (λ x. IsConnected (history start coins x before) k) (sym same) (elim (split blocks c before after k e) [
          | inl r ↦ subst (λ x. IsConnected (history start coins (take first times) x) k) (sym r.0) (subst (IsConnected (history start coins (take first times) blocks)) (sym r.1) is)
          | inr r ↦ l.each before r.0 k r.1
        ]);
      }))
    where
      same : take first (times ++ header_time c.block.header ∷ []) ≡ take first times
      same = same_first (header_time c.block.header)

-- the last block is taken off
take_front : (a : List ℕ) (x : ℕ) → take (length (a ++ x ∷ []) - 1) (a ++ x ∷ []) ≡ a
take_front a x =
    let n = length-append a (x ∷ []) in
    let m : length (a ++ x ∷ []) - 1 ≡ length a = omega arith in
    ap (λ k. take k (a ++ x ∷ [])) m ∙ take-append-le (length a) a (x ∷ []) (omega arith) ∙ take_all (length a) a (omega arith)

module _ (start : ℕ) (coins : List OpeningCoin) (opened first : ℕ) (ids : List (List ℕ)) (times times' : List ℕ) (blocks blocks' : List Connected) (c : Connected) (unspent : List (OutPoint × Marked)) (txids : List (List ℕ)) (l : IsLinked start coins opened first ids times blocks unspent txids)
    (be : blocks ≡ blocks' ++ c ∷ []) (te : times' ≡ take (length times - 1) times) where
  front : times ≡ (take first times ++ header_times blocks') ++ header_time c.block.header ∷ []
  front = l.times_are ∙ ap (λ b. take first times ++ header_times b) be ∙ ap (λ x. take first times ++ x) (map-append (λ c. header_time c.block.header) blocks' (c ∷ []))
      ∙ sym (append_assoc (take first times) (header_times blocks') (header_time c.block.header ∷ []))

  left : times' ≡ take first times ++ header_times blocks'
  left = te ∙ ap (λ x. take (length x - 1) x) front ∙ take_front (take first times ++ header_times blocks') (header_time c.block.header)

  pub same_opening : take first times' ≡ take first times
  same_opening =
      let n = length_first first times l.within in
      ap (take first) left ∙ take-append-le first (take first times) (header_times blocks') (omega arith) ∙ take_all first (take first times) (omega arith)

  pub last_is : IsConnected (history start coins (take first times) blocks') c
  last_is = l.each blocks' [] c be

  pub last_maps : AreMaps (grown (history start coins (take first times) blocks') c.block) unspent txids
  last_maps = subst (λ (h : History). AreMaps h unspent txids) (ap (history start coins (take first times)) be ∙ history_push start coins (take first times) blocks' c) l.maps

  pub linked_pop : (u : List (OutPoint × Marked)) (t : List (List ℕ)) → AreMaps (history start coins (take first times) blocks') u t → IsLinked start coins opened first ids times' blocks' u t
  linked_pop u t m = record {
    opening = subst (IsOpening start coins) (sym same_opening) l.opening;
    opened_is = l.opened_is;
    opened_ids_are = l.opened_ids_are;
    times_are = left ∙ ap (λ x. x ++ header_times blocks') (sym same_opening);
    within = let n = length_first first times l.within in let k = ap length left in let q = length-append (take first times) (header_times blocks') in omega arith;
    few = let k = ap length left in let f = ap length front in let q = length-append (take first times ++ header_times blocks') (header_time c.block.header ∷ []) in let w = l.few in omega arith;
    maps = subst (λ x. AreMaps (history start coins x blocks') u t) (sym same_opening) m;
    each = λ before after k e. subst (λ x. IsConnected (history start coins x before) k) (sym same_opening)
        (l.each before (after ++ c ∷ []) k (be ∙ ap (λ b. b ++ c ∷ []) e ∙ append_assoc before (k ∷ after) (c ∷ [])));
  }

  pub view_popped : history start coins (take first times) blocks ≡ grown (history start coins (take first times') blocks') c.block
  view_popped = ap (history start coins (take first times)) be ∙ history_push start coins (take first times) blocks' c ∙ ap (λ x. grown (history start coins x blocks') c.block) (sym same_opening)

pub linked_open : (start : ℕ) (coins : List OpeningCoin) (opened first : ℕ) (ids : List (List ℕ)) (times : List ℕ) (blocks : List Connected) (u : List (OutPoint × Marked)) (t : List (List ℕ)) → IsFaultless start coins times → first ≡ length times → blocks ≡ []
    → opened ≡ length u → opening_coins (coins_in u) ≡ coins → ((p : OutPoint) → is_marked u p ≡ false) → ((id : List ℕ) → list_any (bytes_eq id) ids ≡ has_txid id coins) → t ≡ [] → IsLinked start coins opened first ids times blocks u t
linked_open start coins opened first ids times blocks u t is fe be oe same marks known te =
    subst (λ x. IsLinked start coins opened first ids times x u t) (sym be) (subst (λ x. IsLinked start coins opened first ids times [] u x) (sym te) (record {
      opening = subst (IsOpening start coins) (sym all) (record { some = is.some; heights = λ p. heights_fit (length times + start - 1) [] coins p (coins_fit start coins times is.faultless) });
      opened_is = oe ∙ sym (length-map u (λ e. opening_coin (e.0, e.1.coin))) ∙ ap length (sym (both u)) ∙ ap length same;
      opened_ids_are = known;
      times_are = sym all ∙ sym (append-nil (take first times));
      within = omega arith;
      few = let f = is.low in omega arith;
      maps = record {
        coins_are = entries u ∙ ap (map opening_entry) same ∙ sym (append-nil (map opening_entry coins));
        marks_are = marks;
        txids_are = refl;
      };
      each = λ before after k e. none before after k e;
    }))
  where
    all : take first times ≡ times
    all = take_all first times (omega arith)

    both : (es : List (OutPoint × Marked)) → opening_coins (coins_in es) ≡ map (λ e. opening_coin (e.0, e.1.coin)) es
    both [] = refl
    both (e ∷ es) = ap (λ l. opening_coin (e.0, e.1.coin) ∷ l) (both es)

    entries : (es : List (OutPoint × Marked)) → coins_in es ≡ map opening_entry (opening_coins (coins_in es))
    entries [] = refl
    entries (e ∷ es) = ap (λ l. (e.0, e.1.coin) ∷ l) (entries es)

    none : (before after : List Connected) (k : Connected) → [] ≡ before ++ k ∷ after → IsConnected (history start coins (take first times) before) k
    none [] after k e = absurd (cc)
    none (b ∷ before) after k e = absurd (cc)

pub opening_back : (coins : List OpeningCoin) → opening_coins (map opening_entry coins) ≡ coins
opening_back [] = refl
opening_back (c ∷ coins) = ap (λ l. c ∷ l) (opening_back coins)

-- the opening's coins stand first, whatever stands behind them
pub opening_stays : (start : ℕ) (coins : List OpeningCoin) (opened first : ℕ) (ids : List (List ℕ)) (times : List ℕ) (blocks : List Connected) (u : List (OutPoint × Marked)) (t : List (List ℕ)) → IsLinked start coins opened first ids times blocks u t → opening_in opened u ≡ coins
opening_stays start coins opened first ids times blocks u t l =
    (λ j. opening_coins (take ((l.opened_is ∙ sym (length-map coins opening_entry)) j) (l.maps.coins_are j)))
    ∙ ap opening_coins (take-append_seam (map opening_entry coins) _) ∙ opening_back coins

pub relinked : (start : ℕ) (coins : List OpeningCoin) (opened first : ℕ) (ids : List (List ℕ)) (times : List ℕ) (blocks : List Connected) (u : List (OutPoint × Marked)) (t : List (List ℕ)) → IsLinked start coins opened first ids times blocks u t → IsLinked start (opening_in opened u) opened first ids times blocks u t
relinked start coins opened first ids times blocks u t l = subst (λ x. IsLinked start x opened first ids times blocks u t) (sym (opening_stays start coins opened first ids times blocks u t l)) l

-- the opening has as many coins
pub recounted : (start : ℕ) (opened opened' first : ℕ) (ids : List (List ℕ)) (times : List ℕ) (blocks : List Connected) (u : List (OutPoint × Marked)) (t : List (List ℕ)) (h : History) → opened' ≡ opened
    → IsLinked start (opening_in opened u) opened first ids times blocks u t × (history start (opening_in opened u) (take first times) blocks ≡ h)
    → IsLinked start (opening_in opened' u) opened' first ids times blocks u t × (history start (opening_in opened' u) (take first times) blocks ≡ h)
recounted start opened opened' first ids times blocks u t h e both =
    subst (λ n. IsLinked start (opening_in n u) n first ids times blocks u t × (history start (opening_in n u) (take first times) blocks ≡ h)) (sym e) both

-- the first rule of a block that fails, of its head and of its transactions
pub denial_of_head : (h : History) (b : Block) (denial : ChainDenial) → head_denial h b ≡ Some denial → block_denial h b ≡ Some denial
unfolding block_rules
denial_of_head h b denial is = found_in_first (head_rules h b) (transactions_rules h b.header [] b.transactions) denial is

pub denial_of_rest : (h : History) (b : Block) → head_denial h b ≡ None → block_denial h b ≡ transactions_denial h b.header [] b.transactions
unfolding block_rules
denial_of_rest h b is = found_in_second (head_rules h b) (transactions_rules h b.header [] b.transactions) is

pub not_full : (h : History) (b : Block) → head_denial h b ≡ None → tip_of h < 10000000
unfolding head_rules
not_full h b is = by (nat_le 10000000 (tip_of h)) refl _ is
  where
    by : (full : Bool) → nat_le 10000000 (tip_of h) ≡ full → (o : Option ChainDenial) → (if full then Some ChainFull else o) ≡ None → tip_of h < 10000000
    by true e o f = absurd (cc)
    by false e o f = grind (arith, nat_tests)

pub none_left : (h : History) → h.blocks ≡ [] → undo_denial h.blocks ≡ Some NoUndo
none_left h e = ap undo_denial e

pub one_left : (h : History) (bs : List Block) (b : Block) → h.blocks ≡ bs ++ b ∷ [] → undo_denial h.blocks ≡ None
one_left h bs b e = ap undo_denial e ∙ by bs
  where
    by : (bs : List Block) → undo_denial (bs ++ b ∷ []) ≡ None
    by [] = refl
    by (x ∷ bs) = refl

pub not_full_times : (h : History) (b : Block) (times : List ℕ) → times_of h ≡ times → head_denial h b ≡ None → length times + h.first ≤ 10000000
not_full_times h b times e is =
    let f : tip_of h < 10000000 = not_full h b is in
    let g : length times + h.first - 1 < 10000000 = subst (λ x. length x + h.first - 1 < 10000000) e f in
    omega arith

pub blocks_none : (start : ℕ) (coins : List OpeningCoin) (times : List ℕ) (cs : List Connected) (h : History) → history start coins times cs ≡ h → cs ≡ [] → h.blocks ≡ []
blocks_none start coins times cs h v e = ap (λ (x : History). x.blocks) (sym v) ∙ ap (map (λ (c : Connected). c.block)) e

pub blocks_one : (start : ℕ) (coins : List OpeningCoin) (times : List ℕ) (cs before : List Connected) (c : Connected) (h : History) → history start coins times cs ≡ h → cs ≡ before ++ c ∷ [] → h.blocks ≡ map (λ (c : Connected). c.block) before ++ c.block ∷ []
blocks_one start coins times cs before c h v e = ap (λ (x : History). x.blocks) (sym v) ∙ ap (map (λ (c : Connected). c.block)) e ∙ map-append (λ (c : Connected). c.block) before (c ∷ [])

pub no_items : {X : Type 0} (xs : List X) → length xs ≡ 0 → xs ≡ []
no_items [] e = refl
no_items (x ∷ xs) e = absurd (omega arith)

unpush : (xs ys : List Block) (x y : Block) → xs ++ x ∷ [] ≡ ys ++ y ∷ [] → (xs ≡ ys) × (x ≡ y)
unpush [] [] x y e = let same : x ≡ y = cc in (refl, same)
unpush [] (b ∷ []) x y e = absurd (cc)
unpush [] (b ∷ c ∷ ys) x y e = absurd (cc)
unpush (a ∷ []) [] x y e = absurd (cc)
unpush (a ∷ b ∷ xs) [] x y e = absurd (cc)
unpush (a ∷ xs) (b ∷ ys) x y e =
    let head : a ≡ b = cc in
    let tail : xs ++ x ∷ [] ≡ ys ++ y ∷ [] = cc in
    let r = unpush xs ys x y tail in
    ((λ j. head j ∷ r.0 j), r.1)

-- a history is known from itself with one more block
pub ungrown : (a b : History) (x y : Block) → grown a x ≡ grown b y → (b ≡ a) × (y ≡ x)
ungrown a b x y e =
    let r = unpush a.blocks b.blocks x y (ap (λ (h : History). h.blocks) e) in
    ((λ j. record { first = (sym (ap (λ (h : History). h.first) e)) j; coins = (sym (ap (λ (h : History). h.coins) e)) j; times = (sym (ap (λ (h : History). h.times) e)) j; blocks = (sym r.0) j }), sym r.1)

-- what a chain is after a block was tried, and after one was taken off
module _ (start : ℕ) (coins : List OpeningCoin) (opened first : ℕ) (ids : List (List ℕ)) (times : List ℕ) (blocks : List Connected) (u : List (OutPoint × Marked)) (t : List (List ℕ)) (l : IsLinked start coins opened first ids times blocks u t) where
  pub connected : (block : Block) (c : Connected) (times' : List ℕ) (blocks' : List Connected) (u' : List (OutPoint × Marked)) (t' : List (List ℕ)) (opened' : ℕ) → opened' ≡ opened
      → Connects (history start coins (take first times) blocks) block (Ok c) u' t' → head_denial (history start coins (take first times) blocks) block ≡ None
      → times' ≡ times ++ header_time block.header ∷ [] → blocks' ≡ blocks ++ c ∷ []
      → IsLinked start (opening_in opened' u') opened' first ids times' blocks' u' t' × (history start (opening_in opened' u') (take first times') blocks' ≡ grown (history start coins (take first times) blocks) block)
  connected block c times' blocks' u' t' opened' oe r none te be =
      let same : block ≡ c.block = sym r.0 in
      let te' : times' ≡ times ++ header_time c.block.header ∷ [] = te ∙ ap (λ (b : Block). times ++ header_time b.header ∷ []) same in
      let pushed : IsLinked start coins opened first ids times' blocks' u' t' = linked_push start coins opened first ids times blocks u t l c times' blocks' u' t' r.1
      (subst (λ (b : Block). AreMaps (grown (history start coins (take first times) blocks) b) u' t') same r.2)
      (not_full_times (history start coins (take first times) blocks) block times (times_is start coins opened first ids times blocks u t l) none) te' be in
      recounted start opened opened' first ids times' blocks' u' t' _ oe (
        relinked start coins opened first ids times' blocks' u' t' pushed,
        (λ j. history start (opening_stays start coins opened first ids times' blocks' u' t' pushed j) ((ap (take first) te ∙ same_first start coins opened first ids times blocks u t l (header_time block.header)) j) (be j))
            ∙ history_push start coins (take first times) blocks c
            ∙ ap (grown (history start coins (take first times) blocks)) r.0,
      )

  pub refused : (times' : List ℕ) (blocks' : List Connected) (u' : List (OutPoint × Marked)) (t' : List (List ℕ)) (opened' : ℕ) → opened' ≡ opened
      → AreMaps (history start coins (take first times) blocks) u' t' → times' ≡ times → blocks' ≡ blocks
      → IsLinked start (opening_in opened' u') opened' first ids times' blocks' u' t' × (history start (opening_in opened' u') (take first times') blocks' ≡ history start coins (take first times) blocks)
  refused times' blocks' u' t' opened' oe m te be =
      let same : IsLinked start coins opened first ids times' blocks' u' t' = linked_same start coins opened first ids times blocks u t l times' blocks' u' t' te be m in
      recounted start opened opened' first ids times' blocks' u' t' _ oe (
        relinked start coins opened first ids times' blocks' u' t' same,
        λ j. history start (opening_stays start coins opened first ids times' blocks' u' t' same j) (take first (te j)) (be j),
      )

  pub disconnected : (c : Connected) (times' : List ℕ) (blocks' : List Connected) (u' : List (OutPoint × Marked)) (t' : List (List ℕ)) (opened' : ℕ) → opened' ≡ opened
      → blocks ≡ blocks' ++ c ∷ [] → times' ≡ take (length times - 1) times
      → ((h : History) → IsConnected h c → opened ≡ length h.coins → AreMaps (grown h c.block) u t → AreMaps h u' t')
      → IsLinked start (opening_in opened' u') opened' first ids times' blocks' u' t' × (history start coins (take first times) blocks ≡ grown (history start (opening_in opened' u') (take first times') blocks') c.block)
  disconnected c times' blocks' u' t' opened' oe be te gone =
      let m : AreMaps (history start coins (take first times) blocks') u' t' = gone (history start coins (take first times) blocks')
      (last_is start coins opened first ids times times' blocks blocks' c u t l be te) l.opened_is (last_maps start coins opened first ids times times' blocks blocks' c u t l be te) in
      let popped : IsLinked start coins opened first ids times' blocks' u' t' = linked_pop start coins opened first ids times times' blocks blocks' c u t l be te u' t' m in
      subst (λ n. IsLinked start (opening_in n u') n first ids times' blocks' u' t' × (history start coins (take first times) blocks ≡ grown (history start (opening_in n u') (take first times') blocks') c.block)) (sym oe) (
        relinked start coins opened first ids times' blocks' u' t' popped,
        view_popped start coins opened first ids times times' blocks blocks' c u t l be te
            ∙ (λ j. grown (history start (sym (opening_stays start coins opened first ids times' blocks' u' t' popped) j) (take first times') blocks') c.block),
      )

pub told_of_rest : (h : History) (b : Block) (fault : ChainFault) → head_denial h b ≡ None → Tells fault (transactions_denial h b.header [] b.transactions) → Tells fault (block_denial h b)
told_of_rest h b fault none told = subst (Tells fault) (sym (denial_of_rest h b none)) told
