-- Blocks that become blocks of the opening, with what nobody needs forgotten, keep the chain settled and the pool good.
use Rattle.std.proofs.Common.{◌≡◌, ◌+◌, ◌-◌, ◌||◌, ◌&&◌, not, ℕ, Bool, true, false, List, [], ◌∷◌, ◌++◌, Contains, length, map, take, drop, Option, Some, None, refl, sym, ap, ◌∙◌, subst, ◌⊎◌, inl, inr, ⊎_elim, append_assoc, arith, length-append, if◌then◌else◌}
use Rattle.std.specs.Prelude.{IsSome, find, is_some}
use Rattle.std.specs.List.{list_any}
use Rattle.std.specs.Cmp.Lexicographic.{bytes_decides}
use Rattle.std.specs.Map.{lookup}
use Rattle.std.specs.Option.{option_map, option_or}
use Rattle.std.specs.Str.{bytes_eq}
use Rattle.std.proofs.lemmas.Bool.{true≢false, false_from_ne_true, or_cases, or_left, or_parts, or_right}
use Rattle.std.proofs.lemmas.List.{length-map, map-append, take-append-drop}
use Rattle.std.proofs.lemmas.List.Elements.{All-contains_itself, All-weaker, Contains-append_cases, Contains-append_left, Contains-append_right}
use Rattle.std.proofs.lemmas.List.Folds.{list_any-append}
use Rattle.gate_bytes.proofs.Members.{Contains-cons_cases, Contains-head, any_is, list_any_of, not_in_none}
use Rattle.gate_tx.specs.declared.Coin.{Coin}
use Rattle.gate_tx.specs.declared.OutPoint.{OutPoint}
use Rattle.gate_tx.specs.declared.TxIn.{TxIn}
use Rattle.gate_tx.specs.Coins.{point_eq, spends}
use Rattle.gate_tx.specs.Equality.{out_point_decides}
use Rattle.gate_tx.specs.Ids.{txid_of}
use Rattle.gate_tx.specs.Tx.{Tx}
use Rattle.gate_chain.specs.Blocks.{Block}
use Rattle.gate_rules.specs.declared.ChainDenial.{ChainDenial}
use Rattle.gate_chain.specs.declared.OpeningCoin.{OpeningCoin}
use Rattle.gate_chain.specs.Coins.{coin_of, coin_of_blocks, coin_of_transactions, has_transaction, has_txid, is_known_txid, is_spent_in, opening_coin_of}
use Rattle.gate_chain.specs.Forgetting.{dropped_coins, forget_denial, forgotten, opening_with, stays}
use Rattle.gate_chain.specs.Headers.{header_time}
use Rattle.gate_chain.specs.History.{History, first_connected}
use Rattle.gate_chain.specs.Keeping.{opening_coin, opening_coins}
use Rattle.gate_chain.specs.Marking.{made_by_blocks}
use Rattle.gate_chain.specs.Times.{times_of, tip_of}
use Rattle.gate_chain.proofs.Histories.{made_is}
use Rattle.gate_submission.specs.Blocks.{transactions_of}
use Rattle.gate_pool.specs.Pool.{Admitted, spends_of, spent_by}
use Rattle.gate_pool.proofs.Entries.{Contains-from_map}
use Rattle.gate_pool.proofs.Walking.{Contains-from_filter}
use Rattle.gate_rbf.proofs.Conflicting.{is_some-find}
use Rattle.gate_admit.specs.Coins.{pool_coin, view_coin}
use Rattle.gate_admit.specs.Good.{IsGood, IsSettled, Limits, SpendsCoins, chain_up_to, coin_made_at, connected_transactions}
use Rattle.gate_admit.proofs.Coining.{known_blocks, known_if_made}
use Rattle.gate_admit.proofs.Filtering.{find-filter_same}
use Rattle.gate_reorg.proofs.Knowing.{Contains-from_flat_map, Contains-last_blocks, known_opened}
use Rattle.gate_reorg.proofs.Spent.{some_more}
use Rattle.gate_admit.specs.Verdicts.{VerdictTable}
use Rattle.gate_message.specs.declared.reply.Reply.TheVariants.{Forgotten, Refused}
use Rattle.gate_core.specs.ChainSteps.{forget_step, forgetting, forgotten_as, is_spent_by_some}
use Rattle.gate_core.specs.Good.{IsGoodWorld, limits_of, transactions_in}
use Rattle.gate_core.specs.World.{World}
use Rattle.gate_core.proofs.Learning.{opening_append}

-- ---- coins that blocks made

-- a map of coins at outpoints as coins of an opening
opening_lookup : (es : List (OutPoint × Coin)) (p : OutPoint) → opening_coin_of (opening_coins es) p ≡ lookup (point_eq p) es
opening_lookup [] p = refl
opening_lookup (e ∷ es) p = by (point_eq p e.0) (opening_lookup es p)
  where
    by : (b : Bool) → opening_coin_of (opening_coins es) p ≡ lookup (point_eq p) es
        → option_map (λ (c : OpeningCoin). c.coin) (if b then Some (opening_coin e) else find (λ (c : OpeningCoin). point_eq p c.outpoint) (opening_coins es)) ≡ (if b then Some e.1 else lookup (point_eq p) es)
    by true rest = refl
    by false rest = rest

-- the coins that blocks of a history would make above its opening
made_lookup : (h : History) (blocks : List Block) (p : OutPoint) → lookup (point_eq p) (made_by_blocks (first_connected h) blocks) ≡ coin_of_blocks (first_connected h) blocks p
made_lookup h blocks p = made_is (record { first = h.first; coins = []; times = h.times; blocks = blocks }) p

either_assoc : {X : Type 0} (a b c : Option X) → option_or (option_or a b) c ≡ option_or a (option_or b c)
either_assoc (Some x) b c = refl
either_assoc None b c = refl

-- the coin that some blocks make is made by the first ones or by those above
blocks_append : (height : ℕ) (xs ys : List Block) (p : OutPoint) → coin_of_blocks height (xs ++ ys) p ≡ option_or (coin_of_blocks height xs p) (coin_of_blocks (height + length xs) ys p)
blocks_append height [] ys p = let same : height ≡ height + 0 = omega arith in ap (λ k. coin_of_blocks k ys p) same
blocks_append height (x ∷ xs) ys p =
    let above : height + 1 + length xs ≡ height + length (x ∷ xs) = omega arith in
    let here = coin_of_transactions height true x.transactions p in
    ap (option_or here) (blocks_append (height + 1) xs ys p ∙ ap (λ k. option_or (coin_of_blocks (height + 1) xs p) (coin_of_blocks k ys p)) above)
    ∙ sym (either_assoc here (coin_of_blocks (height + 1) xs p) (coin_of_blocks (height + length (x ∷ xs)) ys p))

member_found : (es : List (OutPoint × Coin)) (e : OutPoint × Coin) → Contains es e → is_some (lookup (point_eq e.0) es) ≡ true
member_found [] e m = not_in_none e m
member_found (x ∷ es) e m = by (point_eq e.0 x.0) refl (λ (k : Contains es e). member_found es e k)
  where
    by : (b : Bool) → point_eq e.0 x.0 ≡ b → (Contains es e → is_some (lookup (point_eq e.0) es) ≡ true) → is_some (if b then Some x.1 else lookup (point_eq e.0) es) ≡ true
    by true same rest = refl
    by false other rest =
        ⊎_elim (λ (k : x ≡ e). absurd (true≢false (sym ((out_point_decides e.0 x.0).1 (ap (λ (y : OutPoint × Coin). y.0) (sym k))) ∙ other))) rest
        (Contains-cons_cases x es e m)

-- a coin is unspent
not_spent : {X : Type 0} (b : Bool) (o : Option X) → is_some (if b then None else o) ≡ true → b ≡ false
not_spent true o h = absurd (true≢false (sym h))
not_spent false o h = refl

unspent_same : {X : Type 0} {a b : Bool} {o p : Option X} → a ≡ false → b ≡ false → o ≡ p → (if a then None else o) ≡ (if b then None else p)
unspent_same {X} {a} {b} {o} {p} l r same = (λ i. if l i then None else o) ∙ same ∙ sym (λ i. if r i then None else p)

module _ (h : History) (n : ℕ) (wanted : OutPoint → Bool) where
  -- ---- the opening's coins

  -- among them are those that the lowest blocks made
  opening_is : (p : OutPoint) → opening_coin_of (opening_with h n) p ≡ option_or (opening_coin_of h.coins p) (coin_of_blocks (first_connected h) (take n h.blocks) p)
  opening_is p =
      opening_append h.coins (opening_coins (made_by_blocks (first_connected h) (take n h.blocks))) p
      ∙ ap (option_or (opening_coin_of h.coins p)) (opening_lookup (made_by_blocks (first_connected h) (take n h.blocks)) p ∙ made_lookup h (take n h.blocks) p)

  kept_is : (p : OutPoint) → stays h n wanted p ≡ true → opening_coin_of (forgotten h n wanted).coins p ≡ opening_coin_of (opening_with h n) p
  kept_is p stay =
      ap (option_map (λ (c : OpeningCoin). c.coin))
      (find-filter_same (λ (c : OpeningCoin). point_eq p c.outpoint) (λ (c : OpeningCoin). stays h n wanted c.outpoint) (opening_with h n)
      (λ c m same. subst (λ (q : OutPoint). stays h n wanted q ≡ true) ((out_point_decides p c.outpoint).0 same) stay))

  -- a coin of the opening, or of one of the lowest blocks, is one of the opening's if it stays
  made_below : (p : OutPoint) → stays h n wanted p ≡ true → opening_coin_of (forgotten h n wanted).coins p ≡ option_or (opening_coin_of h.coins p) (coin_of_blocks (first_connected h) (take n h.blocks) p)
  made_below p stay = kept_is p stay ∙ opening_is p

  first_is : first_connected (forgotten h n wanted) ≡ first_connected h + length (take n h.blocks)
  first_is = omega (arith, length-append h.times (map (λ (b : Block). header_time b.header) (take n h.blocks)), length-map (take n h.blocks) (λ (b : Block). header_time b.header))

  -- what stays has the coin that was made, whatever blocks stand above the lowest ones
  made_same : (p : OutPoint) (more : List Block) → stays h n wanted p ≡ true
      → option_or (opening_coin_of (forgotten h n wanted).coins p) (coin_of_blocks (first_connected (forgotten h n wanted)) more p)
      ≡ option_or (opening_coin_of h.coins p) (coin_of_blocks (first_connected h) (take n h.blocks ++ more) p)
  made_same p more stay =
      let low = coin_of_blocks (first_connected h) (take n h.blocks) p in
      let high = coin_of_blocks (first_connected h + length (take n h.blocks)) more p in
      (λ i. option_or (made_below p stay i) (coin_of_blocks (first_is i) more p))
      ∙ either_assoc (opening_coin_of h.coins p) low high
      ∙ ap (option_or (opening_coin_of h.coins p)) (sym (blocks_append (first_connected h) (take n h.blocks) more p))

  -- ---- coins

  -- an outpoint that is wanted and unspent has the coin that it had
  wanted_stays : (p : OutPoint) → wanted p ≡ true → IsSome (coin_of h p) → coin_of (forgotten h n wanted) p ≡ coin_of h p
  unfolding coin_of
  wanted_stays p want k =
      let unspent : list_any (is_spent_in p) h.blocks ≡ false = not_spent (list_any (is_spent_in p) h.blocks) (coin_made_at h p) k in
      let parts = or_parts (list_any (is_spent_in p) (take n h.blocks)) (list_any (is_spent_in p) (drop n h.blocks))
      (sym (list_any-append (is_spent_in p) (take n h.blocks) (drop n h.blocks)) ∙ ap (list_any (is_spent_in p)) (take-append-drop n h.blocks) ∙ unspent) in
      unspent_same parts.1 unspent
      (made_same p (drop n h.blocks) (λ i. not (parts.0 i) && (parts.1 i || want i))
      ∙ ap (λ bs. option_or (opening_coin_of h.coins p) (coin_of_blocks (first_connected h) bs p)) (take-append-drop n h.blocks))

  -- ---- times

  pub times_same : times_of (forgotten h n wanted) ≡ times_of h
  times_same =
      let time : Block → ℕ = λ b. header_time b.header in
      append_assoc h.times (map time (take n h.blocks)) (map time (drop n h.blocks))
      ∙ ap (λ l. h.times ++ l) (sym (map-append time (take n h.blocks) (drop n h.blocks)) ∙ ap (map time) (take-append-drop n h.blocks))

  pub tip_same : tip_of (forgotten h n wanted) ≡ tip_of h
  tip_same = ap (λ (l : List ℕ). length l + h.first - 1) times_same

  -- ---- ids

  blocks_known : (id : List ℕ) (before after : List Block) → h.blocks ≡ before ++ after → (list_any (has_transaction id) before ≡ true) ⊎ (list_any (has_transaction id) after ≡ true) → is_known_txid h id ≡ true
  unfolding is_known_txid
  blocks_known id before after split k =
      or_right (has_txid id h.coins) (list_any (has_transaction id) h.blocks)
      (ap (list_any (has_transaction id)) split ∙ list_any-append (has_transaction id) before after
      ∙ ⊎_elim (λ l. or_left (list_any (has_transaction id) before) (list_any (has_transaction id) after) l) (λ r. or_right (list_any (has_transaction id) before) (list_any (has_transaction id) after) r) k)

  opening_known : (c : OpeningCoin) → Contains (opening_with h n) c → is_known_txid h c.outpoint.txid ≡ true
  opening_known c m =
      let made = made_by_blocks (first_connected h) (take n h.blocks) in
      ⊎_elim
      (λ (k : Contains h.coins c). known_opened h c.outpoint.txid (list_any_of (λ (d : OpeningCoin). bytes_eq d.outpoint.txid c.outpoint.txid) h.coins c k ((bytes_decides c.outpoint.txid c.outpoint.txid).1 refl)))
      (λ (k : Contains (opening_coins made) c).
      let e = Contains-from_map opening_coin made c k in
      subst (λ (d : OpeningCoin). is_known_txid h d.outpoint.txid ≡ true) e.is
      (blocks_known e.item.0.txid (take n h.blocks) (drop n h.blocks) (sym (take-append-drop n h.blocks))
      (inl (known_blocks (first_connected h) (take n h.blocks) e.item.0 (ap is_some (sym (made_lookup h (take n h.blocks) e.item.0)) ∙ member_found made e.item e.among)))))
      (Contains-append_cases h.coins (opening_coins made) c m)

  known_less : (id : List ℕ) → is_known_txid (forgotten h n wanted) id ≡ true → is_known_txid h id ≡ true
  unfolding is_known_txid
  known_less id k =
      ⊎_elim
      (λ (l : has_txid id (forgotten h n wanted).coins ≡ true).
      let c = any_is (λ (d : OpeningCoin). bytes_eq d.outpoint.txid id) (forgotten h n wanted).coins l in
      subst (λ (i : List ℕ). is_known_txid h i ≡ true) ((bytes_decides c.0.outpoint.txid id).0 c.2)
      (opening_known c.0 (Contains-from_filter (λ (d : OpeningCoin). stays h n wanted d.outpoint) (opening_with h n) c.0 c.1)))
      (λ r. blocks_known id (take n h.blocks) (drop n h.blocks) (sym (take-append-drop n h.blocks)) (inr r))
      (or_cases (has_txid id (forgotten h n wanted).coins) (list_any (has_transaction id) (drop n h.blocks)) k)

  unknown_still : (id : List ℕ) → is_known_txid h id ≡ false → is_known_txid (forgotten h n wanted) id ≡ false
  unknown_still id k = false_from_ne_true _ (λ t. true≢false (sym (known_less id t) ∙ k))

  -- ---- the chain

  -- where a block that stays stood before
  stood : (before after : List Block) (b : Block) → drop n h.blocks ≡ before ++ b ∷ after → h.blocks ≡ (take n h.blocks ++ before) ++ b ∷ after
  stood before after b is = sym (take-append-drop n h.blocks) ∙ ap (λ l. take n h.blocks ++ l) is ∙ sym (append_assoc (take n h.blocks) before (b ∷ after))

  spends_forgotten : SpendsCoins h → SpendsCoins (forgotten h n wanted)
  spends_forgotten old = record {
    made = λ before after b is p spent.
        let below = or_parts (list_any (is_spent_in p) (take n h.blocks)) (list_any (is_spent_in p) before)
        (sym (list_any-append (is_spent_in p) (take n h.blocks) before) ∙ old.once (take n h.blocks ++ before) after b (stood before after b is) p spent) in
        let above : list_any (is_spent_in p) (drop n h.blocks) ≡ true =
        list_any_of (is_spent_in p) (drop n h.blocks) b (subst (λ (l : List Block). Contains l b) (sym is) (Contains-append_right before (b ∷ after) b (Contains-head b after))) spent in
        ap is_some
        (made_same p (before ++ b ∷ []) (λ i. not (below.0 i) && (above i || wanted p))
        ∙ ap (λ bs. option_or (opening_coin_of h.coins p) (coin_of_blocks (first_connected h) bs p)) (sym (append_assoc (take n h.blocks) before (b ∷ []))))
        ∙ old.made (take n h.blocks ++ before) after b (stood before after b is) p spent;
    once = λ before after b is p spent.
        (or_parts (list_any (is_spent_in p) (take n h.blocks)) (list_any (is_spent_in p) before)
        (sym (list_any-append (is_spent_in p) (take n h.blocks) before) ∙ old.once (take n h.blocks ++ before) after b (stood before after b is) p spent)).1;
  }

  block_stays : (b : Block) → Contains (drop n h.blocks) b → Contains h.blocks b
  block_stays b m = subst (λ (l : List Block). Contains l b) (take-append-drop n h.blocks) (Contains-append_right (take n h.blocks) (drop n h.blocks) b m)

  pub transaction_stays : (tx : Tx) → Contains (connected_transactions (forgotten h n wanted)) tx → Contains (connected_transactions h) tx
  transaction_stays tx m = subst (λ (l : List Block). Contains (transactions_of l) tx) (take-append-drop n h.blocks) (Contains-last_blocks (take n h.blocks) (drop n h.blocks) tx m)

  settled_forgotten : IsSettled h → SpendsCoins (forgotten h n wanted) → IsSettled (forgotten h n wanted)
  settled_forgotten settled spent = record {
    coinbases = λ b m. settled.coinbases b (block_stays b m);
    spelled = λ tx m. settled.spelled tx (transaction_stays tx m);
    founded = λ before after b is tx m i k.
        known_if_made (chain_up_to (forgotten h n wanted) before b) i.prevout
        (spent.made before after b is i.prevout
        (list_any_of (λ (t : Tx). spends t.inputs i.prevout) (drop 1 b.transactions) tx m
        (list_any_of (λ (j : TxIn). point_eq j.prevout i.prevout) tx.inputs i k ((out_point_decides i.prevout i.prevout).1 refl))));
  }

  -- ---- the view

  view_stays : (entries : List Admitted) (p : OutPoint) → wanted p ≡ true → IsSome (view_coin h entries p) → IsSome (view_coin (forgotten h n wanted) entries p)
  view_stays entries p want k =
      some_more (pool_coin (tip_of h + 1) entries p) (coin_of h p) (pool_coin (tip_of (forgotten h n wanted) + 1) entries p) (coin_of (forgotten h n wanted) p)
      (λ j. ap (λ t. is_some (pool_coin (t + 1) entries p)) tip_same ∙ j) (λ j. ap is_some (wanted_stays p want j) ∙ j) k

-- ---- the pool

-- what an entry spends is wanted
spent_wanted : (entries : List Admitted) (p : OutPoint) → Contains (spent_by entries) p → is_spent_by_some entries p ≡ true
spent_wanted entries p m =
    let e = Contains-from_flat_map (λ (a : Admitted). spends_of a.tx) entries p m in
    let i = Contains-from_map (λ (j : TxIn). j.prevout) e.item.tx.inputs p e.within in
    is_some-find (λ (a : Admitted). spends a.tx.inputs p) entries
    ∙ list_any_of (λ (a : Admitted). spends a.tx.inputs p) entries e.item e.among
    (list_any_of (λ (j : TxIn). point_eq j.prevout p) e.item.tx.inputs i.item i.among ((out_point_decides i.item.prevout p).1 i.is))

good_forgotten : (limits : Limits) (h : History) (n : ℕ) (entries : List Admitted) → IsGood limits h entries → IsGood limits (forgotten h n (is_spent_by_some entries)) entries
good_forgotten limits h n entries good =
    let wanted = is_spent_by_some entries in
    let after = forgotten h n wanted in
    record {
      sound = record {
        txids = good.sound.txids;
        wtxids = good.sound.wtxids;
        spends = good.sound.spends;
        coins = All-weaker (λ (p : OutPoint). Contains (spent_by entries) p × IsSome (view_coin h entries p)) (λ (p : OutPoint). IsSome (view_coin after entries p))
            (λ p k. view_stays h n wanted entries p (spent_wanted entries p k.0) k.1) (spent_by entries)
            (λ i d lt. (All-contains_itself (spent_by entries) i d lt, good.sound.coins i d lt));
        fresh = All-weaker (λ (e : Admitted). is_known_txid h (txid_of e.tx) ≡ false) (λ (e : Admitted). is_known_txid after (txid_of e.tx) ≡ false)
            (λ e k. unknown_still h n wanted (txid_of e.tx) k) entries good.sound.fresh;
        light = good.sound.light;
        limited = good.sound.limited;
        bounds = good.sound.bounds;
      };
      size = good.size;
    }

-- ---- the state

pub forgetting_good : (w : World) (n : ℕ) → IsGoodWorld w → IsGoodWorld (forgetting w n)
forgetting_good w n good =
    let wanted = is_spent_by_some w.pool in
    let spent = spends_forgotten w.chain n wanted good.spends in
    record {
      chain = settled_forgotten w.chain n wanted good.chain spent;
      spends = spent;
      pool = good_forgotten (limits_of w) w.chain n w.pool good.pool;
      spelled = good.spelled;
    }

-- no transaction comes
pub forgetting_from : (w : World) (n : ℕ) (tx : Tx) → Contains (transactions_in (forgetting w n)) tx → Contains (transactions_in w) tx
forgetting_from w n tx m =
    let entries = map (λ (e : Admitted). e.tx) w.pool in
    ⊎_elim (λ k. Contains-append_left (connected_transactions w.chain) entries tx (transaction_stays w.chain n (is_spent_by_some w.pool) tx k))
    (λ k. Contains-append_right (connected_transactions w.chain) entries tx k)
    (Contains-append_cases (connected_transactions (forgetting w n).chain) entries tx m)

-- ---- what is answered

pub forget_refused : (w : World) (n : ℕ) (denial : ChainDenial) → forget_denial w.chain n ≡ Some denial → (Refused denial, w) ≡ forget_step w n
forget_refused w n denial h = sym (ap (forgotten_as w n) h)

pub forgets : (w : World) (n : ℕ) (chain : History) (verdicts : VerdictTable) (coins gone : ℕ) → forget_denial w.chain n ≡ None → chain ≡ (forgetting w n).chain
    → verdicts ≡ (forgetting w n).verdicts → coins ≡ length (dropped_coins w.chain n (is_spent_by_some w.pool)) → length verdicts.rows + gone ≡ length w.verdicts.rows
    → (Forgotten n coins gone, record w { chain = chain; verdicts = verdicts }) ≡ forget_step w n
forgets w n chain verdicts coins gone passes chain_is verdicts_are coins_are counted =
    let left : gone ≡ length w.verdicts.rows - length verdicts.rows = omega arith in
    let gone_is : gone ≡ length w.verdicts.rows - length (forgetting w n).verdicts.rows = left ∙ ap (λ (v : VerdictTable). length w.verdicts.rows - length v.rows) verdicts_are in
    (λ i. (Forgotten n (coins_are i) (gone_is i), record w { chain = chain_is i; verdicts = verdicts_are i }))
    ∙ sym (ap (forgotten_as w n) passes)
