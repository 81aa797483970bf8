-- A coin that is learnt keeps the chain settled and the pool good, if no entry has the id of its transaction.
use Rattle.std.proofs.Common.{◌≡◌, ◌+◌, ◌||◌, ℕ, Bool, true, false, List, [], ◌∷◌, ◌++◌, Contains, Option, Some, None, refl, sym, ap, ◌∙◌, if◌then◌else◌}
use Rattle.std.specs.Prelude.{IsSome, find, is_some}
use Rattle.std.specs.List.{list_any}
use Rattle.std.specs.Option.{option_map, option_or}
use Rattle.std.specs.Str.{bytes_eq}
use Rattle.std.proofs.lemmas.Bool.{true≢false, false_from_ne_true}
use Rattle.std.proofs.lemmas.List.Elements.{All-contains_itself, All-weaker}
use Rattle.std.proofs.lemmas.List.Folds.{find-append, list_any-append}
use Rattle.gate_bytes.specs.Order.{first_failing}
use Rattle.gate_bytes.proofs.Members.{list_any_of}
use Rattle.gate_bytes.proofs.OrderLemmas.{first_failing_append, none_fails, none_fails-append}
use Rattle.gate_tx.specs.declared.OutPoint.{OutPoint}
use Rattle.gate_tx.specs.Coins.{point_eq}
use Rattle.gate_tx.specs.Ids.{txid_of}
use Rattle.gate_rules.specs.declared.ChainDenial.{ChainDenial}
use Rattle.gate_rules.specs.declared.ChainDenial.TheVariants.{CoinKnown}
use Rattle.gate_chain.specs.declared.OpeningCoin.{OpeningCoin}
use Rattle.gate_chain.specs.Coins.{coin_of, coin_of_blocks, has_transaction, has_txid, is_known_txid, is_spent_in, opening_coin_of}
use Rattle.gate_chain.specs.History.{History, first_connected}
use Rattle.gate_chain.specs.Learning.{learnt, learn_rules}
use Rattle.gate_chain.specs.Times.{tip_of}
use Rattle.gate_chain.proofs.Histories.{bytes_either}
use Rattle.gate_pool.specs.Pool.{Admitted, entry_by_txid, has_txid as is_entry_of, spent_by}
use Rattle.gate_rbf.proofs.Conflicting.{is_some-find}
use Rattle.gate_admit.specs.Coins.{pool_coin, view_coin}
use Rattle.gate_admit.specs.Good.{IsGood, IsSettled, Limits, SpendsCoins, chain_up_to, coin_made_at}
use Rattle.gate_reorg.proofs.Spent.{some_more}
use Rattle.gate_message.specs.declared.reply.Reply.TheVariants.{Set, Refused}
use Rattle.gate_core.specs.ChainSteps.{coin_rules, coin_step, learnt_as, with_coin}
use Rattle.gate_core.specs.Good.{IsGoodWorld}
use Rattle.gate_core.specs.World.{World}

-- ---- coins

found_either : (a b : Option OpeningCoin) → option_map (λ (c : OpeningCoin). c.coin) (option_or a b) ≡ option_or (option_map (λ (c : OpeningCoin). c.coin) a) (option_map (λ (c : OpeningCoin). c.coin) b)
found_either None b = refl
found_either (Some c) b = refl

-- the coin at an outpoint of one list of coins behind another
pub opening_append : (coins more : List OpeningCoin) (p : OutPoint) → opening_coin_of (coins ++ more) p ≡ option_or (opening_coin_of coins p) (opening_coin_of more p)
opening_append coins more p =
    ap (option_map (λ (c : OpeningCoin). c.coin)) (find-append (λ (c : OpeningCoin). point_eq p c.outpoint) coins more)
    ∙ found_either (find (λ (c : OpeningCoin). point_eq p c.outpoint) coins) (find (λ (c : OpeningCoin). point_eq p c.outpoint) more)

first_stays : {X : Type 0} (a b : Option X) → is_some a ≡ true → is_some (option_or a b) ≡ true
first_stays (Some x) b h = refl
first_stays None b h = absurd (true≢false (sym h))

opening_more : (coins more : List OpeningCoin) (p : OutPoint) → is_some (opening_coin_of coins p) ≡ true → is_some (opening_coin_of (coins ++ more) p) ≡ true
opening_more coins more p h = ap is_some (opening_append coins more p) ∙ first_stays (opening_coin_of coins p) (opening_coin_of more p) h

unless_more : {X : Type 0} (b : Bool) (o more : Option X) → (is_some o ≡ true → is_some more ≡ true) → is_some (if b then None else o) ≡ true → is_some (if b then None else more) ≡ true
unless_more true o more f h = h
unless_more false o more f h = f h

module _ (h : History) (coin : OpeningCoin) where
  -- what was made is made
  made_learnt : (p : OutPoint) → IsSome (coin_made_at h p) → IsSome (coin_made_at (learnt h coin) p)
  made_learnt p k =
      let made = coin_of_blocks (first_connected h) h.blocks p in
      some_more (opening_coin_of h.coins p) made (opening_coin_of (h.coins ++ coin ∷ []) p) made (opening_more h.coins (coin ∷ []) p) (λ j. j) k

  -- and what is unspent is unspent
  coin_learnt : (p : OutPoint) → IsSome (coin_of h p) → IsSome (coin_of (learnt h coin) p)
  unfolding coin_of
  coin_learnt p k = unless_more (list_any (is_spent_in p) h.blocks) (coin_made_at h p) (coin_made_at (learnt h coin) p) (made_learnt p) k

  view_learnt : (entries : List Admitted) (p : OutPoint) → IsSome (view_coin h entries p) → IsSome (view_coin (learnt h coin) entries p)
  view_learnt entries p k =
      let pooled = pool_coin (tip_of h + 1) entries p in
      some_more pooled (coin_of h p) pooled (coin_of (learnt h coin) p) (λ j. j) (coin_learnt p) k

  -- ---- ids

  known_learnt : (id : List ℕ) → is_known_txid (learnt h coin) id ≡ (is_known_txid h id || bytes_eq coin.outpoint.txid id)
  unfolding is_known_txid
  known_learnt id =
      ap (λ b. b || list_any (has_transaction id) h.blocks) (list_any-append (λ (c : OpeningCoin). bytes_eq c.outpoint.txid id) h.coins (coin ∷ []))
      ∙ turned (has_txid id h.coins) (bytes_eq coin.outpoint.txid id) (list_any (has_transaction id) h.blocks)
    where
      turned : (a b c : Bool) → ((a || (b || false)) || c) ≡ ((a || c) || b)
      turned true b c = refl
      turned false true true = refl
      turned false true false = refl
      turned false false true = refl
      turned false false false = refl

  known_more : (id : List ℕ) → is_known_txid h id ≡ true → is_known_txid (learnt h coin) id ≡ true
  known_more id k = known_learnt id ∙ ap (λ b. b || bytes_eq coin.outpoint.txid id) k

  unknown_still : (id : List ℕ) → bytes_eq coin.outpoint.txid id ≡ false → is_known_txid h id ≡ false → is_known_txid (learnt h coin) id ≡ false
  unknown_still id other k = known_learnt id ∙ (λ i. k i || other i)

-- ---- the chain

settled_learnt : (h : History) (coin : OpeningCoin) → IsSettled h → IsSettled (learnt h coin)
settled_learnt h coin settled = record {
  coinbases = settled.coinbases;
  spelled = settled.spelled;
  founded = λ before after b is tx m i k. known_more (chain_up_to h before b) coin i.prevout.txid (settled.founded before after b is tx m i k);
}

spends_learnt : (h : History) (coin : OpeningCoin) → SpendsCoins h → SpendsCoins (learnt h coin)
spends_learnt h coin spends = record {
  made = λ before after b is p spent. made_learnt (chain_up_to h before b) coin p (spends.made before after b is p spent);
  once = spends.once;
}

-- ---- the pool

-- no entry has an id that a search doesn't find
absent_id : (entries : List Admitted) (id : List ℕ) → is_some (entry_by_txid entries id) ≡ false → (e : Admitted) → Contains entries e → bytes_eq id (txid_of e.tx) ≡ false
absent_id entries id none e m =
    bytes_either id (txid_of e.tx)
    ∙ false_from_ne_true (bytes_eq (txid_of e.tx) id)
    (λ t. true≢false (sym (list_any_of (λ (x : Admitted). is_entry_of x id) entries e m t) ∙ sym (is_some-find (λ (x : Admitted). is_entry_of x id) entries) ∙ none))

good_learnt : (limits : Limits) (h : History) (entries : List Admitted) (coin : OpeningCoin) → is_some (entry_by_txid entries coin.outpoint.txid) ≡ false → IsGood limits h entries → IsGood limits (learnt h coin) entries
good_learnt limits h entries coin absent good = record {
  sound = record {
    txids = good.sound.txids;
    wtxids = good.sound.wtxids;
    spends = good.sound.spends;
    coins = All-weaker (λ (p : OutPoint). IsSome (view_coin h entries p)) (λ (p : OutPoint). IsSome (view_coin (learnt h coin) entries p)) (view_learnt h coin entries) (spent_by entries) good.sound.coins;
    fresh = All-weaker (λ (e : Admitted). Contains entries e × (is_known_txid h (txid_of e.tx) ≡ false)) (λ (e : Admitted). is_known_txid (learnt h coin) (txid_of e.tx) ≡ false)
        (λ e k. unknown_still h coin (txid_of e.tx) (absent_id entries coin.outpoint.txid absent e k.0) k.1) entries
        (λ i d lt. (All-contains_itself entries i d lt, good.sound.fresh i d lt));
    light = good.sound.light;
    limited = good.sound.limited;
    bounds = good.sound.bounds;
  };
  size = good.size;
}

-- ---- the state

pub coin_good : (w : World) (coin : OpeningCoin) → first_failing (coin_rules w coin) ≡ None → IsGoodWorld w → IsGoodWorld (with_coin w coin)
unfolding coin_rules
coin_good w coin passes good = record {
  chain = settled_learnt w.chain coin good.chain;
  spends = spends_learnt w.chain coin good.spends;
  pool = good_learnt (record { budget = w.budget; policy = w.policy }) w.chain w.pool coin
      (none_fails-append (learn_rules w.chain coin) _ (none_fails (coin_rules w coin) passes)).1.0 good.pool;
  spelled = good.spelled;
}

-- ---- what is answered to a coin

-- a rule of the chain is asked first, and then whether an entry has the coin's transaction
module _ (w : World) (coin : OpeningCoin) where
  pub coin_refused : (denial : ChainDenial) → first_failing (learn_rules w.chain coin) ≡ Some denial → first_failing (coin_rules w coin) ≡ Some denial
  unfolding coin_rules
  coin_refused denial h = first_failing_append (learn_rules w.chain coin) _ ∙ ap (λ o. option_or o (first_failing ((CoinKnown, is_some (entry_by_txid w.pool coin.outpoint.txid)) ∷ []))) h

  pub coin_of_entry : first_failing (learn_rules w.chain coin) ≡ None → is_some (entry_by_txid w.pool coin.outpoint.txid) ≡ true → first_failing (coin_rules w coin) ≡ Some CoinKnown
  unfolding coin_rules
  coin_of_entry h there =
      first_failing_append (learn_rules w.chain coin) _ ∙ (λ i. option_or (h i) (if there i then Some CoinKnown else None))

  pub coin_passes : first_failing (learn_rules w.chain coin) ≡ None → is_some (entry_by_txid w.pool coin.outpoint.txid) ≡ false → first_failing (coin_rules w coin) ≡ None
  unfolding coin_rules
  coin_passes h absent =
      first_failing_append (learn_rules w.chain coin) _ ∙ (λ i. option_or (h i) (if absent i then Some CoinKnown else None))

  pub learns : (chain : History) → first_failing (coin_rules w coin) ≡ None → chain ≡ learnt w.chain coin → (Set, record w { chain = chain }) ≡ coin_step w coin
  learns chain passes is = (λ i. (Set, record w { chain = is i })) ∙ sym (ap (learnt_as w (with_coin w coin)) passes)

  pub not_learnt : (denial : ChainDenial) → first_failing (coin_rules w coin) ≡ Some denial → (Refused denial, w) ≡ coin_step w coin
  not_learnt denial h = sym (ap (learnt_as w (with_coin w coin)) h)
