-- One more transaction is entered on top of a history.
use Rattle.std.proofs.lemmas.Bool.Decides.{nat_tests}
use Rattle.std.proofs.Common.{◌≡◌, ℕ, zero, suc, ◌==◌, ◌+◌, ◌<◌, ◌≤◌, Bool, true, false, not, ◌||◌, ◌&&◌, List, [], ◌∷◌, ◌++◌, length, map, Option, Some, None, is_some, if◌then◌else◌, refl, sym, ap, subst, ◌∙◌, true≢false, arith, append-nil, append_assoc, take, drop, get_or, add-one}
use Rattle.std.specs.Prelude.{pos}
use Rattle.std.proofs.Math.Seq.{drop-cons, take-append_seam}
use Rattle.std.proofs.lemmas.List.{take-append-drop, map-append, take-map, take_all, take_more, length-map}
use Rattle.std.specs.List.{list_any}
use Rattle.std.specs.Map.{lookup}
use Rattle.std.specs.Option.{option_or}
use Rattle.std.specs.Str.{bytes_eq}
use Rattle.gate_tx.specs.declared.OutPoint.{OutPoint}
use Rattle.gate_tx.specs.declared.TxIn.{TxIn}
use Rattle.gate_bytes.proofs.OrderLemmas.{first_failing_append}
use Rattle.gate_tx.specs.Coins.{point_eq, spends}
use Rattle.gate_tx.specs.Ids.{txid_of}
use Rattle.gate_tx.specs.Text.{is_nonempty}
use Rattle.gate_tx.specs.Tx.{Tx}
use Rattle.gate_chain.specs.Blocks.{Block}
use Rattle.gate_rules.specs.declared.ChainDenial.{ChainDenial}
use Rattle.gate_chain.specs.declared.fault.ChainFault.{ChainFault}
use Rattle.gate_chain.specs.declared.fault.ChainFault.TheVariants.{Memory, Denied}
use Rattle.gate_rules.specs.declared.ChainDenial.TheVariants.{TxidRepeated, BlockInputs}
use Rattle.gate_chain.specs.declared.marked.Marked.{Marked}
use Rattle.gate_chain.specs.Coins.{coin_of, is_known_txid, any_spends}
use Rattle.gate_chain.specs.Connecting.{grown, with_part, missing, transaction_rules, transactions_rules, transaction_denial, transactions_denial, Tells}
use Rattle.gate_chain.specs.History.{History}
use Rattle.gate_chain.specs.Marking.{IsNew, coins_in, coin_in, coins_made, ids_of, is_marked, made_by, unmarked, unspent_in}
use Rattle.gate_chain.specs.Linked.{is_spent, SpentMade, AreMaps, Opens, IsConnected}
use Rattle.gate_chain.proofs.Marks.{same_point, marked_made, marked_first, marked-append, coins_in-unmarked}
use Rattle.gate_chain.proofs.Histories.{or_cases, coin_is, coins_form, coins_more, ids_form, ids_more, ids_known, spent_form, spent_none, spent_more, unknown_new}

-- every coin that is spent was there
pub missing_some : (has : OutPoint → Bool) (inputs : List TxIn) (p : OutPoint) → missing has inputs ≡ false → spends inputs p ≡ true → has p ≡ true
missing_some has [] p m s = absurd (true≢false (sym s))
missing_some has (i ∷ inputs) p m s = by (has i.prevout) refl m (missing_some (λ q. not (point_eq i.prevout q) && has q) inputs p)
  where
    both : (a b : Bool) → (not a && b) ≡ true → b ≡ true
    both true b h = absurd (true≢false (sym h))
    both false b h = h

    by : (b : Bool) → has i.prevout ≡ b → (not b || missing (λ q. not (point_eq i.prevout q) && has q) inputs) ≡ false
        → (missing (λ q. not (point_eq i.prevout q) && has q) inputs ≡ false → spends inputs p ≡ true → (not (point_eq i.prevout p) && has p) ≡ true) → has p ≡ true
    by false e h rest = absurd (true≢false h)
    by true e h rest = or_cases (point_eq i.prevout p) (spends inputs p) (has p ≡ true) s
        (λ at. ap has (sym (same_point i.prevout p at)) ∙ e)
        (λ later. both (point_eq i.prevout p) (has p) (rest h later))

pub or_false : (b : Bool) → (b || false) ≡ b
or_false true = refl
or_false false = refl

or_both : (a b c : Bool) → ((a || b) || c) ≡ (a || (b || c))
or_both true b c = refl
or_both false b c = refl

pub not_either : (a b : Bool) → (a || b) ≡ false → (a ≡ false) × (b ≡ false)
not_either true b h = absurd (true≢false h)
not_either false b h = (refl, h)

-- maps with the same coins, marks and ids
pub same_maps : (h : History) (es es' : List (OutPoint × Marked)) (txids txids' : List (List ℕ)) → coins_in es' ≡ coins_in es → ((p : OutPoint) → is_marked es' p ≡ is_marked es p) → txids' ≡ txids → AreMaps h es txids → AreMaps h es' txids'
same_maps h es es' txids txids' c m t a = record { coins_are = c ∙ a.coins_are; marks_are = λ p. m p ∙ a.marks_are p; txids_are = t ∙ a.txids_are }

-- what the map answers is the coin of the history
pub unspent_is : (h : History) (es : List (OutPoint × Marked)) (txids : List (List ℕ)) → AreMaps h es txids → (p : OutPoint) → unspent_in es p ≡ coin_of h p
unspent_is h es txids a p = (λ j. if a.marks_are p j then None else lookup (point_eq p) (a.coins_are j)) ∙ sym (coin_is h p)

-- what is spent was made
pub spent_made : (h : History) (es : List (OutPoint × Marked)) (txids : List (List ℕ)) → AreMaps h es txids → SpentMade h
spent_made h es txids a = record { made = λ p e. ap (λ l. is_some (lookup (point_eq p) l)) (sym a.coins_are) ∙ marked_made es p (a.marks_are p ∙ e) }

-- a coin is of no spent outpoint
live : (h : History) (p : OutPoint) → is_some (coin_of h p) ≡ true → is_spent h p ≡ false
live h p e = by (is_spent h p) (ap is_some (sym (coin_is h p)) ∙ e)
  where
    by : (b : Bool) → is_some (if b then None else lookup (point_eq p) (coins_made h)) ≡ true → b ≡ false
    by true f = absurd (true≢false (sym f))
    by false f = refl

module _ (h : History) (header : List ℕ) (done : List Tx) (t : Tx) (opened : List (List ℕ)) (height : ℕ)
    (es : List (OutPoint × Marked)) (txids : List (List ℕ)) (o : Opens h opened height) (a : AreMaps (with_part h header done) es txids)
    (id : List ℕ) (is : id ≡ txid_of t) (known : Bool) (known_is : known ≡ (list_any (bytes_eq id) opened || list_any (bytes_eq id) txids)) where
  known_of : known ≡ is_known_txid (with_part h header done) (txid_of t)
  unfolding is_known_txid
  known_of =
      known_is
      ∙ (λ j. list_any (bytes_eq (is j)) opened || list_any (bytes_eq (is j)) (a.txids_are j))
      ∙ (λ j. o.ids_are (txid_of t) j || ids_known (with_part h header done).blocks (txid_of t) j)

  pub repeated : known ≡ true → transaction_denial h header done t ≡ Some TxidRepeated
  unfolding transaction_rules
  repeated e = ap (λ b. if b then Some TxidRepeated else if is_nonempty done && missing (λ p. is_some (coin_of (with_part h header done) p)) t.inputs then Some BlockInputs else None) (sym known_of ∙ e)

  module _ (new : known ≡ false) (coinbase : Bool) (first : coinbase ≡ not (is_nonempty done)) (found : Bool)
      (found_is : (not coinbase && missing (λ p. is_some (unspent_in es p)) t.inputs) ≡ not found) where
    pub is_new : (es' : List (OutPoint × Marked)) → coins_in es' ≡ coins_in es → IsNew id es'
    is_new es' e = unknown_new (with_part h header done) id es' (ap (is_known_txid (with_part h header done)) is ∙ sym known_of ∙ new) (e ∙ a.coins_are)

    full_is : not coinbase ≡ is_nonempty done
    full_is = ap not first ∙ twice (is_nonempty done)
      where
        twice : (b : Bool) → not (not b) ≡ b
        twice true = refl
        twice false = refl

    missing_is : (is_nonempty done && missing (λ p. is_some (coin_of (with_part h header done) p)) t.inputs) ≡ not found
    missing_is = (λ j. sym full_is j && missing (λ p. is_some (sym (unspent_is (with_part h header done) es txids a p) j)) t.inputs) ∙ found_is

    fault_is : transaction_denial h header done t ≡ (if not found then Some BlockInputs else None)
    unfolding transaction_rules
    fault_is =
        ap (λ b. if b then Some TxidRepeated else if is_nonempty done && missing (λ p. is_some (coin_of (with_part h header done) p)) t.inputs then Some BlockInputs else None) (sym known_of ∙ new)
        ∙ ap (λ b. if b then Some BlockInputs else None) missing_is

    pub not_found : found ≡ false → transaction_denial h header done t ≡ Some BlockInputs
    not_found e = fault_is ∙ ap (λ b. if not b then Some BlockInputs else None) e

    -- a coin that it spends was not spent before
    spends_live : found ≡ true → (p : OutPoint) → (is_nonempty done && spends t.inputs p) ≡ true → is_spent (with_part h header done) p ≡ false
    spends_live e p s = live (with_part h header done) p (by (is_nonempty done) refl s)
      where
        by : (b : Bool) → is_nonempty done ≡ b → (b && spends t.inputs p) ≡ true → is_some (coin_of (with_part h header done) p) ≡ true
        by false f h' = absurd (true≢false (sym h'))
        by true f h' = missing_some (λ q. is_some (coin_of (with_part h header done) q)) t.inputs p
            (ap (λ b. b && missing (λ q. is_some (coin_of (with_part h header done) q)) t.inputs) (sym f) ∙ missing_is ∙ ap not e) h'

    module _ (all : found ≡ true) (es1 : List (OutPoint × Marked)) (coins : coins_in es1 ≡ coins_in es)
        (marks : (p : OutPoint) → is_marked es1 p ≡ ((found && (not coinbase && spends t.inputs p)) || is_marked es p)) where
      marks_now : (p : OutPoint) → is_marked es1 p ≡ ((is_nonempty done && spends t.inputs p) || is_spent (with_part h header done) p)
      marks_now p = marks p ∙ (λ j. (all j && (full_is j && spends t.inputs p)) || a.marks_are p j)

      pub entered : (es2 : List (OutPoint × Marked)) → es2 ≡ es1 ++ unmarked (made_by id height coinbase 0 t.outputs) → (txids' : List (List ℕ)) → txids' ≡ txids ++ id ∷ []
          → AreMaps (with_part h header (done ++ t ∷ [])) es2 txids' × (transaction_denial h header done t ≡ None)
      entered es2 put txids' noted = (
        record {
          coins_are = ap coins_in put ∙ map-append coin_in es1 (unmarked (made_by id height coinbase 0 t.outputs))
              ∙ (λ j. (coins ∙ a.coins_are) j ++ coins_in-unmarked (made_by (is j) (o.height_is j) (first j) 0 t.outputs) j)
              ∙ sym (coins_more h header done t);
          marks_are = λ p. ap (λ l. is_marked l p) put ∙ marked-append es1 (made_by id height coinbase 0 t.outputs) p ∙ marks_now p
              ∙ swap (is_nonempty done && spends t.inputs p) (is_spent (with_part h header done) p) ∙ sym (spent_more h header done t p);
          txids_are = noted ∙ (λ j. a.txids_are j ++ is j ∷ []) ∙ sym (ids_more h header done t);
        },
        fault_is ∙ ap (λ b. if not b then Some BlockInputs else None) all,
      )
        where
          swap : (x y : Bool) → (x || y) ≡ (y || x)
          swap true true = refl
          swap true false = refl
          swap false true = refl
          swap false false = refl

      -- no memory for its coins
      pub undone : (es2 es3 : List (OutPoint × Marked)) → es2 ≡ es1 → coins_in es3 ≡ coins_in es2
          → ((p : OutPoint) → is_marked es3 p ≡ (if not coinbase && spends t.inputs p then false else is_marked es2 p)) → (txids' : List (List ℕ)) → txids' ≡ txids → AreMaps (with_part h header done) es3 txids'
      undone es2 es3 same c m txids' t_same = record {
        coins_are = c ∙ ap coins_in same ∙ coins ∙ a.coins_are;
        marks_are = λ p. m p ∙ (λ j. if full_is j && spends t.inputs p then false else is_marked (same j) p) ∙ ap (λ b. if is_nonempty done && spends t.inputs p then false else b) (marks_now p)
            ∙ by p (is_nonempty done && spends t.inputs p) refl;
        txids_are = t_same ∙ a.txids_are;
      }
        where
          by : (p : OutPoint) (b : Bool) → (is_nonempty done && spends t.inputs p) ≡ b → (if b then false else (b || is_spent (with_part h header done) p)) ≡ is_spent (with_part h header done) p
          by p true e = sym (spends_live all p e)
          by p false e = refl

-- the first rule that fails, of a transaction and of those behind it
pub denial_more : (h : History) (header : List ℕ) (done : List Tx) (tx : Tx) (txs : List Tx)
    → transactions_denial h header done (tx ∷ txs) ≡ option_or (transaction_denial h header done tx) (transactions_denial h header (done ++ tx ∷ []) txs)
denial_more h header done tx txs = first_failing_append (transaction_rules h header done tx) (transactions_rules h header (done ++ tx ∷ []) txs)

-- the first rule that fails, of transactions and of others behind them
pub denial_append : (h : History) (header : List ℕ) (done xs ys : List Tx) → transactions_denial h header done (xs ++ ys) ≡ option_or (transactions_denial h header done xs) (transactions_denial h header (done ++ xs) ys)
denial_append h header done [] ys = ap (λ d. transactions_denial h header d ys) (sym (append-nil done))
denial_append h header done (x ∷ xs) ys =
    denial_more h header done x (xs ++ ys)
    ∙ ap (option_or (transaction_denial h header done x)) (denial_append h header (done ++ x ∷ []) xs ys)
    ∙ ap (λ d. option_or (transaction_denial h header done x) (option_or (transactions_denial h header (done ++ x ∷ []) xs) (transactions_denial h header d ys))) (append_assoc done (x ∷ []) xs)
    ∙ assoc (transaction_denial h header done x) _ _
    ∙ ap (λ o. option_or o (transactions_denial h header (done ++ x ∷ xs) ys)) (sym (denial_more h header done x xs))
  where
    assoc : (a b c : Option ChainDenial) → option_or a (option_or b c) ≡ option_or (option_or a b) c
    assoc None b c = refl
    assoc (Some e) b c = refl

-- what transactions without a fault spend was not spent before
module _ (h : History) (header : List ℕ) where
  passed : {X : Type 0} (b : Bool) (x : X) (r : Option X) → (if b then Some x else r) ≡ None → (b ≡ false) × (r ≡ None)
  passed true x r e = absurd (cc)
  passed false x r e = (refl, e)

  neither : (a b : Option ChainDenial) → option_or a b ≡ None → (a ≡ None) × (b ≡ None)
  neither None b e = (refl, e)
  neither (Some x) b e = absurd (cc)

  pub none_missing : (done : List Tx) (t : Tx) → transaction_denial h header done t ≡ None → (is_nonempty done && missing (λ p. is_some (coin_of (with_part h header done) p)) t.inputs) ≡ false
  unfolding transaction_rules
  none_missing done t e = (passed _ BlockInputs None (passed _ TxidRepeated _ e).1).0

  rest_once : (done txs : List Tx) → is_nonempty done ≡ true → transactions_denial h header done txs ≡ None → (p : OutPoint) → any_spends txs p ≡ true → is_spent h p ≡ false
  rest_once done [] full e p s = absurd (true≢false (sym s))
  rest_once done (t ∷ txs) full e p s =
      let parts = neither (transaction_denial h header done t) (transactions_denial h header (done ++ t ∷ []) txs) (sym (denial_more h header done t txs) ∙ e) in
      or_cases (spends t.inputs p) (any_spends txs p) (is_spent h p ≡ false) s
      (λ here. (not_either (is_spent h p) _ (sym (spent_form h header done t done p) ∙ live (with_part h header done) p
      (missing_some (λ q. is_some (coin_of (with_part h header done) q)) t.inputs p
      (ap (λ b. b && missing (λ q. is_some (coin_of (with_part h header done) q)) t.inputs) (sym full) ∙ none_missing done t parts.0) here))).0)
      (λ later. rest_once (done ++ t ∷ []) txs (still done) parts.1 p later)
    where
      still : (d : List Tx) → is_nonempty (d ++ t ∷ []) ≡ true
      still [] = refl
      still (x ∷ d) = refl

  pub once : (txs : List Tx) → transactions_denial h header [] txs ≡ None → (p : OutPoint) → any_spends (drop 1 txs) p ≡ true → is_spent h p ≡ false
  once [] e p s = absurd (true≢false (sym s))
  once (t ∷ txs) e p s = rest_once (t ∷ []) txs refl (neither (transaction_denial h header [] t) (transactions_denial h header (t ∷ []) txs) (sym (denial_more h header [] t txs) ∙ e)).1 p s

  pub no_tx : Tx
  no_tx = record { version = pos 0; inputs = []; outputs = []; locktime = 0 }

  -- the transactions are taken out again
  pub left : (txs : List Tx) (n k : ℕ) (es es1 es2 : List (OutPoint × Marked)) (txids txids' : List (List ℕ)) → SpentMade h → transactions_denial h header [] txs ≡ None
      → n ≡ length (coins_made h) → k ≡ length (ids_of h.blocks) → AreMaps (with_part h header txs) es txids
      → es1 ≡ take n es → txids' ≡ take k txids → coins_in es2 ≡ coins_in es1 → ((p : OutPoint) → is_marked es2 p ≡ (if any_spends (drop 1 txs) p then false else is_marked es1 p))
      → AreMaps h es2 txids'
  left txs n k es es1 es2 txids txids' made e nis kis a cut cut_ids c m = record {
    coins_are = c ∙ ap coins_in cut ∙ sym (take-map coin_in n es) ∙ first_coins;
    marks_are = λ p. m p ∙ ap (λ l. if any_spends (drop 1 txs) p then false else is_marked l p) cut ∙ by p (any_spends (drop 1 txs) p) refl;
    txids_are = cut_ids ∙ (λ j. take (kis j) ((a.txids_are ∙ ids_form h header txs) j)) ∙ take-append_seam (ids_of h.blocks) (map txid_of txs);
  }
    where
      first_coins : take n (coins_in es) ≡ coins_made h
      first_coins = (λ j. take (nis j) ((a.coins_are ∙ coins_form h header txs) j)) ∙ take-append_seam (coins_made h) _

      cutting : (p : OutPoint) (b : Bool) → is_some (lookup (point_eq p) (take n (coins_in es))) ≡ b → any_spends (drop 1 txs) p ≡ false → is_marked (take n es) p ≡ is_spent h p
      cutting p true there nope =
          marked_first es n p there ∙ a.marks_are p ∙ spent_form h header txs no_tx txs p ∙ ap (λ b. is_spent h p || b) nope ∙ or_false (is_spent h p)
      cutting p false gone nope = unmarked p (is_marked (take n es) p) refl gone ∙ sym (unspent p (is_spent h p) refl gone)
        where
          unmarked : (p : OutPoint) (b : Bool) → is_marked (take n es) p ≡ b → is_some (lookup (point_eq p) (take n (coins_in es))) ≡ false → b ≡ false
          unmarked p true f g = absurd (true≢false (sym (marked_made (take n es) p f) ∙ ap (λ l. is_some (lookup (point_eq p) l)) (sym (take-map coin_in n es)) ∙ g))
          unmarked p false f g = refl

          unspent : (p : OutPoint) (b : Bool) → is_spent h p ≡ b → is_some (lookup (point_eq p) (take n (coins_in es))) ≡ false → b ≡ false
          unspent p true f g = absurd (true≢false (sym (made.made p f) ∙ ap (λ l. is_some (lookup (point_eq p) l)) (sym first_coins) ∙ g))
          unspent p false f g = refl

      by : (p : OutPoint) (b : Bool) → any_spends (drop 1 txs) p ≡ b → (if b then false else is_marked (take n es) p) ≡ is_spent h p
      by p true s = sym (once txs e p s)
      by p false s = cutting p (is_some (lookup (point_eq p) (take n (coins_in es)))) refl s

-- before the first transaction
pub starts : (h : History) (header : List ℕ) (es : List (OutPoint × Marked)) (txids : List (List ℕ)) → AreMaps h es txids → AreMaps (with_part h header []) es txids
starts h header es txids a = record {
  coins_are = a.coins_are ∙ sym (coins_form h header [] ∙ append-nil (coins_made h));
  marks_are = λ p. a.marks_are p ∙ sym (spent_none h header [] (no_tx h header) p);
  txids_are = a.txids_are ∙ sym (ids_form h header [] ∙ append-nil (ids_of h.blocks));
}

pub count_coins : (h : History) (es : List (OutPoint × Marked)) (txids : List (List ℕ)) → AreMaps h es txids → length es ≡ length (coins_made h)
count_coins h es txids a = sym (length-map es coin_in) ∙ ap length a.coins_are

pub count_ids : (h : History) (es : List (OutPoint × Marked)) (txids : List (List ℕ)) → AreMaps h es txids → length txids ≡ length (ids_of h.blocks)
count_ids h es txids a = ap length a.txids_are

pub first_is : (txs : List Tx) (i : ℕ) → i < length txs → (i == 0) ≡ not (is_nonempty (take i txs))
first_is [] i lt = absurd (omega arith)
first_is (x ∷ txs) zero lt = refl
first_is (x ∷ txs) (suc i) lt = never i
  where
    never : (i : ℕ) → (suc i == 0) ≡ false
    never i = grind (arith, nat_tests)

module _ (h : History) (header : List ℕ) (txs : List Tx) (i : ℕ) (t : Tx) (lt : i < length txs) (is : t ≡ get_or txs i t) (none : transactions_denial h header [] (take i txs) ≡ None) where
  stops_at : (denial : ChainDenial) → transaction_denial h header (take i txs) t ≡ Some denial → transactions_denial h header [] txs ≡ Some denial
  stops_at denial is_denied =
      ap (transactions_denial h header []) (sym (take-append-drop i txs) ∙ ap (λ l. take i txs ++ l) (drop-cons txs i t lt ∙ (λ j. sym is j ∷ drop (sym (add-one i) j) txs)))
      ∙ denial_append h header [] (take i txs) (t ∷ drop (i + 1) txs)
      ∙ ap (option_or (transactions_denial h header [] (take i txs))) (denial_more h header (take i txs) t (drop (i + 1) txs))
      ∙ (λ j. option_or (none j) (option_or (is_denied j) (transactions_denial h header (take i txs ++ t ∷ []) (drop (i + 1) txs))))

  -- the first denial of all is that of the first transaction that has one
  pub stops : (e : ChainFault) → Tells e (transaction_denial h header (take i txs) t) → Tells e (transactions_denial h header [] txs)
  stops Memory told = tt
  stops (Denied denial) told = stops_at denial told

  one_more : take (i + 1) txs ≡ take i txs ++ t ∷ []
  one_more = take_more txs i t lt ∙ (λ j. take i txs ++ sym is j ∷ [])

  pub goes : (es : List (OutPoint × Marked)) (txids : List (List ℕ)) → AreMaps (with_part h header (take i txs ++ t ∷ [])) es txids → transaction_denial h header (take i txs) t ≡ None
      → AreMaps (with_part h header (take (i + 1) txs)) es txids × (transactions_denial h header [] (take (i + 1) txs) ≡ None)
  goes es txids a fault = (
    subst (λ l. AreMaps (with_part h header l) es txids) (sym one_more) a,
    ap (transactions_denial h header []) one_more ∙ denial_append h header [] (take i txs) (t ∷ [])
        ∙ ap (option_or (transactions_denial h header [] (take i txs))) (denial_more h header (take i txs) t [])
        ∙ (λ j. option_or (none j) (option_or (fault j) None)),
  )

-- all its transactions stand
pub ends : (h : History) (block : Block) (n k i : ℕ) (es es0 : List (OutPoint × Marked)) (txids txids0 : List (List ℕ)) → AreMaps h es0 txids0 → n + length h.coins ≡ length es0 → k ≡ length txids0 → length block.transactions ≤ i
    → AreMaps (with_part h block.header (take i block.transactions)) es txids → transactions_denial h block.header [] (take i block.transactions) ≡ None
    → IsConnected h (record { block = block; coins = n; ids = k }) × AreMaps (grown h block) es txids × (transactions_denial h block.header [] block.transactions ≡ None)
ends h block n k i es es0 txids txids0 a0 nis kis le a none =
    let all : take i block.transactions ≡ block.transactions = take_all i block.transactions le in
    let faultless : transactions_denial h block.header [] block.transactions ≡ None = ap (transactions_denial h block.header []) (sym all) ∙ none in (
      record {
        faultless = faultless;
        spent_made = spent_made h es0 txids0 a0;
        coins_are = nis ∙ count_coins h es0 txids0 a0;
        ids_are = kis ∙ count_ids h es0 txids0 a0;
      },
      subst (λ l. AreMaps (with_part h block.header l) es txids) all a,
      faultless,
    )
