-- What blocks without a fault spend was made before.
use Rattle.std.proofs.Common.{◌≡◌, ℕ, Bool, true, false, ◌&&◌, List, [], ◌∷◌, ◌++◌, drop, map, Option, Some, None, is_some, if◌then◌else◌, refl, sym, ap, subst, ◌∙◌, true≢false, append-nil, append_assoc}
use Rattle.std.specs.List.{list_any}
use Rattle.std.specs.Map.{lookup}
use Rattle.std.specs.Option.{option_or}
use Rattle.gate_tx.specs.declared.OutPoint.{OutPoint}
use Rattle.gate_tx.specs.Coins.{point_eq, spends}
use Rattle.gate_tx.specs.Text.{is_nonempty}
use Rattle.gate_tx.specs.Tx.{Tx}
use Rattle.gate_chain.specs.Blocks.{Block}
use Rattle.gate_chain.specs.Coins.{any_spends, coin_of, is_spent_in}
use Rattle.gate_chain.specs.Connecting.{with_part, missing, transaction_denial, transactions_denial}
use Rattle.gate_chain.specs.Founding.{AreConnected, AreFounded, with_only}
use Rattle.gate_chain.specs.History.{History, first_connected}
use Rattle.gate_chain.specs.Linked.{is_spent, SpentMade}
use Rattle.gate_chain.specs.Marking.{coins_made, opening_entry, made_by_blocks}
use Rattle.gate_chain.proofs.Growing.{denial_more, missing_some, none_missing}
use Rattle.gate_chain.proofs.Histories.{coin_is, coins_more, made_known_all, or_cases}
use Rattle.gate_chain.proofs.Marks.{lookup-append}
use Rattle.gate_chain.proofs.Opened.{neither}
use Rattle.gate_chain.proofs.Restoring.{blocks_append}

some_first : {X : Type 0} (a b : Option X) → is_some a ≡ true → is_some (option_or a b) ≡ true
some_first None b h = absurd (true≢false (sym h))
some_first (Some x) b h = refl

-- a coin that was made stays made as more transactions come
made_on : (h : History) (header : List ℕ) (done xs : List Tx) (p : OutPoint) → is_some (lookup (point_eq p) (coins_made (with_part h header done))) ≡ true
    → is_some (lookup (point_eq p) (coins_made (with_part h header (done ++ xs)))) ≡ true
made_on h header done [] p e = subst (λ (d : List Tx). is_some (lookup (point_eq p) (coins_made (with_part h header d))) ≡ true) (sym (append-nil done)) e
made_on h header done (t ∷ xs) p e =
    subst (λ (d : List Tx). is_some (lookup (point_eq p) (coins_made (with_part h header d))) ≡ true) (append_assoc done (t ∷ []) xs)
    (made_on h header (done ++ t ∷ []) xs p
    (ap is_some (ap (lookup (point_eq p)) (coins_more h header done t) ∙ lookup-append (point_eq p) (coins_made (with_part h header done)) _)
    ∙ some_first (lookup (point_eq p) (coins_made (with_part h header done))) _ e))

coin_made_there : (h : History) (p : OutPoint) → is_some (coin_of h p) ≡ true → is_some (lookup (point_eq p) (coins_made h)) ≡ true
coin_made_there h p e = by (is_spent h p) (ap is_some (sym (coin_is h p)) ∙ e)
  where
    by : (b : Bool) → is_some (if b then None else lookup (point_eq p) (coins_made h)) ≡ true → is_some (lookup (point_eq p) (coins_made h)) ≡ true
    by true f = absurd (true≢false (sym f))
    by false f = f

-- what transactions without a fault spend was made
rest_made : (h : History) (header : List ℕ) (done txs : List Tx) → is_nonempty done ≡ true → transactions_denial h header done txs ≡ None → (p : OutPoint) → any_spends txs p ≡ true
    → is_some (lookup (point_eq p) (coins_made (with_part h header (done ++ txs)))) ≡ true
rest_made h header done [] full e p s = absurd (true≢false (sym s))
rest_made h header done (t ∷ txs) full e p s =
    let parts = neither (transaction_denial h header done t) (transactions_denial h header (done ++ t ∷ []) txs) (sym (denial_more h header done t txs) ∙ e) in
    or_cases (spends t.inputs p) (any_spends txs p) (is_some (lookup (point_eq p) (coins_made (with_part h header (done ++ t ∷ txs)))) ≡ true) s
    (λ here. made_on h header done (t ∷ txs) p (coin_made_there (with_part h header done) p
    (missing_some (λ q. is_some (coin_of (with_part h header done) q)) t.inputs p
    (ap (λ b. b && missing (λ q. is_some (coin_of (with_part h header done) q)) t.inputs) (sym full) ∙ none_missing h header done t parts.0) here)))
    (λ later. subst (λ (d : List Tx). is_some (lookup (point_eq p) (coins_made (with_part h header d))) ≡ true) (append_assoc done (t ∷ []) txs)
    (rest_made h header (done ++ t ∷ []) txs (still done) parts.1 p later))
  where
    still : (d : List Tx) → is_nonempty (d ++ t ∷ []) ≡ true
    still [] = refl
    still (x ∷ d) = refl

pub spent_here : (h : History) (header : List ℕ) (txs : List Tx) → transactions_denial h header [] txs ≡ None → (p : OutPoint) → any_spends (drop 1 txs) p ≡ true
    → is_some (lookup (point_eq p) (coins_made (with_part h header txs))) ≡ true
spent_here h header [] e p s = absurd (true≢false (sym s))
spent_here h header (t ∷ txs) e p s =
    rest_made h header (t ∷ []) txs refl (neither (transaction_denial h header [] t) (transactions_denial h header (t ∷ []) txs) (sym (denial_more h header [] t txs) ∙ e)).1 p s

-- what blocks made stays made under more blocks
pub made_under : (h : History) (a b : List Block) (p : OutPoint) → is_some (lookup (point_eq p) (coins_made (with_only h a))) ≡ true → is_some (lookup (point_eq p) (coins_made (with_only h (a ++ b)))) ≡ true
made_under h a b p e =
    ap is_some (ap (lookup (point_eq p)) (ap (λ l. map opening_entry h.coins ++ l) (blocks_append (first_connected h) a b) ∙ sym (append_assoc (map opening_entry h.coins) (made_by_blocks (first_connected h) a) _))
    ∙ lookup-append (point_eq p) (coins_made (with_only h a)) _)
    ∙ some_first (lookup (point_eq p) (coins_made (with_only h a))) _ e

-- a block that spends an outpoint, and where it stands
pub record Spender (p : OutPoint) (blocks : List Block) : Type 0 where
  pub before : List Block
  pub after : List Block
  pub block : Block
  pub is : blocks ≡ before ++ block ∷ after
  pub spends : is_spent_in p block ≡ true

pub spender : (p : OutPoint) (blocks : List Block) → list_any (is_spent_in p) blocks ≡ true → Spender p blocks
spender p [] s = absurd (true≢false (sym s))
spender p (b ∷ blocks) s =
    or_cases (is_spent_in p b) (list_any (is_spent_in p) blocks) (Spender p (b ∷ blocks)) s
    (λ here. record { before = []; after = blocks; block = b; is = refl; spends = here })
    (λ later. let w = spender p blocks later in record { before = b ∷ w.before; after = w.after; block = w.block; is = ap (λ l. b ∷ l) w.is; spends = w.spends })

-- of blocks without a fault, what they spend was made
pub all_made_there : (h : History) → AreConnected h → SpentMade h
all_made_there h fine = record {
  made = λ p s.
      let w = spender p h.blocks s in
      subst (λ (bs : List Block). is_some (lookup (point_eq p) (coins_made (with_only h bs))) ≡ true) (append_assoc w.before (w.block ∷ []) w.after ∙ sym w.is)
      (made_under h (w.before ++ w.block ∷ []) w.after p (spent_here (with_only h w.before) w.block.header w.block.transactions (fine w.before w.after w.block w.is) p w.spends));
}

-- and is of a transaction that was known
pub all_founded : (h : History) → AreConnected h → AreFounded h
all_founded h fine before after b is p s =
    made_known_all (with_only h (before ++ b ∷ [])) p (spent_here (with_only h before) b.header b.transactions (fine before after b is) p s)

-- the first of such blocks are such blocks
pub connected_front : (h : History) (a b : List Block) → h.blocks ≡ a ++ b → AreConnected h → AreConnected (with_only h a)
connected_front h a b split fine before after k is = fine before (after ++ b) k (split ∙ ap (λ l. l ++ b) is ∙ append_assoc before (k ∷ after) b)
