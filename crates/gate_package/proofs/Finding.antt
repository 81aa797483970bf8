-- The coins of inputs behind other transactions, found one after another.
use Rattle.std.proofs.Common.{◌≡◌, ◌<◌, ◌≤◌, ◌+◌, ℕ, suc, List, [], ◌∷◌, ◌++◌, length, get_or, drop, Some, refl, sym, ap, subst, ◌∙◌, drop-cons, add-one, append_assoc, length-append}
use Rattle.std.specs.Prelude.{All}
use Rattle.std.proofs.lemmas.List.Elements.{All-append, All-cons, All-nil}
use Rattle.gate_tx.specs.declared.Coin.{Coin}
use Rattle.gate_tx.specs.declared.TxIn.{TxIn}
use Rattle.gate_chain.specs.History.{History}
use Rattle.gate_chain.specs.Times.{tip_of}
use Rattle.gate_pool.specs.Pool.{Admitted}
use Rattle.gate_tx.specs.Tx.{Tx}
use Rattle.gate_package.specs.Coins.{view_beside, misses_coin_beside, coins_beside}

next : (inputs : List TxIn) (i : ℕ) (input : TxIn) → i < length inputs → input ≡ get_or inputs i input → drop i inputs ≡ input ∷ drop (i + 1) inputs
next inputs i input within is = drop-cons inputs i input within ∙ (ap (λ t. t ∷ drop (suc i) inputs) (sym is) ∙ ap (λ n. input ∷ drop n inputs) (sym (add-one i)))

-- what is found so far, where an input has its coin
pub found_more : (chain : History) (others : List Tx) (entries : List Admitted) (inputs : List TxIn) (coins more : List Coin) (i : ℕ) (input : TxIn) (coin : Coin)
    → i < length inputs → input ≡ get_or inputs i input → view_beside chain others entries input.prevout ≡ Some coin → coin.height ≤ tip_of chain + 1 → more ≡ coins ++ coin ∷ []
    → misses_coin_beside chain others entries inputs ≡ misses_coin_beside chain others entries (drop i inputs)
    → coins ++ coins_beside chain others entries (drop i inputs) ≡ coins_beside chain others entries inputs
    → length coins ≡ i
    → All (λ (c : Coin). c.height ≤ tip_of chain + 1) coins
    → (misses_coin_beside chain others entries inputs ≡ misses_coin_beside chain others entries (drop (i + 1) inputs))
    × (more ++ coins_beside chain others entries (drop (i + 1) inputs) ≡ coins_beside chain others entries inputs)
    × (length more ≡ i + 1)
    × All (λ (c : Coin). c.height ≤ tip_of chain + 1) more
found_more chain others entries inputs coins more i input coin within is found low grown misses all many lows =
    let rest = drop (i + 1) inputs in
    let opens : drop i inputs ≡ input ∷ rest = next inputs i input within is in
    let first : coins_beside chain others entries (drop i inputs) ≡ coin ∷ coins_beside chain others entries rest = ap (coins_beside chain others entries) opens ∙ rw found refl in
    let Within : Coin → Type 0 = λ c. c.height ≤ tip_of chain + 1 in (
      misses ∙ (ap (misses_coin_beside chain others entries) opens ∙ rw found refl),
      ap (λ l. l ++ coins_beside chain others entries rest) grown
          ∙ (append_assoc coins (coin ∷ []) (coins_beside chain others entries rest) ∙ (ap (λ l. coins ++ l) (sym first) ∙ all)),
      ap length grown ∙ (length-append coins (coin ∷ []) ∙ ap (λ n. n + 1) many),
      subst (All Within) (sym grown) (All-append Within coins (coin ∷ []) lows (All-cons Within coin [] low (All-nil Within))),
    )
