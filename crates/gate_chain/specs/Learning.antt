-- A coin that becomes one of the opening's later.
use Rattle.std.specs.Prelude.{◌-◌, ◌||◌, nat_lt, not, List, [], ◌∷◌, ◌++◌, Option}
use Rattle.std.specs.List.{list_any}
use Rattle.gate_bytes.specs.Order.{Rule, first_failing}
use Rattle.gate_tx.specs.Coins.{is_unspendable}
use Rattle.gate_tx.specs.Money.{is_money}
use Rattle.gate_chain.specs.Coins.{has_outpoint, has_transaction}
use Rattle.gate_chain.specs.History.{History, first_connected}
use Rattle.gate_rules.specs.declared.ChainDenial.{ChainDenial}
use Rattle.gate_rules.specs.declared.ChainDenial.TheVariants.{CoinValue, CoinUnspendable, CoinAboveOpening, CoinKnown}
use Rattle.gate_chain.specs.declared.opening.OpeningCoin.{OpeningCoin}

-- a history with one more coin of its opening, behind the others
abbrev pub learnt : History → OpeningCoin → History
learnt h c = record { first = h.first; coins = h.coins ++ c ∷ []; times = h.times; blocks = h.blocks }

-- what is asked of a coin that is learnt: it stands no higher than the opening's last block, and what a connected block's
-- transaction made is known from the block
unfoldable pub learn_rules : History → OpeningCoin → List (Rule ChainDenial)
learn_rules h c =
    (CoinValue, not (is_money c.coin.value))
    ∷ (CoinUnspendable, is_unspendable c.coin.script)
    ∷ (CoinAboveOpening, nat_lt (first_connected h - 1) c.coin.height)
    ∷ (CoinKnown, has_outpoint c.outpoint h.coins || list_any (has_transaction c.outpoint.txid) h.blocks)
    ∷ []

-- why a coin is not learnt
abbrev pub learn_denial : History → OpeningCoin → Option ChainDenial
learn_denial h c = first_failing (learn_rules h c)
