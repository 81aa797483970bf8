-- The rules on events of the chain, a row each.
use Rattle.std.specs.Prelude.{ℕ, List, [], ◌∷◌, codes}
use Rattle.gate_rules.specs.declared.chain.ChainDenial.{ChainDenial}
use Rattle.gate_rules.specs.declared.chain.ChainDenial.TheVariants.{BlockDecode, BlockCoinbase, BlockInputs, TxidRepeated, TimeTooOld, NoUndo, ChainFull, CoinValue, CoinUnspendable, CoinAboveOpening, CoinKnown, VerdictKnown}
use Rattle.gate_rules.specs.declared.rule.Consequence.{Consequence}
use Rattle.gate_rules.specs.declared.rule.Consequence.TheVariants.{Nothing}
use Rattle.gate_rules.specs.Key.{Key, key}

abbrev pub row_of : ChainDenial → Key
row_of BlockDecode = key (codes "C1") (codes "block-decode") Nothing
row_of BlockCoinbase = key (codes "C2") (codes "block-coinbase") Nothing
row_of BlockInputs = key (codes "C3") (codes "block-inputs") Nothing
row_of TxidRepeated = key (codes "C4") (codes "block-txid-repeated") Nothing
row_of TimeTooOld = key (codes "C5") (codes "time-too-old") Nothing
row_of NoUndo = key (codes "C6") (codes "no-undo") Nothing
row_of ChainFull = key (codes "C7") (codes "chain-full") Nothing
row_of CoinValue = key (codes "C8") (codes "coin-value") Nothing
row_of CoinUnspendable = key (codes "C9") (codes "coin-unspendable") Nothing
row_of CoinAboveOpening = key (codes "C10") (codes "coin-above-opening") Nothing
row_of CoinKnown = key (codes "C11") (codes "coin-known") Nothing
row_of VerdictKnown = key (codes "C12") (codes "verdict-known") Nothing

-- all of them, in the order of their numbers
abbrev pub chain : List ChainDenial
chain =
    BlockDecode ∷ BlockCoinbase ∷ BlockInputs ∷ TxidRepeated ∷ TimeTooOld ∷ NoUndo ∷ ChainFull ∷ CoinValue ∷ CoinUnspendable ∷ CoinAboveOpening ∷ CoinKnown ∷ VerdictKnown ∷ []

-- the letter of the layer, and the number
abbrev pub name_of : ChainDenial → List ℕ
name_of denial = (row_of denial).name

abbrev pub token_of : ChainDenial → List ℕ
token_of denial = (row_of denial).token

abbrev pub then_of : ChainDenial → Consequence
then_of denial = (row_of denial).follows
