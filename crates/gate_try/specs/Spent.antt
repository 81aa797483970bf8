-- The coins that a PSBT has for the inputs of its transaction, and its final transaction.
use Rattle.std.specs.Prelude.{◌≡◌, ℕ, Bool, false, ◌==◌, ◌&&◌, List, [], ◌∷◌, ◌++◌, Option, Some, None, Ok, if◌then◌else◌}
use Rattle.hex.specs.Hex.{encode_lower}
use Rattle.std.specs.Borrow.{Bor}
use Rattle.std.specs.List.{list_any}
use Rattle.std.specs.Str.{bytes_eq}
use Rattle.gate_lines.specs.Numbers.{small_number_of}
use Rattle.gate_tx.specs.declared.transaction.OutPoint.{OutPoint}
use Rattle.gate_tx.specs.declared.transaction.TxIn.{TxIn}
use Rattle.gate_tx.specs.declared.transaction.TxOut.{TxOut}
use Rattle.gate_tx.specs.Coins.{point_eq}
use Rattle.gate_tx.specs.Ids.{read_id}
use Rattle.gate_tx.specs.Text.{text}
use Rattle.gate_tx.specs.Tx.{Tx}
use Rattle.gate_psbt.specs.Finished.{finished_of}
use Rattle.gate_psbt.specs.declared.input.PsbtInput.{PsbtInput}
use Rattle.gate_psbt.specs.declared.psbt.Psbt.{Psbt}
use Rattle.gate_try.specs.declared.trial.SpentCoin.{SpentCoin}
use Rattle.gate_try.specs.declared.trial.TrialCoin.{TrialCoin}

abbrev pub is_point : OutPoint → Option (List ℕ) → Option ℕ → Bool
is_point point (Some txid) (Some index) = bytes_eq txid point.txid && (index == point.index)
is_point point None index = false
is_point point (Some txid) None = false

-- the words of a coin name this outpoint
abbrev pub names : OutPoint → TrialCoin → Bool
names point coin = is_point point (read_id coin.txid.now) (small_number_of coin.index.now)

-- a coin is said for this outpoint
abbrev pub is_named : List TrialCoin → OutPoint → Bool
is_named coins point = list_any (names point) coins

-- the coin that this outpoint names was taken before
abbrev pub is_spent : List SpentCoin → OutPoint → Bool
is_spent coins point = list_any (λ (coin : SpentCoin). point_eq coin.point point) coins

-- one more coin, if a PSBT has it, it isn't said and it wasn't taken before
abbrev pub with_coin : List TrialCoin → List SpentCoin → OutPoint → Option TxOut → List SpentCoin
with_coin said before point None = before
with_coin said before point (Some output) =
    if is_named said point then before else if is_spent before point then before else before ++ record { point = point; output = output } ∷ []

-- the coins of these inputs behind those that were taken before
unfoldable pub spent_from : List TrialCoin → List SpentCoin → List TxIn → List PsbtInput → List SpentCoin
spent_from said before [] had = before
spent_from said before (input ∷ inputs) [] = before
spent_from said before (input ∷ inputs) (it ∷ had) = spent_from said (with_coin said before input.prevout it.coin) inputs had

-- the hexadecimal digits of the final transaction
abbrev pub SpellsFinal : Psbt → List ℕ → Type 0
SpellsFinal psbt digits = (tx : Tx) × (finished_of psbt ≡ Ok tx) × (digits ≡ encode_lower (text tx))

-- the PSBT's own transaction is tried if no other is said
abbrev pub IsOwn : Psbt → List (Bor (List ℕ)) → Option (List ℕ) → Type 0
IsOwn psbt [] None = ⊥
IsOwn psbt [] (Some digits) = SpellsFinal psbt digits
IsOwn psbt (said ∷ more) finished = finished ≡ None
