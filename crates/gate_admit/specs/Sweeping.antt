-- Dust that a child sweeps (A49; Bitcoin Core 29.0, CheckEphemeralSpends).
use Rattle.std.specs.Prelude.{ℕ, ◌+◌, Bool, false, not, ◌&&◌, ◌||◌, List, [], ◌∷◌, Option, Some, None}
use Rattle.std.specs.List.{list_any}
use Rattle.gate_bytes.specs.Order.{Rule}
use Rattle.gate_tx.specs.declared.TxIn.{TxIn}
use Rattle.gate_tx.specs.declared.TxOut.{TxOut}
use Rattle.gate_tx.specs.Coins.{spends}
use Rattle.gate_tx.specs.Tx.{Tx}
use Rattle.gate_rules.specs.declared.Denial.{Denial}
use Rattle.gate_rules.specs.declared.Denial.TheVariants.{UnsweptDust}
use Rattle.gate_standard.specs.declared.Feerate.{Feerate}
use Rattle.gate_standard.specs.declared.Standards.{Standards}
use Rattle.gate_standard.specs.Outputs.{is_dust}
use Rattle.gate_pool.specs.Pool.{Admitted, entry_by_txid}

-- one of these outputs of the transaction of an id, the first at this index, is dust that none of the inputs spends
abbrev pub leaves_dust_from : Feerate → List TxIn → List ℕ → ℕ → List TxOut → Bool
leaves_dust_from rate inputs txid index [] = false
leaves_dust_from rate inputs txid index (o ∷ outputs) =
    (is_dust rate o && not (spends inputs (record { txid = txid; index = index }))) || leaves_dust_from rate inputs txid (index + 1) outputs

-- a parent with this id has dust that none of the inputs spends; one in a block is not asked
abbrev pub leaves_dust_of : Feerate → List TxIn → List ℕ → Option Admitted → Bool
leaves_dust_of rate inputs txid None = false
leaves_dust_of rate inputs txid (Some e) = leaves_dust_from rate inputs txid 0 e.tx.outputs

abbrev pub leaves_dust_at : Feerate → List Admitted → List TxIn → List ℕ → Bool
leaves_dust_at rate entries inputs txid = leaves_dust_of rate inputs txid (entry_by_txid entries txid)

-- a parent in the pool has dust that none of the inputs spends; also dust that another entry spends is asked for
abbrev pub leaves_dust : Feerate → List Admitted → List TxIn → Bool
leaves_dust rate entries inputs = list_any (λ (i : TxIn). leaves_dust_at rate entries inputs i.prevout.txid) inputs

unfoldable pub sweep_rules : Standards → List Admitted → Tx → List (Rule Denial)
sweep_rules standards entries tx = (UnsweptDust, standards.ephemeral_dust && leaves_dust standards.dust_rate entries tx.inputs) ∷ []
