-- Dust that a child sweeps within a package: A49 of a transaction whose parents may be others that are no entries.
use Rattle.std.specs.Prelude.{Bool, ◌&&◌, List, ◌∷◌}
use Rattle.std.specs.List.{list_any}
use Rattle.gate_bytes.specs.Order.{Rule}
use Rattle.gate_tx.specs.declared.TxIn.{TxIn}
use Rattle.gate_tx.specs.Ids.{txid_of}
use Rattle.gate_tx.specs.Tx.{Tx}
use Rattle.gate_rules.specs.declared.Denial.{Denial}
use Rattle.gate_rules.specs.declared.Denial.TheVariants.{UnsweptDust}
use Rattle.gate_standard.specs.declared.Feerate.{Feerate}
use Rattle.gate_standard.specs.declared.Standards.{Standards}
use Rattle.gate_pool.specs.Pool.{Admitted}
use Rattle.gate_admit.specs.Sweeping.{leaves_dust_from, sweep_rules}
use Rattle.gate_package.specs.Shapes.{names_one}

-- these inputs spend from a transaction, and not all its dust
abbrev pub leaves_dust_of : Feerate → List TxIn → Tx → Bool
leaves_dust_of rate inputs t = names_one inputs t && leaves_dust_from rate inputs (txid_of t) 0 t.outputs

-- they spend from one of these others, and not all its dust
abbrev pub leaves_dust_beside : Feerate → List Tx → List TxIn → Bool
leaves_dust_beside rate others inputs = list_any (leaves_dust_of rate inputs) others

-- A49, of the parents among these others and of those in the pool
unfoldable pub sweep_rules_beside : Standards → List Tx → List Admitted → Tx → List (Rule Denial)
sweep_rules_beside standards others entries tx = (UnsweptDust, standards.ephemeral_dust && leaves_dust_beside standards.dust_rate others tx.inputs) ∷ sweep_rules standards entries tx
