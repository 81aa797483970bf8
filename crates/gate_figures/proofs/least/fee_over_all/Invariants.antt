use Rattle.std.proofs.Common.{◌≡◌, ◌<◌, ◌≤◌, ℕ, List, Bool, true, false, take}
use Rattle.std.specs.Prelude.{Contains, nat_le}
use Rattle.gate_tx.specs.Ids.{txid_of}
use Rattle.gate_standard.specs.Amounts.{feerate}
use Rattle.gate_pool.specs.Pool.{Admitted}
use Rattle.gate_figures.proofs.least.fee_over_all.Given as goal

abbrev pub invariant-loop-id : goal.invariant-loop-id
invariant-loop-id g l = record {
  all : (a : Admitted) → Contains l.pool.entries a → Contains (take l.id-index l.ids) (txid_of a.tx) → (fee : ℕ) → l.least ≤ fee → nat_le (feerate fee l.vsize) (feerate a.fee a.vsize) ≡ false;
  some : (fee : ℕ) → fee < l.least
      → (id : List ℕ) × Contains l.ids id × ((a : Admitted) → Contains l.pool.entries a → txid_of a.tx ≡ id → nat_le (feerate fee l.vsize) (feerate a.fee a.vsize) ≡ true);
}
