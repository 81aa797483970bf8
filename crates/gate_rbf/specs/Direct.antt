-- The entries that a transaction conflicts with, as they are found.
use Rattle.std.specs.Prelude.{ℕ, List, Option, Contains}
use Rattle.gate_tx.specs.Tx.{Tx}
use Rattle.gate_pool.specs.Pool.{Admitted}

-- a transaction beside the entries of a pool
pub record Beside : Type 0 where
  pub entries : List Admitted
  pub tx : Tx

-- a transaction beside the entries of a pool, and the id of the sibling that it evicts, if it does
pub record BesideSibling : Type 0 where
  pub entries : List Admitted
  pub tx : Tx
  pub sibling : Option (List ℕ)

-- the entries that were found are these, in whatever order, each at least once
pub record AreThese (found some : List Admitted) : Type 0 where
  pub all : (e : Admitted) → Contains some e → Contains found e
  pub only : (e : Admitted) → Contains found e → Contains some e
