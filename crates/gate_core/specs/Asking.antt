-- What is submitted as a package: by a user's call, or by a peer.
use Rattle.std.specs.Prelude.{ℕ, List}
use Rattle.gate_tx.specs.Tx.{Tx}
use Rattle.gate_rpc.specs.declared.id.Id.{Id}
use Rattle.gate_rpc.specs.declared.request.PackageCall.{PackageCall}

-- a package of a user: when, the id of the call, and what it says
pub record Called : Type 0 where
  pub second : ℕ
  pub id : Id
  pub call : PackageCall

-- a package of a peer: when, who, and its transactions, a parent and its child
pub record Paired : Type 0 where
  pub second : ℕ
  pub peer : ℕ
  pub members : List Tx
