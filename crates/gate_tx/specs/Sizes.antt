-- The sizes of a transaction, in bytes, and its weight (BIP 141).
use Rattle.std.specs.Prelude.{ℕ, ◌+◌, ◌*◌, length}
use Rattle.gate_tx.specs.Tx.{Tx}
use Rattle.gate_tx.specs.Text.{stripped, text}

unfoldable pub stripped_size_of : Tx → ℕ
stripped_size_of t = length (stripped t)

unfoldable pub full_size_of : Tx → ℕ
full_size_of t = length (text t)

unfoldable pub weight_of : Tx → ℕ
weight_of t = 3 * length (stripped t) + length (text t)
