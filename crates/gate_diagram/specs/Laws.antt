-- Better feerate diagrams are an order.
use Rattle.std.specs.Prelude.{◌≡◌, ◌≤◌, true, false, List, IsPermutation}
use Rattle.std.specs.List.{All}
use Rattle.gate_diagram.specs.Diagram.{improves}
use Rattle.gate_diagram.specs.declared.price.Price.{Price}

-- a chunk has a size
pub record IsSized (chunk : Price) : Type 0 where
  pub least : 1 ≤ chunk.vsize

-- a better diagram: not better than itself, better than whatever a worse one is better than, and as good in whatever order its chunks
-- stand
pub record DiagramIsAnOrder : Type 0 where
  pub irreflexive : (a : List Price) → improves a a ≡ false
  pub transitive : (a b c : List Price) → All IsSized a → All IsSized b → All IsSized c → improves a b ≡ true → improves b c ≡ true → improves a c ≡ true
  pub unordered : (a b c d : List Price) → IsPermutation a c → IsPermutation b d → improves a b ≡ improves c d
