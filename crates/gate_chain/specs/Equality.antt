-- `==` on blocks says whether they are equal.
use Rattle.std.proofs.Common.{◌≡◌, Bool, ◌&&◌, refl, ap}
use Rattle.std.specs.Bool.{Decides}
use Rattle.std.specs.Cmp.Lexicographic.{pointwise}
use Rattle.std.specs.Str.{bytes_eq}
use Rattle.std.proofs.lemmas.Bool.Decides.{Decides-and, Decides-like}
use Rattle.std.proofs.lemmas.Slice.Eq.{slice_eq-Decides, bytes_eq-Decides}
use Rattle.gate_tx.specs.Tx.{Tx}
use Rattle.gate_chain.specs.Blocks.{Block, block_of}

pub block_decides : {E : Tx → Tx → Bool} → ((a b : Tx) → Decides (E a b) (a ≡ b))
    → (a b : Block) → Decides (bytes_eq a.header b.header && pointwise E a.transactions b.transactions) (a ≡ b)
block_decides {E} transactions a b =
    let parts = Decides-and _ _ (bytes_eq-Decides a.header b.header) (slice_eq-Decides transactions a.transactions b.transactions (pointwise E a.transactions b.transactions) refl) in
    Decides-like _ (λ p i. block_of (p.0 i) (p.1 i)) (λ q. (ap (λ (x : Block). x.header) q, ap (λ (x : Block). x.transactions) q)) parts
