-- `==` on pieces says whether they are equal.
use Rattle.std.proofs.Common.{◌≡◌, ℕ, Bool, ◌&&◌, eqb, List, ap}
use Rattle.std.specs.Bool.{Decides}
use Rattle.std.specs.Str.{bytes_eq}
use Rattle.std.proofs.lemmas.Slice.Eq.{bytes_eq-Decides}
use Rattle.std.proofs.lemmas.Bool.Decides.{Decides-eqb, Decides-and, Decides-at, Decides-like}
use Rattle.gate_tx.specs.declared.coin.Coin.{Coin}
use Rattle.gate_tx.specs.declared.transaction.TxIn.{TxIn}
use Rattle.gate_inputs.specs.declared.piece.Piece.{Piece}

abbrev made : List ℕ → ℕ → TxIn → Coin → Piece
made w n i c = record { wtxid = w; index = n; input = i; coin = c }

same_parts : (w w' : List ℕ) (n n' : ℕ) (i i' : TxIn) (c c' : Coin) → w ≡ w' → n ≡ n' → i ≡ i' → c ≡ c' → made w n i c ≡ made w' n' i' c'
same_parts w w' n n' i i' c c' p q r t = cc

pub piece_decides : {E : TxIn → TxIn → Bool} {F : Coin → Coin → Bool} → ((a b : TxIn) → Decides (E a b) (a ≡ b)) → ((a b : Coin) → Decides (F a b) (a ≡ b)) → (a b : Piece) (r : Bool)
    → r ≡ (bytes_eq a.wtxid b.wtxid && (eqb a.index b.index && (E a.input b.input && F a.coin b.coin))) → Decides r (a ≡ b)
piece_decides inputs coins a b r e =
    let parts = Decides-and _ _ (bytes_eq-Decides a.wtxid b.wtxid) (Decides-and _ _ (Decides-eqb a.index b.index) (Decides-and _ _ (inputs a.input b.input) (coins a.coin b.coin))) in
    Decides-at r _ e (Decides-like _ (λ p. same_parts a.wtxid b.wtxid a.index b.index a.input b.input a.coin b.coin p.0 p.1.0 p.1.1.0 p.1.1.1) (λ q. (ap (λ (t : Piece). t.wtxid) q, (ap (λ (t : Piece). t.index) q, (ap (λ (t : Piece). t.input) q, ap (λ (t : Piece). t.coin) q)))) parts)
