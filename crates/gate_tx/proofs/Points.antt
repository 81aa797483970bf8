-- Outpoints compared either way round.
use Rattle.std.proofs.Common.{◌≡◌, List, [], ◌∷◌, refl, sym, ap, ◌∙◌}
use Rattle.std.specs.Prelude.{◌||◌}
use Rattle.std.specs.List.{list_any}
use Rattle.std.proofs.lemmas.Bool.Decides.{same_from_decides}
use Rattle.gate_tx.specs.declared.transaction.OutPoint.{OutPoint}
use Rattle.gate_tx.specs.declared.transaction.TxIn.{TxIn}
use Rattle.gate_tx.specs.Coins.{point_eq, spends}
use Rattle.gate_tx.specs.Equality.{out_point_decides}

pub point_eq-comm : (a b : OutPoint) → point_eq a b ≡ point_eq b a
point_eq-comm a b = same_from_decides (point_eq a b) (point_eq b a) (out_point_decides a b) ((λ e. sym ((out_point_decides b a).0 e), λ e. (out_point_decides b a).1 (sym e)))

-- asked the other way round
pub spends-by : (point : OutPoint) (inputs : List TxIn) → list_any (λ (i : TxIn). point_eq point i.prevout) inputs ≡ spends inputs point
spends-by point [] = refl
spends-by point (i ∷ inputs) =
    ap (λ b. b || list_any (λ (j : TxIn). point_eq point j.prevout) inputs) (point_eq-comm point i.prevout)
    ∙ ap (λ b. point_eq i.prevout point || b) (spends-by point inputs)
