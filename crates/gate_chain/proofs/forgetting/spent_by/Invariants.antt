use Rattle.std.proofs.Common.{◌≡◌, map, take}
use Rattle.std.specs.List.{list_any}
use Rattle.gate_tx.specs.Coins.{point_eq}
use Rattle.gate_tx.specs.declared.OutPoint.{OutPoint}
use Rattle.gate_chain.specs.declared.connected.Connected.{Connected}
use Rattle.gate_chain.specs.Forgetting.{is_spent_in_any}
use Rattle.gate_chain.proofs.forgetting.spent_by.Given as goal

abbrev pub invariant-loop-connected : goal.invariant-loop-connected
invariant-loop-connected g l = (p : OutPoint) → list_any (point_eq p) l.points.keys ≡ is_spent_in_any p (map (λ (x : Connected). x.block) (take l.connected-index l.blocks))
