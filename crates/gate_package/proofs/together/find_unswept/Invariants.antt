use Rattle.std.proofs.Common.{◌≡◌, drop}
use Rattle.gate_package.specs.Together.{unswept_place}
use Rattle.gate_package.proofs.together.find_unswept.Given as goal

abbrev pub invariant-loop-tx : goal.invariant-loop-tx
invariant-loop-tx g l =
    (l.place ≡ l.tx-index) × (unswept_place l.standards l.these l.pool.entries 0 l.these ≡ unswept_place l.standards l.these l.pool.entries l.place (drop l.tx-index l.these))
