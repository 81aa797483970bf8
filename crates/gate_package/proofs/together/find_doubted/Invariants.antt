use Rattle.std.proofs.Common.{◌≡◌, drop}
use Rattle.gate_package.specs.Together.{doubted_place}
use Rattle.gate_package.proofs.together.find_doubted.Given as goal

abbrev pub invariant-loop-tx : goal.invariant-loop-tx
invariant-loop-tx g l = (l.place ≡ l.tx-index) × (doubted_place l.under.verdicts.now 0 l.these ≡ doubted_place l.under.verdicts.now l.place (drop l.tx-index l.these))
