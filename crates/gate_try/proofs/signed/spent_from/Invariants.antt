use Rattle.std.proofs.Common.{[], ◌≡◌, drop}
use Rattle.gate_try.specs.Spent.{spent_from}
use Rattle.gate_try.proofs.signed.spent_from.Given as goal

abbrev pub invariant-loop-input : goal.invariant-loop-input
invariant-loop-input l =
    (l.place ≡ l.input-index) × (spent_from l.said l.coins.items (drop l.place l.inputs) (drop l.place l.had) ≡ spent_from l.said [] l.inputs l.had)
