use Rattle.std.proofs.Common.{◌+◌, ◌≤◌, ◌++◌, List, take}
use Rattle.std.specs.List.{list_any}
use Rattle.gate_tx.specs.Coins.{point_eq}
use Rattle.gate_tx.specs.declared.OutPoint.{OutPoint}
use Rattle.gate_chain.specs.declared.marked.Marked.{Marked}
use Rattle.gate_chain.specs.Parting.{IsTally}
use Rattle.gate_chain.proofs.forgetting.tally_coins.Given as goal

abbrev pub invariant-loop-place : goal.invariant-loop-place
invariant-loop-place g l =
    ((es : List (OutPoint × Marked)) → IsTally (λ p. list_any (point_eq p) l.later.keys) (g.T.CoinTest.wanted l.test) es l.fn.tally.ids.keys l.fn.tally.kept l.fn.tally.lost
    → IsTally (λ p. list_any (point_eq p) l.later.keys) (g.T.CoinTest.wanted l.test) (es ++ take l.place l.coins.entries) l.tally.ids.keys l.tally.kept l.tally.lost)
    × (l.tally.kept + l.tally.lost ≤ l.fn.tally.kept + l.fn.tally.lost + l.place)
