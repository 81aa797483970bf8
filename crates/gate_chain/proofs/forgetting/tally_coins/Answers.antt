use Rattle.std.proofs.Common.{◌≡◌, ◌++◌, List, take, sym, subst, arith, append-nil}
use Rattle.std.proofs.lemmas.Bool.Decides.{nat_tests}
use Rattle.std.specs.List.{list_any}
use Rattle.gate_tx.specs.Coins.{point_eq}
use Rattle.gate_tx.specs.declared.OutPoint.{OutPoint}
use Rattle.gate_chain.specs.declared.marked.Marked.{Marked}
use Rattle.gate_chain.specs.Parting.{IsTally}
use Rattle.gate_chain.proofs.forgetting.tally_coins.Goals as goal

pub loop-place-init : goal.loop-place-init
loop-place-init g c = (
  λ es t. subst (λ (l : List (OutPoint × Marked)). IsTally (λ p. list_any (point_eq p) c.args.later.now.keys) (g.T.CoinTest.wanted c.args.test.now) l c.args.tally.now.ids.keys c.args.tally.now.kept c.args.tally.now.lost) (sym (append-nil es)) t,
  omega arith,
)

pub loop-place-preserved : goal.loop-place-preserved
loop-place-preserved g c = (
  λ es t. c.in_ok-tally_place.ensures.tally es (c.loop-place.invariant.0 es t),
  (let a = c.loop-place.invariant.1 in let b = c.in_ok-tally_place.ensures.few in omega arith),
)

pub returns-clause-tally : goal.returns-clause-tally
returns-clause-tally g c = λ es t.
    let all : c.loop-place.place ≡ c.args.count = grind (arith, nat_tests) in
    subst (λ k. IsTally (λ p. list_any (point_eq p) c.args.later.now.keys) (g.T.CoinTest.wanted c.args.test.now) (es ++ take k c.args.coins.now.entries) c.loop-place.tally.ids.keys c.loop-place.tally.kept c.loop-place.tally.lost) all
    (c.loop-place.invariant.0 es t)
