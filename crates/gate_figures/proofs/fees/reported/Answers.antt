use Rattle.std.proofs.Common.{◌≡◌, ◌∙◌, ◌++◌, List, [], ap, sym, drop, append-nil, arith}
use Rattle.std.proofs.lemmas.List.{drop_all}
use Rattle.gate_inputs.specs.declared.Answers.{Answers}
use Rattle.gate_tx.specs.declared.Coin.{Coin}
use Rattle.gate_admit.specs.Reports.{reported}
use Rattle.gate_figures.proofs.Reporting.{without_coins}
use Rattle.gate_figures.proofs.fees.reported.Goals as goal

pub returns-clause-reported : goal.returns-clause-reported
returns-clause-reported c =
    let place = c.loop-place.place in
    let inputs = drop place c.args.inputs.now in
    let found = c.loop-place.found.items in
    let ended : drop place c.args.coins.now ≡ [] = drop_all place c.args.coins.now (omega (arith, c.loop-place-test.false)) in
    sym (ap (λ (l : List Answers). found ++ l) (ap (λ (coins : List Coin). reported inputs coins) ended ∙ without_coins inputs) ∙ append-nil found) ∙ c.loop-place.invariant.0
