use Rattle.std.proofs.Common.{◌∙◌, Option, Some, None, ap, refl, subst}
use Rattle.std.specs.Prelude.{IfOk}
use Rattle.gate_tx.specs.Tx.{Tx}
use Rattle.gate_core.specs.World.{standing_of}
use Rattle.gate_figures.specs.Least.{IsLeastFor}
use Rattle.gate_figures.proofs.least.least_fee_for.Goals as goal

pub returns-in-Some : goal.returns-in-Some
returns-in-Some g c =
    subst (λ (s : Option Tx). IfOk c.least_fee_of.result (IsLeastFor (standing_of c.args.state.now) s)) (ap (λ (t : Tx). Some t) (c.get.ensures ∙ c.identified.ensures) ∙ c.in-Some.ensures) c.least_fee_of.ensures

pub returns-in-None : goal.returns-in-None
returns-in-None g c = subst (λ (s : Option Tx). IsLeastFor (standing_of c.args.state.now) s None) c.in-None.ensures refl
