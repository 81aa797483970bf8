use Rattle.std.proofs.Common.{Option, None, refl, subst}
use Rattle.std.specs.Prelude.{IfOk}
use Rattle.gate_tx.specs.Tx.{Tx}
use Rattle.gate_core.specs.World.{standing_of}
use Rattle.gate_figures.specs.Least.{LeastFeeFound}
use Rattle.gate_figures.proofs.least.least_fee.Goals as goal

pub returns-in-Some : goal.returns-in-Some
returns-in-Some g c =
    subst (λ (s : Option (Option Tx)). IfOk c.least_fee_for.result (LeastFeeFound (standing_of c.args.state.now) s)) c.in-Some.ensures c.least_fee_for.ensures

pub returns-in-None : goal.returns-in-None
returns-in-None g c = subst (λ (s : Option (Option Tx)). LeastFeeFound (standing_of c.args.state.now) s None) c.in-None.ensures refl
