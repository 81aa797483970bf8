use Rattle.std.proofs.Common.{subst}
use Rattle.gate_admit.specs.Policies.{IsPolicy}
use Rattle.gate_core.specs.Opening.{Start}
use Rattle.gate_core.proofs.Keeping.{all_opened_good}
use Rattle.gate_core.proofs.state.State.open.Goals as goal

pub returns-clause-good : goal.returns-clause-good
returns-clause-good g c =
    all_opened_good c.args.opening (subst (λ (o : Start). IsPolicy o.policy) c.opening.view_is c.recall_bounds.ensures) c.opened.result c.opened.ensures.ok
