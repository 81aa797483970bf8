use Rattle.std.proofs.Common.{map, ap, subst, ◌∙◌, List}
use Rattle.std.specs.Prelude.{IfOk}
use Rattle.gate_pool.specs.Family.{AreIdsOf}
use Rattle.gate_pool.specs.Pool.{Admitted}
use Rattle.gate_rivals.specs.Rivals.{all_inputs, point_of}
use Rattle.gate_rivals.proofs.Rivalry.{same_rivals}
use Rattle.gate_rivals.proofs.rivals.list_rivals.Goals as goal

pub returns : goal.returns
returns g c =
    subst (λ (l : List Admitted). IfOk c.spenders.result (λ ids. AreIdsOf ids.items l))
    (same_rivals c.args.pool.now.entries c.as_slice.result.now (all_inputs c.args.these.now) (ap (map point_of) c.as_slice.ensures.value ∙ c.in_ok-inputs.ensures)) c.spenders.ensures
