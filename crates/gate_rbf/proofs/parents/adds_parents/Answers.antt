use Rattle.std.proofs.Common.{ap, ◌∙◌}
use Rattle.std.specs.Prelude.{filter}
use Rattle.std.specs.List.{list_any}
use Rattle.gate_rbf.specs.Replacing.{adds_parent}
use Rattle.gate_rbf.specs.Gathering.{is_new}
use Rattle.gate_rbf.proofs.Adopting.{any_new_parent}
use Rattle.gate_rbf.proofs.parents.adds_parents.Goals as goal

pub returns : goal.returns
returns g c = λ test are.
    let entries = c.args.pool.now.entries in
    c.has_new.ensures
    ∙ ap (list_any (is_new entries c.args.direct.now)) c.as_slice.ensures.value
    ∙ any_new_parent entries c.recall_distinct.ensures test c.args.direct.now are c.inputs.result.now c.in_ok-above.above.items c.in_ok-above.ensures
    ∙ ap (list_any (adds_parent entries (filter test entries))) c.inputs.ensures
