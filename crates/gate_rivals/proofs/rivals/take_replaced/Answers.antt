use Rattle.std.proofs.Common.{map, ap, ◌∙◌}
use Rattle.gate_rivals.specs.Rivals.{all_inputs, point_of}
use Rattle.gate_rivals.proofs.Rivalry.{same_staying}
use Rattle.gate_rivals.proofs.rivals.take_replaced.Goals as goal

pub returns-clause-ok : goal.returns-clause-ok
returns-clause-ok g c =
    c.take_spenders.ensures.entries
    ∙ same_staying c.args.pool.now.entries c.as_slice.result.now (all_inputs c.args.these.now) (ap (map point_of) c.as_slice.ensures.value ∙ c.in_ok-inputs.ensures)
