use Rattle.std.proofs.Common.{ap, ◌∙◌}
use Rattle.std.specs.List.{list_any}
use Rattle.gate_admit.specs.Sweeping.{leaves_dust_at}
use Rattle.gate_admit.proofs.Sweepings.{parents_asked}
use Rattle.gate_admit.proofs.sweeping.leaves_dust.Goals as goal

pub returns : goal.returns
returns g c =
    let entries = c.args.pool.now.entries in
    let inputs = c.args.inputs.now in
    c.leaves_dust_of_one.ensures
    ∙ ap (list_any (leaves_dust_at c.args.rate entries inputs)) c.as_slice.ensures.value
    ∙ parents_asked c.args.rate entries inputs c.in_ok-above.above.items c.in_ok-above.ensures
