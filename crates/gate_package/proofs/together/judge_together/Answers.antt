use Rattle.std.proofs.Common.{length, ap, ◌∙◌}
use Rattle.gate_admit.specs.Lending.{lent_with}
use Rattle.gate_package.proofs.AllOrNone.{halves_one_each}
use Rattle.gate_package.proofs.together.judge_together.Goals as goal

pub check_all-requires-clause-one_each : goal.check_all-requires-clause-one_each
check_all-requires-clause-one_each g c =
    ap length c.as_slice.ensures
    ∙ halves_one_each c.args.max_rate (lent_with c.args.under.now c.args.pool.now.entries) c.args.these.now _ c.in-Ok.prices c.in_ok-prices.ensures.halves c.in-Ok.is
