use Rattle.std.proofs.Common.{◌∙◌, arith}
use Rattle.gate_pool.specs.Pool.{is_before}
use Rattle.gate_trim.specs.Expiry.{is_stale}
use Rattle.gate_trim.proofs.Aging.{without_below-same, stale_is}
use Rattle.gate_trim.proofs.expiry.expire.Goals as goal

pub returns-clause-entries : goal.returns-clause-entries
returns-clause-entries g c =
    c.take_before.ensures.entries
    ∙ without_below-same (is_before c.saturating_sub.result) (is_stale c.args.stay c.args.now) (λ e. stale_is c.args.stay c.args.now c.saturating_sub.result e (omega (arith, c.saturating_sub.ensures))) c.args.pool.now.entries
