use Rattle.std.proofs.Common.{◌≡◌, ◌+◌, ◌-◌, ◌*◌}
use Rattle.gate_opening.proofs.EvenSteps.{last_fits}
use Rattle.gate_opening.proofs.times.times_fit.Goals as goal

pub returns : goal.returns
returns c =
    let is : c.from.result + c.from-2.result * c.from-3.result ≡ c.args.first + (c.args.count - 1) * c.args.step = rw (c.from.ensures, c.from-2.ensures, c.from-3.ensures) in
    last_fits c.args.count c.args.first c.args.step _ _ c.if-count-eq0.false c.from-4.ensures is
