use Rattle.std.proofs.Common.{◌≤◌, length, take, arith}
use Rattle.std.proofs.lemmas.Grind.{common_steps}
use Rattle.gate_lines.proofs.source.take_shown_line.Goals as goal

pub returns : goal.returns
returns g c =
    let shown = rw c.in-Some.is at c.in_ok-taken.ensures.ok in
    let within : c.in-Some.taken ≤ length c.in-Ok.shown.now = shown.0 in
    (take c.in-Some.taken c.in-Ok.shown.now, grind (arith, common_steps), shown.1, tt)
