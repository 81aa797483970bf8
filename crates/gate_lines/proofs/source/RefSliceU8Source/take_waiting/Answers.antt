use Rattle.std.proofs.Common.{◌≤◌, length, take, arith}
use Rattle.std.proofs.lemmas.Grind.{common_steps}
use Rattle.gate_lines.proofs.source.RefSliceU8Source.take_waiting.Goals as goal

pub returns-clause-taken : goal.returns-clause-taken
returns-clause-taken c =
    let shown = rw c.in-Some.is at c.in_ok-taken.ensures.ok in
    let within : c.in-Some.taken ≤ length c.args.self.now.now = shown.0 in
    (take c.in-Some.taken c.args.self.now.now, grind (arith, common_steps), shown.1, tt)
