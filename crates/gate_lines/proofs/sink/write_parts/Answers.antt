use Rattle.gate_lines.proofs.LineLemmas.{write_step}
use Rattle.gate_lines.proofs.sink.write_parts.Goals as goal

pub loop-at-preserved : goal.loop-at-preserved
loop-at-preserved g c = write_step _ _ _ c.args.text.now c.loop-at.at c.in-Ok.n c.loop-at.invariant.0 c.in-Ok.ensures.bound c.loop-at.invariant.1 c.in-Ok.ensures.bytes
