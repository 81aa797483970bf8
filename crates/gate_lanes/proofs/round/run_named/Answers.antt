use Rattle.gate_lanes.proofs.NextState.{goes_on}
use Rattle.gate_lanes.proofs.round.run_named.Goals as goal

pub returns-in-Ok-clause-ran : goal.returns-in-Ok-clause-ran
returns-in-Ok-clause-ran g c = (
  c.in-Ok.passes.items,
  c.conclude-conclusion.result.1,
  c.in-Ok.ensures.ran,
  c.conclude-conclusion.ensures,
  goes_on (λ end. g.W.Write.contents end.writer) (λ end. end.result) c.in-Ok.ends.items c.conclude-conclusion.result.1 c.next-next.result c.next-next.ensures,
)
