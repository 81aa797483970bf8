use Rattle.gate_rounds.proofs.Telling.{ToldSoFar}
use Rattle.gate_rounds.proofs.lanes_job.run_rounds.Given as goal

abbrev pub invariant-loop-lanes : goal.invariant-loop-lanes
invariant-loop-lanes g l =
    ToldSoFar l.options.journal l.fn.state l.rounds l.lanes-index l.start.state l.start.behind
    (g.W.Write.contents l.initial.writer) (g.W.Write.contents l.writer) (g.W.Sink.held l.writer)
