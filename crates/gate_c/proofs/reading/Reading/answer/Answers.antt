use Rattle.std.proofs.Common.{subst, sym}
use Rattle.gate_c.specs.Reached.{IsReached}
use Rattle.gate_c.proofs.reading.Reading.answer.Goals as goal

pub returns-in-Nothing-clause-reached : goal.returns-in-Nothing-clause-reached
returns-in-Nothing-clause-reached c = λ opened reached. subst (IsReached opened) (sym c.rest.ensures.world) reached

pub returns-in-BadLine-clause-reached : goal.returns-in-BadLine-clause-reached
returns-in-BadLine-clause-reached c = λ opened reached. subst (IsReached opened) (sym c.rest-in-BadLine.ensures.world) reached
