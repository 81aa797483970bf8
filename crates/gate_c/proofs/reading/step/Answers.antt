use Rattle.std.proofs.Common.{subst, sym}
use Rattle.gate_c.specs.Reached.{IsReached}
use Rattle.gate_c.proofs.Reaching.{step_reached}
use Rattle.gate_c.proofs.reading.step.Goals as goal

pub returns-in-Ok-clause-reached : goal.returns-in-Ok-clause-reached
returns-in-Ok-clause-reached c = λ opened. step_reached opened c.args.tracked.now.world c.step.new.self.world c.args.event.now c.in-Ok.reply c.recall_spelled.ensures c.in-Ok.ensures.exact

pub returns-in-Err-Memory-clause-reached : goal.returns-in-Err-Memory-clause-reached
returns-in-Err-Memory-clause-reached c = λ opened reached. subst (IsReached opened) (sym c.in-Err-Memory.ensures.err) reached
