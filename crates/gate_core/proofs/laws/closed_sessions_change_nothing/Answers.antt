use Rattle.std.proofs.Common.{Option, ap}
use Rattle.gate_message.specs.declared.reply.Reply.{Reply}
use Rattle.gate_core.specs.World.{World}
use Rattle.gate_core.proofs.ClosedSessions.{step_closed}
use Rattle.gate_core.proofs.laws.closed_sessions_change_nothing.Goals as goal

pub returns : goal.returns
returns c = λ w event peer s own h shut. ap (λ (p : Option Reply × World). p.1) (step_closed w event peer s own h shut)
