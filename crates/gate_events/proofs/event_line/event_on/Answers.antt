use Rattle.std.proofs.Common.{sym}
use Rattle.gate_events.specs.EventLines.{event_of}
use Rattle.gate_lines.proofs.TextLines.{if_text-read, if_text-no_text}
use Rattle.gate_events.proofs.event_line.event_on.Goals as goal

pub returns-in-Ok : goal.returns-in-Ok
returns-in-Ok c = if_text-read event_of _ _ _ c.in-Ok.ensures.cases.0 c.in-Ok.ensures.cases.1 c.read_event.ensures

pub returns-in-Err : goal.returns-in-Err
returns-in-Err c = sym (if_text-no_text event_of _ c.in-Err.ensures.cases.0)
