use Rattle.std.proofs.Common.{sym}
use Rattle.gate_opening.specs.OpeningLines.{opening_line_of}
use Rattle.gate_lines.proofs.TextLines.{if_text-read, if_text-no_text}
use Rattle.gate_opening.proofs.draft.said_on.Goals as goal

pub returns-in-Ok : goal.returns-in-Ok
returns-in-Ok c = if_text-read opening_line_of _ _ _ c.in-Ok.ensures.cases.0 c.in-Ok.ensures.cases.1 c.read_opening_line.ensures

pub returns-in-Err : goal.returns-in-Err
returns-in-Err c = sym (if_text-no_text opening_line_of _ c.in-Err.ensures.cases.0)
