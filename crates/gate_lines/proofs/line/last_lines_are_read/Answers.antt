use Rattle.gate_lines.proofs.LastLines.{last_line_read}
use Rattle.gate_lines.proofs.line.last_lines_are_read.Goals as goal

pub returns : goal.returns
returns c = last_line_read
