use Rattle.gate_split.proofs.PartedLines.{lanes_have_the_lines}
use Rattle.gate_split.proofs.laws.lanes_have_the_lines.Goals as goal

pub returns : goal.returns
returns c = lanes_have_the_lines
