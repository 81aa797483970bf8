use Rattle.gate_events.proofs.TextLines.{texts_are_lines}
use Rattle.gate_events.proofs.laws.texts_are_lines.Goals as goal

pub returns : goal.returns
returns c = texts_are_lines
