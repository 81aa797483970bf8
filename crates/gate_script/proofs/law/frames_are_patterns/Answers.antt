use Rattle.gate_script.proofs.Patterns.{frames_are_patterns}
use Rattle.gate_script.proofs.law.frames_are_patterns.Goals as goal

pub returns : goal.returns
returns c = frames_are_patterns
