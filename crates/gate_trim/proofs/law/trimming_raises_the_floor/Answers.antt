use Rattle.gate_trim.proofs.Trimmings.{trim_rises}
use Rattle.gate_trim.proofs.law.trimming_raises_the_floor.Goals as goal

pub returns : goal.returns
returns c = trim_rises
