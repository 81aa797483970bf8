use Rattle.gate_trim.proofs.Picking.{trims_the_least}
use Rattle.gate_trim.proofs.law.trimming_takes_the_least.Goals as goal

pub returns : goal.returns
returns c = trims_the_least
