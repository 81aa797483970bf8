use Rattle.gate_package.proofs.Raising.{replacement_raises}
use Rattle.gate_package.proofs.law.replacement_pays.Goals as goal

pub returns : goal.returns
returns c = replacement_raises
