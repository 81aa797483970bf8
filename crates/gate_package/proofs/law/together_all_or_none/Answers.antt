use Rattle.gate_package.proofs.AllOrNone.{all_or_none}
use Rattle.gate_package.proofs.law.together_all_or_none.Goals as goal

pub returns : goal.returns
returns c = all_or_none
