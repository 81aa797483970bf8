use Rattle.gate_package.proofs.One.{of_one}
use Rattle.gate_package.proofs.law.package_of_one.Goals as goal

pub returns : goal.returns
returns c = of_one
