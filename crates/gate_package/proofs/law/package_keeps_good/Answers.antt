use Rattle.gate_package.proofs.Keeping.{package_good}
use Rattle.gate_package.proofs.law.package_keeps_good.Goals as goal

pub returns : goal.returns
returns c = package_good
