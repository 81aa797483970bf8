use Rattle.gate_package.proofs.Keeping.{package_truc}
use Rattle.gate_package.proofs.law.package_keeps_truc.Goals as goal

pub returns : goal.returns
returns c = package_truc
