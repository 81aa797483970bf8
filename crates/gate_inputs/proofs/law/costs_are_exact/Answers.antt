use Rattle.gate_inputs.proofs.Costs.{costs_are_exact, legacy_sigops_are_exact}
use Rattle.gate_inputs.proofs.law.costs_are_exact.Goals as goal

pub returns : goal.returns
returns c = record { costs = costs_are_exact; counts = legacy_sigops_are_exact }
