use Rattle.gate_standard.proofs.Distinct.{outpoints_are_spent_once}
use Rattle.gate_standard.proofs.law.outpoints_are_spent_once.Goals as goal

pub returns : goal.returns
returns c = outpoints_are_spent_once
