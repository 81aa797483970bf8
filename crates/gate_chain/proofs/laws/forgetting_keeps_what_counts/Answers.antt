use Rattle.gate_chain.proofs.Lawful.{coins_kept, times_kept}
use Rattle.gate_chain.proofs.laws.forgetting_keeps_what_counts.Goals as goal

pub returns-clause-coins : goal.returns-clause-coins
returns-clause-coins c = coins_kept

pub returns-clause-times : goal.returns-clause-times
returns-clause-times c = times_kept
