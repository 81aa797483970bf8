use Rattle.gate_admit.proofs.Submissions.{empty_good, unconnected_good}
use Rattle.gate_admit.proofs.law.pools_stay_good.Goals as goal

pub returns : goal.returns
returns c = record { empty = empty_good; kept = unconnected_good }
