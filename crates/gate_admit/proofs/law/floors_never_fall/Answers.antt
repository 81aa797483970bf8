use Rattle.gate_admit.proofs.Submissions.{submission_floor}
use Rattle.gate_admit.proofs.law.floors_never_fall.Goals as goal

pub returns : goal.returns
returns c = submission_floor
