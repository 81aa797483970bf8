use Rattle.gate_admit.proofs.Everyone.{readmissions_ask_of_all}
use Rattle.gate_admit.proofs.law.readmissions_ask_of_all.Goals as goal

pub returns : goal.returns
returns c = readmissions_ask_of_all
