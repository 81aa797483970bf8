use Rattle.gate_journal.proofs.Replaying.{rounds-join, rounds-part, state_after-joined}
use Rattle.gate_journal.proofs.law.rounds_are_one_journal.Goals as goal

pub returns : goal.returns
returns c = λ w rounds. ((rounds-join w rounds, rounds-part w rounds), state_after-joined w rounds)
