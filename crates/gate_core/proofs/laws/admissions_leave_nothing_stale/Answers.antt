use Rattle.gate_core.proofs.Floors.{admitted_young}
use Rattle.gate_core.proofs.Sending.{calls_leave_nothing_stale}
use Rattle.gate_core.proofs.laws.admissions_leave_nothing_stale.Goals as goal

pub returns-clause-peers : goal.returns-clause-peers
returns-clause-peers c = admitted_young

pub returns-clause-users : goal.returns-clause-users
returns-clause-users c = calls_leave_nothing_stale
