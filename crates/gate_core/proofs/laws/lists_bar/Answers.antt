use Rattle.gate_core.proofs.Barring.{lists_bar, only_senders_change}
use Rattle.gate_core.proofs.laws.lists_bar.Goals as goal

pub returns-clause-barred : goal.returns-clause-barred
returns-clause-barred c = lists_bar

pub returns-clause-senders : goal.returns-clause-senders
returns-clause-senders c = only_senders_change
