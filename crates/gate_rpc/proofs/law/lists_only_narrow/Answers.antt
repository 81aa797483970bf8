use Rattle.gate_rpc.proofs.Narrowing.{lists_only_narrow}
use Rattle.gate_rpc.proofs.law.lists_only_narrow.Goals as goal

pub returns : goal.returns
returns c = lists_only_narrow
