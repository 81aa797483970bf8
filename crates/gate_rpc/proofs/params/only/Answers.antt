use Rattle.gate_rpc.proofs.Alone.{not_alone}
use Rattle.gate_rpc.proofs.params.only.Goals as goal

pub returns-else-items-eq1 : goal.returns-else-items-eq1
returns-else-items-eq1 c = not_alone c.args.items.now c.if-items-eq1.false
