use Rattle.gate_rpc.proofs.Each.{not_first}
use Rattle.gate_rpc.proofs.params.txid_first.Goals as goal

pub returns : goal.returns
returns c = not_first c.args.params.now c.if-params-eq1.false c.if-params-eq2.false
