use Rattle.gate_rpc.proofs.Alone.{not_package}
use Rattle.gate_rpc.proofs.params.submitted_package.Goals as goal

pub returns : goal.returns
returns c = not_package c.args.params.now c.if-params-eq1.false c.if-params-eq2.false c.if-params-eq3.false
