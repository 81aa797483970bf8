use Rattle.std.proofs.lemmas.Result.{IfOk-weaker}
use Rattle.gate_rpc.proofs.packaging.other_text.Goals as goal

pub returns : goal.returns
returns c = IfOk-weaker c.format.result _ _ (λ text is. is) c.format.ensures.ok
