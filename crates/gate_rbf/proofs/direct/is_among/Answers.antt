use Rattle.std.proofs.Common.{◌∙◌}
use Rattle.gate_rbf.proofs.Choosing.{listed}
use Rattle.gate_rbf.proofs.direct.is_among.Goals as goal

pub returns : goal.returns
returns c = c.contains.ensures.value ∙ listed c.args.ids.now c.args.rival.now c.txid.result c.txid.ensures
