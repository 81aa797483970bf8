use Rattle.gate_figures.proofs.Passing.{rate_asks}
use Rattle.gate_figures.proofs.least.fee_above.Goals as goal

pub returns : goal.returns
returns c = λ fee. rate_asks fee c.args.vsize c.args.rate c.from.result c.div_ceil.result c.requires.some c.from.ensures c.div_ceil.ensures
