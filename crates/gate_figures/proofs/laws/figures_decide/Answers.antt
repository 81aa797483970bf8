use Rattle.gate_figures.proofs.Deciding.{figures_decide}
use Rattle.gate_figures.proofs.laws.figures_decide.Goals as goal

pub returns : goal.returns
returns c = figures_decide
