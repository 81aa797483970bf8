use Rattle.gate_c.proofs.Reaching.{opening_reached}
use Rattle.gate_c.proofs.session.read_state.Goals as goal

pub returns-clause-reached : goal.returns-clause-reached
returns-clause-reached c = opening_reached c.args.opening.now c.read_opening.result c.read_opening.ensures.opened c.read_opening.ensures.good
