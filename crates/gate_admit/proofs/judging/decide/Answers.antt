use Rattle.std.proofs.Common.{Some}
use Rattle.gate_admit.specs.Lending.{lent}
use Rattle.gate_admit.proofs.Granted.{answers_live, answers_fit}
use Rattle.gate_admit.proofs.judging.decide.Goals as goal

pub returns-clause-live : goal.returns-clause-live
returns-clause-live g c =
    answers_live c.args.attempt (lent c.args.over.now) (Some c.args.candidate.now) c.find_decision.result c.find_decision.ensures

pub returns-clause-fits : goal.returns-clause-fits
returns-clause-fits g c =
    answers_fit c.args.attempt (lent c.args.over.now) (Some c.args.candidate.now) c.recall_bounds.ensures c.find_decision.result c.find_decision.ensures
