use Rattle.gate_figures.proofs.MemberDeciding.{first_tries_decide, members_decide, prices_decide, sums_decide}
use Rattle.gate_figures.proofs.laws.member_figures_decide.Goals as goal

pub returns-clause-alone : goal.returns-clause-alone
returns-clause-alone c = members_decide

pub returns-clause-crowded : goal.returns-clause-crowded
returns-clause-crowded c = first_tries_decide

pub returns-clause-paid : goal.returns-clause-paid
returns-clause-paid c = prices_decide

pub returns-clause-together : goal.returns-clause-together
returns-clause-together c = sums_decide
