use Rattle.std.proofs.Common.{sym, ◌∙◌}
use Rattle.gate_admit.proofs.Kinship.{evicts_none_else, evicts_none_without}
use Rattle.gate_admit.proofs.truc.sibling.Goals as goal

pub returns-then-not-truc : goal.returns-then-not-truc
returns-then-not-truc g c = sym (evicts_none_without c.args.policy.now c.args.pool.now.entries c.args.tx.now (sym c.truc.ensures ∙ c.if-not-truc.true))

pub returns-then-not-is_truc : goal.returns-then-not-is_truc
returns-then-not-is_truc g c = sym (evicts_none_else c.args.policy.now c.args.pool.now.entries c.args.tx.now (sym c.is_truc.ensures ∙ c.if-not-is_truc.true))
