use Rattle.std.proofs.Common.{sym, ◌∙◌}
use Rattle.gate_rbf.proofs.Rivals.{some_unless_none}
use Rattle.gate_admit.proofs.Kinship.{kept_without, never_more}
use Rattle.gate_admit.proofs.truc.is_truc_violation.Goals as goal

pub returns-then-not-truc : goal.returns-then-not-truc
returns-then-not-truc g c = sym (kept_without c.args.policy.now c.args.pool.now.entries c.args.tx.now c.args.vsize (sym c.truc.ensures ∙ c.if-not-truc.true))

pub unwrap-above-requires : goal.unwrap-above-requires
unwrap-above-requires g c =
    some_unless_none c.in_ok-found.found (λ none. never_more c.args.pool.now.entries c.inputs.result.now c.count.result c.count.ensures (c.in_ok-found.ensures.many none))
