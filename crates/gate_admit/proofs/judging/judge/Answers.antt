use Rattle.std.proofs.Common.{sym, ◌∙◌}
use Rattle.gate_admit.specs.Standing.{standing}
use Rattle.gate_admit.specs.declared.attempt.Attempt.TheVariants.{First}
use Rattle.gate_admit.proofs.Granted.{undecoded}
use Rattle.gate_admit.proofs.judging.judge.Goals as goal

pub returns-in-None-clause-decision : goal.returns-in-None-clause-decision
returns-in-None-clause-decision g c =
    undecoded First (standing c.args.chain.now c.args.pool.now.entries c.args.floor.now c.args.verdicts.now c.args.policy.now) c.args.prepared.now (sym c.candidate.ensures ∙ c.in-None.is)
