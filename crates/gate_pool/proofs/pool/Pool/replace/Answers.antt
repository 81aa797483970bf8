use Rattle.gate_pool.proofs.pool.Pool.replace.Goals as goal

pub returns-clause-entries : goal.returns-clause-entries
returns-clause-entries g c = c.replace_beside.ensures.entries
