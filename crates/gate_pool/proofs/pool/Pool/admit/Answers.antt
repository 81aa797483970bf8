use Rattle.std.proofs.Common.{◌++◌, ◌∷◌, [], ap, ◌∙◌}
use Rattle.gate_pool.specs.Family.{entered}
use Rattle.gate_pool.proofs.Conflicts.{none_left}
use Rattle.gate_pool.proofs.pool.Pool.admit.Goals as goal

pub returns-clause-ok : goal.returns-clause-ok
returns-clause-ok g c =
    let e = c.args.entry in
    c.replace.ensures.entries ∙ ap (λ l. entered l e) c.in_ok-reserve.ensures.entries
    ∙ ap (λ l. l ++ e ∷ []) (none_left e.tx.inputs c.args.self.now.entries c.requires.points)
