use Rattle.gate_rbf.proofs.Rivals.{some_unless_none}
use Rattle.gate_admit.proofs.Kinship.{never_more}
use Rattle.gate_package.proofs.truc.breaks_beside.Goals as goal

pub unwrap-above-requires : goal.unwrap-above-requires
unwrap-above-requires g c =
    some_unless_none c.in_ok-found.found (λ none. never_more c.args.pool.now.entries c.inputs.result.now c.count.result c.count.ensures (c.in_ok-found.ensures.many none))
