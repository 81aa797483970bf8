use Rattle.std.proofs.Common.{◌≡◌, [], List, sym, ◌∙◌, subst}
use Rattle.gate_pool.specs.Family.{ancestors_above, AreIdsOf}
use Rattle.gate_admit.proofs.Families.{alone_breaks, alone_passes, ids_of_none}
use Rattle.gate_admit.proofs.limits.check_alone.Goals as goal

pub breaks_truc-requires : goal.breaks_truc-requires
breaks_truc-requires g c = ids_of_none _ c.requires

pub returns-then-branch : goal.returns-then-branch
returns-then-branch g c =
    let direct = c.args.direct.now in
    sym (alone_breaks c.args.policy.now direct.entries direct.tx c.args.vsize c.recall_bounds.ensures.ancestors c.requires (sym c.in_ok-breaks_truc.ensures ∙ c.if-branch.true))

pub returns : goal.returns
returns g c =
    let direct = c.args.direct.now in
    sym (alone_passes c.args.policy.now direct.entries direct.tx c.args.vsize c.recall_bounds.ensures.ancestors c.requires (sym c.in_ok-breaks_truc.ensures ∙ c.if-branch.false))
