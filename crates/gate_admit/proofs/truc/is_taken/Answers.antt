use Rattle.std.proofs.Common.{List, sym, ◌∙◌, subst}
use Rattle.gate_pool.specs.Pool.{Admitted}
use Rattle.gate_pool.specs.Search.{IsEntry}
use Rattle.gate_admit.proofs.Kinship.{taken_unless_child}
use Rattle.gate_admit.proofs.truc.is_taken.Goals as goal

pub count_below-requires : goal.count_below-requires
count_below-requires g c = subst (λ (l : List Admitted). IsEntry l c.args.parent.now) (sym c.pool.ensures) c.requires

pub returns-then-has_child_of : goal.returns-then-has_child_of
returns-then-has_child_of g c =
    let direct = c.args.direct.now in
    sym (taken_unless_child direct.entries direct.tx c.args.parent.now (sym c.has_child_of.ensures ∙ c.if-has_child_of.true))

pub evictable-requires : goal.evictable-requires
evictable-requires g c = subst (λ (l : List Admitted). IsEntry l c.args.parent.now) (sym c.pool-2.ensures) c.requires
