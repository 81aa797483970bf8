use Rattle.std.proofs.Common.{◌≡◌, List, sym, ◌∙◌, subst}
use Rattle.std.specs.Prelude.{IfOk}
use Rattle.gate_pool.specs.Pool.{Admitted}
use Rattle.gate_pool.specs.Search.{IsEntry}
use Rattle.gate_admit.specs.Truc.{evictable, others_below}
use Rattle.gate_admit.proofs.Kinship.{sibling_unless_child, sibling_without_child}
use Rattle.gate_admit.proofs.truc.sibling_below.Goals as goal

pub returns-then-has_child_of : goal.returns-then-has_child_of
returns-then-has_child_of g c =
    let direct = c.args.direct.now in
    sym (sibling_unless_child direct.entries direct.tx c.args.parent.now (sym c.has_child_of.ensures ∙ c.if-has_child_of.true))

pub evictable-requires : goal.evictable-requires
evictable-requires g c = subst (λ (l : List Admitted). IsEntry l c.args.parent.now) (sym c.pool.ensures) c.requires

pub returns : goal.returns
returns g c =
    let direct = c.args.direct.now in
    let parent = c.args.parent.now in
    let found = subst (λ (l : List Admitted). IfOk c.evictable.result (λ found. found ≡ evictable l (others_below l parent))) c.pool.ensures c.evictable.ensures in
    subst (λ o. IfOk c.evictable.result (λ found. found ≡ o)) (sym (sibling_without_child direct.entries direct.tx parent (sym c.has_child_of.ensures ∙ c.if-has_child_of.false))) found
