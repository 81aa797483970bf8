use Rattle.std.proofs.Common.{◌≡◌, List, not, sym, subst}
use Rattle.std.specs.Prelude.{filter, nat_lt}
use Rattle.gate_pool.specs.Pool.{Admitted}
use Rattle.gate_pool.specs.Family.{AreIdsOf}
use Rattle.gate_pool.specs.Counting.{is_counted}
use Rattle.gate_rbf.specs.Replacing.{descendant_count}
use Rattle.gate_rbf.proofs.counting.CountedConflicts.has_few_descendants.Goals as goal

pub has_few_descendants-requires : goal.has_few_descendants-requires
has_few_descendants-requires g c =
    let test = is_counted c.args.self.now.sibling c.args.self.now.tx in
    (test, subst (λ (l : List Admitted). AreIdsOf c.args.ids.now (filter test l)) (sym c.pool.ensures) c.requires)

pub returns : goal.returns
returns g c =
    let test = is_counted c.args.self.now.sibling c.args.self.now.tx in
    subst (λ (l : List Admitted). c.has_few_descendants.result ≡ not (nat_lt 100 (descendant_count l (filter test l)))) c.pool.ensures
    (c.has_few_descendants.ensures test (subst (λ (l : List Admitted). AreIdsOf c.args.ids.now (filter test l)) (sym c.pool.ensures) c.requires))
