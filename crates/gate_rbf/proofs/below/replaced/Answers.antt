use Rattle.std.proofs.Common.{ℕ, List, subst, sym}
use Rattle.std.specs.Prelude.{filter}
use Rattle.gate_pool.specs.Family.{is_among, AreIdsOf}
use Rattle.gate_rbf.proofs.below.replaced.Goals as goal

pub with_descendants-requires : goal.with_descendants-requires
with_descendants-requires g c =
    let test = is_among c.args.ids.now in
    (test, subst (λ (l : List (List ℕ)). AreIdsOf l (filter test c.args.pool.now.entries)) (sym c.as_slice.ensures.value) c.in_ok-roots.ensures)
