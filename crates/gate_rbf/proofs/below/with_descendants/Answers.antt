use Rattle.std.proofs.Common.{ℕ, List, Option, subst, arith}
use Rattle.std.specs.Prelude.{IfSome, Vec}
use Rattle.gate_pool.specs.Family.{is_below_some, all_below, AreIdsOf}
use Rattle.gate_pool.proofs.Walking.{shorter}
use Rattle.gate_rbf.proofs.Rivals.{some_unless_none}
use Rattle.gate_rbf.proofs.below.with_descendants.Goals as goal

pub unwrap-requires : goal.unwrap-requires
unwrap-requires g c =
    let entries = c.args.pool.now.entries in
    some_unless_none c.in_ok-found.found (λ none.
    absurd (omega (arith, c.in_ok-found.ensures.many c.requires.0 c.requires.1 none, c.count.ensures, shorter (is_below_some c.requires.0 entries) entries)))

pub returns : goal.returns
returns g c = λ test are.
    subst (λ (o : Option (Vec (List ℕ) _)). IfSome o (λ ids. AreIdsOf ids.items (all_below test c.args.pool.now.entries))) c.unwrap.ensures (c.in_ok-found.ensures.found test are)
