use Rattle.std.proofs.Common.{◌≡◌, ℕ, List, Option, ◌∙◌, ap, subst, arith, length}
use Rattle.std.specs.Prelude.{IfSome, Vec}
use Rattle.gate_tx.specs.Tx.{Tx}
use Rattle.gate_pool.specs.Pool.{Admitted}
use Rattle.gate_pool.specs.Family.{AreIdsOf}
use Rattle.gate_pool.proofs.Walking.{shorter}
use Rattle.gate_pool.specs.Counting.{is_counted, counted_of}
use Rattle.gate_rbf.proofs.Rivals.{some_unless_none}
use Rattle.gate_rbf.proofs.direct.conflicts.Goals as goal

pub unwrap-requires : goal.unwrap-requires
unwrap-requires g c =
    let counted = c.in_ok-counted.counted in
    some_unless_none c.in_ok-found.found (λ none.
    absurd (omega (arith, c.in_ok-found.ensures.many none, c.count.ensures, ap length (c.in_ok-counted.ensures.entries ∙ c.in_ok-direct.ensures.entries), shorter (is_counted counted.sibling counted.tx) counted.entries)))

pub returns : goal.returns
returns g c =
    let counted = c.in_ok-counted.counted in
    let ids = c.unwrap.result in
    let are : AreIdsOf ids.items (counted_of counted.entries counted.sibling counted.tx) =
    subst (λ (o : Option (Vec (List ℕ) _)). IfSome o (λ ids. AreIdsOf ids.items (counted_of counted.entries counted.sibling counted.tx))) c.unwrap.ensures c.in_ok-found.ensures.found in
    subst (λ (s : Option (List ℕ)). AreIdsOf ids.items (counted_of c.args.pool.now.entries s c.args.tx.now)) c.in_ok-counted.ensures.sibling
    (subst (λ (t : Tx). AreIdsOf ids.items (counted_of c.args.pool.now.entries counted.sibling t)) (c.in_ok-counted.ensures.transaction ∙ c.in_ok-direct.ensures.transaction)
    (subst (λ (l : List Admitted). AreIdsOf ids.items (counted_of l counted.sibling counted.tx)) (c.in_ok-counted.ensures.entries ∙ c.in_ok-direct.ensures.entries) are))
