use Rattle.std.proofs.Common.{sym, subst, List, ℕ, Option, arith}
use Rattle.std.specs.Prelude.{IfSome, Vec}
use Rattle.gate_pool.specs.Family.{is_below_some, all_below, AreIdsOf}
use Rattle.gate_pool.specs.Counting.{is_counted, counted_of}
use Rattle.gate_pool.proofs.Walking.{shorter}
use Rattle.gate_rbf.proofs.Rivals.{some_unless_none}
use Rattle.gate_figures.proofs.families.replaced.Goals as goal

pub unwrap-requires : goal.unwrap-requires
unwrap-requires g c =
    let entries = c.args.pool.now.entries in
    let tx = c.args.tx.now in
    let sibling = c.args.sibling in
    let are = subst (λ (l : List (List ℕ)). AreIdsOf l (counted_of entries sibling tx)) (sym c.as_slice.ensures.value) c.in_ok-ids.ensures in
    some_unless_none c.in_ok-found.found (λ none.
    absurd (omega (arith, c.in_ok-found.ensures.many (is_counted sibling tx) are none, c.count.ensures, shorter (is_below_some (is_counted sibling tx) entries) entries)))

pub returns : goal.returns
returns g c =
    let entries = c.args.pool.now.entries in
    let tx = c.args.tx.now in
    let sibling = c.args.sibling in
    let are = subst (λ (l : List (List ℕ)). AreIdsOf l (counted_of entries sibling tx)) (sym c.as_slice.ensures.value) c.in_ok-ids.ensures in
    subst (λ (o : Option (Vec (List ℕ) _)). IfSome o (λ ids. AreIdsOf ids.items (all_below (is_counted sibling tx) entries))) c.unwrap.ensures (c.in_ok-found.ensures.found (is_counted sibling tx) are)
