use Rattle.std.proofs.Common.{arith}
use Rattle.gate_pool.specs.Counting.{counted_of, is_counted}
use Rattle.gate_pool.proofs.Walking.{Contains-from_filter}
use Rattle.gate_rbf.proofs.Counted.{counted-least}
use Rattle.gate_rbf.proofs.counting.CountedConflicts.few_ids.Goals as goal

pub returns-in_default-clause-many : goal.returns-in_default-clause-many
returns-in_default-clause-many g c = λ _.
    let entries = c.args.self.now.entries in
    let tx = c.args.self.now.tx in
    let sibling = c.args.self.now.sibling in
    omega (arith, c.in_ok-ids.ensures.many c.in_default.is, counted-least entries (counted_of entries sibling tx) (Contains-from_filter (is_counted sibling tx) entries))
