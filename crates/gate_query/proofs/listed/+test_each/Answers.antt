use Rattle.std.proofs.Common.{rules}
use Rattle.gate_pool.specs.Keeping.{IsNew}
use Rattle.gate_query.proofs.Behind.{left_again}
use Rattle.gate_query.proofs.listed.+test_each.Goals as goal

pub returns-clause-same : goal.returns-clause-same
returns-clause-same g t c =
    let new : IsNew c.args.pool.now.entries c.in-Some-entry.entry = search rules in
    left_again c.args.pool.now.entries _ _ _ c.in-Some-entry.entry _ new c.in_ok-admit.ensures.ok c.test_each-tested.ensures.same c.txid-txid.ensures c.remove_root.ensures.entries
