use Rattle.std.proofs.Common.{◌∙◌}
use Rattle.std.specs.Str.{bytes_eq}
use Rattle.indexmap.specs.IndexSet.{contains}
use Rattle.gate_reorg.proofs.Picked.{without_listed}
use Rattle.gate_reorg.proofs.staleness.take_premature.Goals as goal

pub returns-clause-entries : goal.returns-clause-entries
returns-clause-entries g c = c.take_below.ensures.entries ∙ without_listed c.args.chain.now c.args.pool.now.entries c.recall_distinct.ensures (contains bytes_eq c.in_ok-ids.ids) c.in_ok-ids.ensures
