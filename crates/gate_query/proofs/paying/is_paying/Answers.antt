use Rattle.std.proofs.Common.{sym, ◌∙◌}
use Rattle.gate_rbf.proofs.Spenders.{held_by, unheld}
use Rattle.gate_query.specs.Answers.{pays}
use Rattle.gate_query.proofs.paying.is_paying.Goals as goal

pub returns-in-Some : goal.returns-in-Some
returns-in-Some g c = c.pays.ensures ∙ sym (held_by c.args.pool.now.entries (pays c.args.rate) c.recall_distinct.ensures c.args.txid.now c.in-Some.entry.now (sym c.in-Some.ensures))

pub returns-in-None : goal.returns-in-None
returns-in-None g c = sym (unheld c.args.pool.now.entries (pays c.args.rate) c.args.txid.now (sym c.in-None.ensures))
