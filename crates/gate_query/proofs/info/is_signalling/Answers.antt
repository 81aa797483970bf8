use Rattle.std.proofs.Common.{sym, ap, ◌∙◌}
use Rattle.gate_rbf.specs.Replacing.{signals}
use Rattle.gate_rbf.proofs.Spenders.{held_by, unheld}
use Rattle.gate_query.specs.Answers.{is_replaceable}
use Rattle.gate_query.proofs.info.is_signalling.Goals as goal

pub returns-in-Some : goal.returns-in-Some
returns-in-Some g c =
    c.signals.ensures ∙ ap signals c.transaction.ensures
    ∙ sym (held_by c.args.pool.now.entries is_replaceable c.recall_distinct.ensures c.args.txid.now c.in-Some.entry.now (sym c.in-Some.ensures))

pub returns-in-None : goal.returns-in-None
returns-in-None g c = sym (unheld c.args.pool.now.entries is_replaceable c.args.txid.now (sym c.in-None.ensures))
