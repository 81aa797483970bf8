use Rattle.std.proofs.Common.{◌∙◌, sym, true≢false}
use Rattle.gate_rbf.proofs.Counted.{entry_found}
use Rattle.gate_package.proofs.truc.has_below.Goals as goal

pub returns-in-None : goal.returns-in-None
returns-in-None g c = λ a m is. absurd (true≢false (sym (entry_found c.args.pool.now.entries c.args.txid.now (a, m, is)) ∙ sym c.in-None.ensures.found))
