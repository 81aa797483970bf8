use Rattle.std.proofs.Common.{is_some, sym, ap, ◌∙◌}
use Rattle.gate_pool.proofs.Admission.{IsNew-free}
use Rattle.gate_pool.proofs.Searching.{copied_some}
use Rattle.gate_pool.proofs.pool.Pool.is_new.Goals as goal

pub returns : goal.returns
returns g c =
    IsNew-free c.args.self.now.entries c.args.entry.now c.is_free.result
    (ap is_some (sym (rw c.txid.ensures at c.entry.ensures)) ∙ copied_some c.entry.result ∙ sym c.is_some.ensures ∙ c.if-is_some.false)
    (ap is_some (sym (rw c.wtxid.ensures at c.by_wtxid.ensures)) ∙ copied_some c.by_wtxid.result ∙ sym c.is_some-2.ensures ∙ c.if-is_some-2.false)
    (rw (c.inputs.ensures, c.transaction.ensures) at c.is_free.ensures)
