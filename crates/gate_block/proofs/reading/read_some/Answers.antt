use Rattle.std.proofs.Common.{sym, subst, ◌∙◌}
use Rattle.std.proofs.lemmas.Result.{err_from_is_err_and}
use Rattle.gate_tx.specs.Reading.{Fails, tx_at}
use Rattle.gate_tx.specs.Text.{longest}
use Rattle.gate_tx.proofs.Fronts.{front_is}
use Rattle.gate_tx.proofs.Loops.{goes_on, ends, is_done, starts}
use Rattle.gate_block.proofs.Spelled.{behind_short}
use Rattle.gate_block.proofs.reading.read_some.Goals as goal

pub loop-init : goal.loop-init
loop-init c = λ few. (rw c.new-transactions.ensures.items (starts tx_at c.args.count c.args.bytes.now), few)

pub returns-in_err-transaction : goal.returns-in_err-transaction
returns-in_err-transaction c = λ few.
    let i = c.loop.invariant few in
    let p = err_from_is_err_and c.from_residual.result c.from_residual.ensures.1 in
    rw (p.1, p.2) (ends tx_at c.in_err-transaction.field-0.0 _ _ _ _ _ c.loop-test.true (subst (Fails c.in_err-transaction.field-0.0) (front_is _ i.1) c.in_err-transaction.ensures.exact) i.0)

pub loop-preserved : goal.loop-preserved
loop-preserved c = λ few.
    let i = c.loop.invariant few in (
      rw (c.in_ok-push.ensures.items, c.in_ok-new.ensures) (goes_on tx_at _ _ _ _ _ _ _ c.loop-test.true (sym (front_is _ i.1) ∙ c.in_ok-transaction.ensures.exact) i.0),
      behind_short _ _ _ longest c.in_ok-transaction.ensures.found.1 i.1,
    )

pub returns : goal.returns
returns c = λ few. is_done tx_at _ _ _ _ _ c.loop-test.false (c.loop.invariant few).0
