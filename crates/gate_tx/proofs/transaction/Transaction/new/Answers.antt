use Rattle.std.proofs.Common.{refl}
use Rattle.gate_tx.proofs.Shapes.{refusal, unrefused}
use Rattle.gate_tx.proofs.transaction.Transaction.new.Goals as goal

pub returns-then-is_refused-clause-refused : goal.returns-then-is_refused-clause-refused
returns-then-is_refused-clause-refused c =
    let is = rw (c.deref.ensures.value, c.deref-2.ensures.value) at c.if-is_refused.ensures.refused in
    (λ _. refusal c.args.version c.args.inputs.items c.args.outputs.items c.args.locktime (is.0 refl), λ _. refl)

pub of-requires : goal.of-requires
of-requires c =
    let is = rw (c.deref.ensures.value, c.deref-2.ensures.value) at c.if-is_refused.ensures.refused in
    let ins = rw c.deref.ensures.value at c.is_refused.ensures.inputs in
    let outs = rw c.deref-2.ensures.value at c.is_refused.ensures.outputs in
    unrefused c.args.version c.args.inputs.items c.args.outputs.items c.args.locktime c.ranges.version c.ranges.locktime.fits ins outs (λ x. let h = is.1 x in cc)
