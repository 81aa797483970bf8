use Rattle.std.proofs.Common.{◌++◌, ◌∷◌, [], arith}
use Rattle.std.proofs.lemmas.Result.{err_from_is_err_and}
use Rattle.gate_bytes.specs.Reading.{IsBytes}
use Rattle.gate_tx.specs.Fault.{tx_fault}
use Rattle.gate_tx.specs.Reading.{var_bytes_at, many_at, split_items}
use Rattle.gate_tx.proofs.Loops.{Fails-at, Fails-from, goes_on, ends, is_done, starts}
use Rattle.gate_tx.proofs.Items.{split_fails, split_read, rest_shorter}
use Rattle.gate_tx.proofs.witness.split_items.Goals as goal

pub loop-init : goal.loop-init
loop-init c = ([], rw c.new-ahead.ensures (starts var_bytes_at c.args.count c.args.bytes.now))

pub returns-in_err-take_counted-clause-gives : goal.returns-in_err-take_counted-clause-gives
returns-in_err-take_counted-clause-gives c =
    let p = err_from_is_err_and c.from_residual.result c.from_residual.ensures.1 in
    let e = tx_fault c.in_err-take_counted.field-0.0 in
    let read = many_at var_bytes_at c.args.count c.args.bytes.now in
    rw (p.1, p.2) (Fails-at e read (split_items c.args.count c.args.bytes.now) (split_fails c.args.count c.args.bytes.now)
    (ends var_bytes_at e c.loop.invariant.0 c.args.count c.loop.counter c.loop.ahead read c.loop-test.true (Fails-from e (var_bytes_at c.loop.ahead) c.in_err-take_counted.ensures) c.loop.invariant.1))

pub loop-preserved : goal.loop-preserved
loop-preserved c =
    let item = c.in_ok-take_counted.field-0.now in
    (c.loop.invariant.0 ++ item ∷ [], goes_on var_bytes_at c.loop.invariant.0 c.args.count c.loop.counter c.loop.ahead item c.take_counted.new.cursor (many_at var_bytes_at c.args.count c.args.bytes.now) c.loop-test.true c.in_ok-take_counted.ensures c.loop.invariant.1)

pub overflow_sub-bytes : goal.overflow_sub-bytes
overflow_sub-bytes c =
    let read = is_done var_bytes_at c.loop.invariant.0 c.args.count c.loop.counter c.loop.ahead (many_at var_bytes_at c.args.count c.args.bytes.now) c.loop-test.false c.loop.invariant.1 in
    let fits : IsBytes c.args.bytes.now = λ i. omega (arith, c.type_inv.bytes i) in
    rw c.left.ensures (rest_shorter c.args.count c.args.bytes.now c.loop.invariant.0 c.loop.ahead fits read)

pub returns-clause-gives : goal.returns-clause-gives
returns-clause-gives c =
    let read = is_done var_bytes_at c.loop.invariant.0 c.args.count c.loop.counter c.loop.ahead (many_at var_bytes_at c.args.count c.args.bytes.now) c.loop-test.false c.loop.invariant.1 in
    let fits : IsBytes c.args.bytes.now = λ i. omega (arith, c.type_inv.bytes i) in
    rw (c.split_at.ensures.front, c.split_at.ensures.back, c.left.ensures) (split_read c.args.count c.args.bytes.now c.loop.invariant.0 c.loop.ahead fits read)
