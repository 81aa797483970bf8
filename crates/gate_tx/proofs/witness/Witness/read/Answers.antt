use Rattle.std.proofs.lemmas.Result.{err_from_is_err_and}
use Rattle.gate_tx.proofs.Items.{split_is, read_is, read_fails}
use Rattle.gate_tx.proofs.witness.Witness.read.Goals as goal

pub returns-in_err-texts : goal.returns-in_err-texts
returns-in_err-texts c =
    let p = err_from_is_err_and c.from_residual-in_err-texts.result c.from_residual-in_err-texts.ensures.1 in
    let counted = c.in_ok-count.ensures.exact in
    let fails = rw c.take_rest-bytes.ensures at c.in_err-texts.ensures.gives in
    rw (p.1, p.2) (read_fails c.args.cursor.now c.compact.new.self c.in_ok-count.count c.in_err-texts.field-0.0 counted fails)

pub invariant_of-result : goal.invariant_of-result
invariant_of-result c =
    rw c.in_ok-from_slice.ensures.items (split_is c.in_ok-count.count c.take_rest-bytes.result.now c.in_ok-texts.texts.now c.in_ok-texts.rest.now c.in_ok-texts.ensures.bytes c.in_ok-texts.ensures.gives).is_kept

pub returns : goal.returns
returns c =
    let fits = rw c.take_rest-bytes.ensures at c.in_ok-texts.ensures.bytes in
    let split = rw c.take_rest-bytes.ensures at c.in_ok-texts.ensures.gives in
    rw (c.in_ok-from_slice.ensures.items, c.new.ensures) (read_is c.args.cursor.now c.compact.new.self c.in_ok-texts.texts.now c.in_ok-texts.rest.now c.in_ok-count.count c.in_ok-count.ensures.exact fits split)
