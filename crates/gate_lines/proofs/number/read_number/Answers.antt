use Rattle.std.proofs.Common.{sym}
use Rattle.std.proofs.lemmas.Bool.{eqb-false}
use Rattle.gate_lines.proofs.NumberParts.{number_read, number_from_err}
use Rattle.gate_lines.proofs.number.read_number.Goals as goal

pub returns-then-n-le-MAX_NUMBER : goal.returns-then-n-le-MAX_NUMBER
returns-then-n-le-MAX_NUMBER c =
    let first = rw c.as_bytes-2.ensures.value at c.if-begins_with_plus.ensures in
    let zero = rw c.as_bytes.ensures.value at c.if-not-lacks_leading_zero.ensures in
    number_read c.args.text.now c.parse.result c.in-Ok.n c.in-Ok.is c.if-n-le-MAX_NUMBER.true (eqb-false _ _ (sym first)) (sym zero) c.parse.ensures.value.0

pub returns-in-Err : goal.returns-in-Err
returns-in-Err c =
    let first = rw c.as_bytes-2.ensures.value at c.if-begins_with_plus.ensures in
    number_from_err c.args.text.now c.in-Err.field-0 (eqb-false _ _ (sym first)) c.in-Err.ensures.value.0
