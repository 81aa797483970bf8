use Rattle.std.proofs.Common.{sym, arith}
use Rattle.std.proofs.lemmas.Bool.{eqb-true, eqb-false}
use Rattle.gate_net.proofs.Lengths.{length_long, length_plus, length_ok, length_great, length_err}
use Rattle.gate_net.proofs.subnet.read_length.Goals as goal

pub returns-then-text-gt3 : goal.returns-then-text-gt3
returns-then-text-gt3 c = length_long c.args.most c.args.text.now c.if-text-gt3.true

pub returns-then-begins_with_plus : goal.returns-then-begins_with_plus
returns-then-begins_with_plus c =
    let first = rw c.as_bytes.ensures.value at c.if-begins_with_plus.ensures in
    length_plus c.args.most c.args.text.now (eqb-true _ _ (sym first))

pub returns-then-n-most : goal.returns-then-n-most
returns-then-n-most c =
    let first = rw c.as_bytes.ensures.value at c.if-begins_with_plus.ensures in
    length_ok c.args.most c.args.text.now c.parse.result c.in-Ok.n c.in-Ok.is c.if-n-most.true c.if-text-gt3.false (eqb-false _ _ (sym first)) c.parse.ensures.value.0

pub returns-else-n-most : goal.returns-else-n-most
returns-else-n-most c =
    let first = rw c.as_bytes.ensures.value at c.if-begins_with_plus.ensures in
    length_great c.args.most c.args.text.now c.parse.result c.in-Ok.n c.in-Ok.is c.if-n-most.false (eqb-false _ _ (sym first)) c.parse.ensures.value.0

pub returns-in-Err : goal.returns-in-Err
returns-in-Err c =
    let first = rw c.as_bytes.ensures.value at c.if-begins_with_plus.ensures in
    length_err c.args.most c.args.text.now c.in-Err.field-0 (omega arith) (eqb-false _ _ (sym first)) c.in-Err.ensures.value.0
