use Rattle.std.proofs.Common.{◌≡◌, ◌∷◌, ◌∙◌, ap, sym, true, false, arith}
use Rattle.std.proofs.lemmas.Bool.Decides.{nat_tests}
use Rattle.gate_script.specs.Instructions.{is_push, instructions, Truncated}
use Rattle.gate_script.proofs.Steps.{read-none, read-plain, read-push, read-truncated}
use Rattle.gate_script.proofs.reading.next_op.Goals as goal

pub returns-in_default : goal.returns-in_default
returns-in_default c =
    let old = read-none c.args.ahead.now c.in_default.field-0 c.in_default.ensures.0 in
    (old, ap instructions c.in_default.ensures.1 ∙ old)

pub returns-then-opcode-eq0 : goal.returns-then-opcode-eq0
returns-then-opcode-eq0 c =
    let plain : is_push c.in-Ok.opcode ≡ false = grind (arith, nat_tests) in
    read-plain c.args.ahead.now c.in-Ok.opcode c.u8.new.self c.in-Ok.ensures plain

pub returns-in-Ok-pushed : goal.returns-in-Ok-pushed
returns-in-Ok-pushed c =
    let push : is_push c.in-Ok.opcode ≡ true = grind (arith, nat_tests) in
    read-push c.args.ahead.now c.in-Ok.opcode c.u8.new.self c.in-Ok-pushed.bytes.now c.pushed.new.ahead c.in-Ok.ensures push c.in-Ok-pushed.ensures.whole

pub returns-in-Err : goal.returns-in-Err
returns-in-Err c =
    let push : is_push c.in-Ok.opcode ≡ true = grind (arith, nat_tests) in
    read-truncated c.args.ahead.now c.in-Ok.opcode c.u8.new.self c.in-Ok.ensures push c.in-Err.ensures.short ∙ ap (λ left. Truncated c.in-Ok.opcode ∷ instructions left) (sym c.new.ensures)
