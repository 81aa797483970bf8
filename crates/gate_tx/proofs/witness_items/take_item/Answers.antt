use Rattle.std.proofs.Common.{◌≡◌, ◌-◌, suc, ap, ◌∙◌, arith}
use Rattle.gate_tx.specs.Fault.{tx_fault}
use Rattle.gate_tx.specs.Items.{items_at}
use Rattle.gate_tx.proofs.Items.{none_at, next_is, next_comes}
use Rattle.gate_tx.proofs.witness_items.take_item.Goals as goal

pub returns-then-left-eq0-clause-steps : goal.returns-then-left-eq0-clause-steps
returns-then-left-eq0-clause-steps c =
    let none = ap (λ n. items_at n c.args.ahead.now) c.if-left-eq0.true ∙ none_at c.args.ahead.now in
    (none, none)

pub returns-in_default-clause-has : goal.returns-in_default-clause-has
returns-in_default-clause-has c =
    let more : c.args.left.now ≡ suc (c.args.left.now - 1) = omega (arith, c.if-left-eq0.false) in
    absurd (next_comes c.args.left.now (c.args.left.now - 1) c.args.ahead.now (tx_fault c.in_default.field-0) c.requires more c.in_default.ensures)

pub returns-in_default-clause-steps : goal.returns-in_default-clause-steps
returns-in_default-clause-steps c =
    let more : c.args.left.now ≡ suc (c.args.left.now - 1) = omega (arith, c.if-left-eq0.false) in
    absurd (next_comes c.args.left.now (c.args.left.now - 1) c.args.ahead.now (tx_fault c.in_default.field-0) c.requires more c.in_default.ensures)

pub returns-clause-has : goal.returns-clause-has
returns-clause-has c =
    let more : c.args.left.now ≡ suc (c.args.left.now - 1) = omega (arith, c.if-left-eq0.false) in
    (next_is c.args.left.now (c.args.left.now - 1) c.args.ahead.now c.in-Ok.item.now c.take_counted.new.cursor c.requires more c.in-Ok.ensures).0

pub returns-clause-steps : goal.returns-clause-steps
returns-clause-steps c =
    let more : c.args.left.now ≡ suc (c.args.left.now - 1) = omega (arith, c.if-left-eq0.false) in
    (next_is c.args.left.now (c.args.left.now - 1) c.args.ahead.now c.in-Ok.item.now c.take_counted.new.cursor c.requires more c.in-Ok.ensures).1
