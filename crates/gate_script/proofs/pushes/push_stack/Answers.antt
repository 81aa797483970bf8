use Rattle.std.proofs.Common.{◌≡◌, ◌∙◌, Some, None, sym, ap, arith}
use Rattle.gate_script.specs.Instructions.{instruction_of}
use Rattle.gate_script.specs.Pushes.{item_of, items_of}
use Rattle.gate_script.proofs.StackItems.{gathering, gathering-none, gathering-more, stack-end, stack-stop, stack-past}
use Rattle.gate_script.proofs.pushes.push_stack.Goals as goal

pub loop-op-init : goal.loop-op-init
loop-op-init c = (tt, tt, omega arith, ap (λ items. gathering items c.into_iter-op-iterator.result) c.new-items.ensures.items ∙ gathering-none c.into_iter-op-iterator.result ∙ ap items_of (c.into_iter-op-iterator.ensures.into_iter_gives ∙ c.ops-op-items.ensures))

pub returns-in_default : goal.returns-in_default
returns-in_default c =
    let moved = ap (gathering c.loop-op.items.items) (sym c.in-Some.ensures.steps) ∙ c.loop-op.invariant.3 in
    let none : item_of (instruction_of c.in-Some.op) ≡ None = sym c.in_ok-item.ensures ∙ c.in_default.is in
    stack-stop c.args.script.now c.loop-op.items.items (instruction_of c.in-Some.op) c.next.new.self moved none

pub returns-then-len-eq-MAX_ITEMS : goal.returns-then-len-eq-MAX_ITEMS
returns-then-len-eq-MAX_ITEMS c =
    let moved = ap (gathering c.loop-op.items.items) (sym c.in-Some.ensures.steps) ∙ c.loop-op.invariant.3 in
    let is : item_of (instruction_of c.in-Some.op) ≡ Some c.in-Some-2.item = sym c.in_ok-item.ensures ∙ c.in-Some-2.is in
    stack-past c.args.script.now c.loop-op.items.items c.in-Some-2.item (instruction_of c.in-Some.op) c.next.new.self moved is (omega arith)

pub loop-op-preserved : goal.loop-op-preserved
loop-op-preserved c =
    let moved = ap (gathering c.loop-op.items.items) (sym c.in-Some.ensures.steps) ∙ c.loop-op.invariant.3 in
    let is : item_of (instruction_of c.in-Some.op) ≡ Some c.in-Some-2.item = sym c.in_ok-item.ensures ∙ c.in-Some-2.is in
    let more = gathering-more c.loop-op.items.items c.in-Some-2.item (instruction_of c.in-Some.op) c.next.new.self is in
    (tt, tt, omega arith, ap (λ items. gathering items c.next.new.self) c.in_ok-push.ensures.items ∙ sym more ∙ moved)

pub returns : goal.returns
returns c =
    let moved = ap (gathering c.loop-op.items.items) (sym c.in-None.ensures.steps.0) ∙ c.loop-op.invariant.3 in
    ap Some c.from_vec.ensures ∙ stack-end c.args.script.now c.loop-op.items.items moved (omega arith)
