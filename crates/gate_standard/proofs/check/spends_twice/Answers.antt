use Rattle.std.proofs.Common.{◌∙◌, sym, arith}
use Rattle.gate_standard.proofs.Repeats.{repeats_after_none, repeats_after_met, repeats_after_new, repeats_from, spends_once, was_absent, was_present}
use Rattle.gate_standard.proofs.check.spends_twice.Goals as goal

pub loop-input-init : goal.loop-input-init
loop-input-init c = repeats_after_none c.new-spent.result c.args.inputs.now c.new-spent.ensures.empty

pub loop-input-preserved : goal.loop-input-preserved
loop-input-preserved c =
    let at = repeats_from c.loop-input.spent c.args.inputs.now c.loop-input.input-index c.input-item.result c.loop-input-test.true c.input-item.is in
    c.loop-input.invariant ∙ at ∙ repeats_after_new c.loop-input.spent c.insert.new.self c.input-item.result _ (was_absent _ _ c.in_ok-insert.ensures.added c.if-not-branch.false) c.in_ok-insert.ensures.updates

pub returns-then-not-branch : goal.returns-then-not-branch
returns-then-not-branch c =
    let at = repeats_from c.loop-input.spent c.args.inputs.now c.loop-input.input-index c.input-item.result c.loop-input-test.true c.input-item.is in
    sym (c.loop-input.invariant ∙ at ∙ repeats_after_met c.loop-input.spent c.input-item.result _ (was_present _ _ c.in_ok-insert.ensures.added c.if-not-branch.true))

pub returns-in-empty : goal.returns-in-empty
returns-in-empty c = spends_once c.args.inputs.now (omega (arith, c.in-empty.len_below))
