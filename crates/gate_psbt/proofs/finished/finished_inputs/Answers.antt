use Rattle.std.proofs.Common.{◌≡◌, ◌<◌, ◌≤◌, [], ◌+◌, ℕ, length, get_or, sym, ap}
use Rattle.gate_psbt.specs.Finished.{finished_at}
use Rattle.gate_psbt.proofs.Steps.{finish_ends, finish_fails, finish_lacks, finish_next}
use Rattle.gate_psbt.proofs.finished.finished_inputs.Goals as goal

pub returns-in_default : goal.returns-in_default
returns-in_default c =
    let lt : c.loop-input.place < length c.args.inputs.now = rw c.loop-input.invariant.0 c.loop-input-test.true in
    let is : c.input-item.result ≡ get_or c.args.inputs.now c.loop-input.place c.input-item.result = rw c.loop-input.invariant.0 c.input-item.is in
    finish_lacks c.loop-input.place c.loop-input.all.items c.args.inputs.now c.args.said.now (finished_at 0 [] c.args.inputs.now c.args.said.now) c.input-item.result lt is c.in_default.ensures.lookup.3 c.loop-input.invariant.1

pub returns-then-not-is_final : goal.returns-then-not-is_final
returns-then-not-is_final c =
    let lt : c.loop-input.place < length c.args.inputs.now = rw c.loop-input.invariant.0 c.loop-input-test.true in
    let is : c.input-item.result ≡ get_or c.args.inputs.now c.loop-input.place c.input-item.result = rw c.loop-input.invariant.0 c.input-item.is in
    finish_fails c.loop-input.place c.loop-input.all.items c.args.inputs.now c.args.said.now (finished_at 0 [] c.args.inputs.now c.args.said.now) c.input-item.result c.in-Some.it.now lt is c.in-Some.ensures.lookup.3.0 c.in-Some.ensures.lookup.1 (sym c.if-not-is_final.ensures) c.loop-input.invariant.1

pub loop-input-preserved : goal.loop-input-preserved
loop-input-preserved c =
    let lt : c.loop-input.place < length c.args.inputs.now = rw c.loop-input.invariant.0 c.loop-input-test.true in
    let is : c.input-item.result ≡ get_or c.args.inputs.now c.loop-input.place c.input-item.result = rw c.loop-input.invariant.0 c.input-item.is in (
      ap (λ (n : ℕ). n + 1) c.loop-input.invariant.0,
      rw (c.in_ok-push.ensures.items, c.in_ok-finish.ensures) (finish_next c.loop-input.place c.loop-input.all.items c.args.inputs.now c.args.said.now (finished_at 0 [] c.args.inputs.now c.args.said.now) c.input-item.result c.in-Some.it.now lt is c.in-Some.ensures.lookup.3.0 c.in-Some.ensures.lookup.1 (sym c.if-not-is_final.ensures) c.loop-input.invariant.1),
    )

pub returns : goal.returns
returns c =
    let le : length c.args.inputs.now ≤ c.loop-input.place = rw c.loop-input.invariant.0 c.loop-input-test.false in
    finish_ends c.loop-input.place c.loop-input.all.items c.args.inputs.now c.args.said.now (finished_at 0 [] c.args.inputs.now c.args.said.now) le c.loop-input.invariant.1
