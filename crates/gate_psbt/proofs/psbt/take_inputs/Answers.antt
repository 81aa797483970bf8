use Rattle.std.proofs.Common.{[], ◌+◌, ℕ, ap}
use Rattle.gate_psbt.specs.Psbts.{inputs_at}
use Rattle.gate_psbt.proofs.Steps.{input_fails, input_next, inputs_end}
use Rattle.gate_psbt.proofs.psbt.take_inputs.Goals as goal

pub returns-in-Err : goal.returns-in-Err
returns-in-Err c =
    rw c.fault_at.ensures (input_fails c.loop-input.place c.loop-input.all.items c.args.inputs.now c.loop-input.input-index c.loop-input.cursor (inputs_at 0 [] c.args.inputs.now c.args.cursor.now) c.input-item.result c.in-Err.fault c.loop-input-test.true c.input-item.is c.in-Err.ensures c.loop-input.invariant.1)

pub loop-input-preserved : goal.loop-input-preserved
loop-input-preserved c = (
  ap (λ (n : ℕ). n + 1) c.loop-input.invariant.0,
  rw c.in_ok-push-in-Ok.ensures.items (input_next c.loop-input.place c.loop-input.all.items c.args.inputs.now c.loop-input.input-index c.loop-input.cursor (inputs_at 0 [] c.args.inputs.now c.args.cursor.now) c.input-item.result c.in-Ok.taken c.take_input.new.cursor c.loop-input-test.true c.input-item.is c.in-Ok.ensures c.loop-input.invariant.1),
)

pub returns : goal.returns
returns c = inputs_end c.loop-input.place c.loop-input.all.items c.args.inputs.now c.loop-input.input-index c.loop-input.cursor (inputs_at 0 [] c.args.inputs.now c.args.cursor.now) c.loop-input-test.false c.loop-input.invariant.1
