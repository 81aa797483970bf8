use Rattle.gate_psbt.specs.Psbts.{outputs_at}
use Rattle.gate_psbt.proofs.Steps.{output_fails, output_next, outputs_end}
use Rattle.gate_psbt.proofs.psbt.take_outputs.Goals as goal

pub returns-in-Err : goal.returns-in-Err
returns-in-Err c =
    rw c.fault_at.ensures (output_fails c.args.count c.loop-place.place c.loop-place.cursor (outputs_at 0 c.args.count c.args.cursor.now) c.in-Err.fault c.loop-place-test.true c.in-Err.ensures c.loop-place.invariant)

pub loop-place-preserved : goal.loop-place-preserved
loop-place-preserved c =
    output_next c.args.count c.loop-place.place c.loop-place.cursor (outputs_at 0 c.args.count c.args.cursor.now) c.in_default.field-0.items c.take_map.new.cursor c.loop-place-test.true c.in_default.ensures c.loop-place.invariant

pub returns : goal.returns
returns c = outputs_end c.args.count c.loop-place.place c.loop-place.cursor (outputs_at 0 c.args.count c.args.cursor.now) c.loop-place-test.false c.loop-place.invariant
