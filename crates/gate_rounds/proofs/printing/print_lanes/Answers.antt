use Rattle.std.proofs.Common.{Err, ◌++◌, [], ◌∷◌, ap}
use Rattle.gate_rounds.specs.LaneLines.{lanes_text}
use Rattle.gate_rounds.specs.Texts.{texts_of}
use Rattle.gate_rounds.proofs.LaneTexts.{lanes_next, lanes_stop}
use Rattle.gate_print.proofs.Printed.{handed_on}
use Rattle.gate_rounds.proofs.printing.print_lanes.Goals as goal

pub returns-in_err-print_lane-clause-printed : goal.returns-in_err-print_lane-clause-printed
returns-in_err-print_lane-clause-printed g c =
    let w = g.W.Write.contents c.args.writer.now in
    let w'' = g.W.Write.contents c.print_lane.new.writer in
    let fault = c.in_err-print_lane.field-0.0 in
    handed_on w w'' (lanes_text 1 (texts_of c.args.ends.now)) _ fault c.from_residual.ensures.1
    (lanes_stop w (g.W.Write.contents c.loop-i.writer) w'' c.args.ends.now c.loop-i.i c.index-ends-i.result c.as_slice.result.now fault
    c.loop-i-test.true c.index-ends-i.is c.as_slice.ensures.value c.loop-i.invariant c.in_err-print_lane.ensures.printed)

pub loop-i-preserved : goal.loop-i-preserved
loop-i-preserved g c =
    lanes_next (g.W.Write.contents c.args.writer.now) (g.W.Write.contents c.loop-i.writer) (g.W.Write.contents c.print_lane.new.writer)
    c.args.ends.now c.loop-i.i c.index-ends-i.result c.as_slice.result.now c.loop-i-test.true c.index-ends-i.is c.as_slice.ensures.value c.loop-i.invariant c.in_ok-print_lane.ensures.printed
