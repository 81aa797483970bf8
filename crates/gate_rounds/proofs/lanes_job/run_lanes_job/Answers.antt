use Rattle.std.proofs.Common.{ap, Err}
use Rattle.gate_rounds.proofs.LaneRefusals.{refused_lanes}
use Rattle.gate_rounds.proofs.Telling.{lanes_printed, lanes_stopped, lanes_unreadable}
use Rattle.gate_rounds.proofs.lanes_job.run_lanes_job.Goals as goal

pub returns-in-Ok-clause-done : goal.returns-in-Ok-clause-done
returns-in-Ok-clause-done g c =
    lanes_printed c.run_input.result c.args.options.journal (g.R.Read.remaining c.args.reader.now) (g.R.Read.remaining c.read_opening.new.reader) _ _ c.in-Ok.state
    c.in-Ok.ensures.opened c.in-Ok.ensures.left c.run_input.ensures.done

pub returns-in-Ok-clause-stopped : goal.returns-in-Ok-clause-stopped
returns-in-Ok-clause-stopped g c =
    lanes_stopped c.run_input.result c.args.options.journal (g.R.Read.remaining c.args.reader.now) (g.R.Read.remaining c.read_opening.new.reader) _ _ _ c.in-Ok.state
    c.in-Ok.ensures.opened c.in-Ok.ensures.left c.run_input.ensures.stopped

pub returns-in-Ok-clause-steady_reader : goal.returns-in-Ok-clause-steady_reader
returns-in-Ok-clause-steady_reader g c = λ steady.
    lanes_unreadable c.run_input.result (g.R.Read.remaining c.args.reader.now) (g.R.Read.remaining c.read_opening.new.reader) c.in-Ok.state
    c.in-Ok.ensures.opened c.in-Ok.ensures.left (c.run_input.ensures.past steady)

pub returns-in-Err-Line-clause-done : goal.returns-in-Err-Line-clause-done
returns-in-Err-Line-clause-done g c =
    refused_lanes c.args.options.journal _ _ _ _ c.in-Err-Line.line c.in-Err-Line.token (c.in-Err-Line.ensures.fault c.in-Err-Line.line c.in-Err-Line.token (ap Err c.in-Err-Line.field-0-is)) (rw c.in-Err-Line.field-0-is at c.refuse_opening.ensures.done)
