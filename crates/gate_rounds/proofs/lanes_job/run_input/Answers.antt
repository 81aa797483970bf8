use Rattle.std.proofs.Common.{ℕ, None}
use Rattle.std.proofs.KnownBytes.{Appends-nil}
use Rattle.gate_lines.specs.declared.fault.LaneFault.TheVariants as faults
use Rattle.gate_rounds.specs.Texts.{lists_of}
use Rattle.gate_rounds.specs.LaneJobs.{RoundsStopped}
use Rattle.gate_rounds.proofs.LaneRefusals.{fault_is, unparted, unrun}
use Rattle.gate_rounds.proofs.Telling.{input_stopped, input_told, none_unread}
use Rattle.gate_rounds.proofs.lanes_job.run_input.Goals as goal

pub returns-in-Ok-clause-done : goal.returns-in-Ok-clause-done
returns-in-Ok-clause-done g c =
    input_told c.run_rounds.result c.args.options.journal c.args.state (g.R.Read.remaining c.args.reader.now) (g.W.Write.contents c.args.writer.now)
    (g.W.Write.contents c.run_rounds.new.writer) (lists_of c.in-Ok.rounds.items) c.in-Ok.ensures.read (rw c.as_slice.ensures.value at c.run_rounds.ensures.done)

pub returns-in-Ok-clause-stopped : goal.returns-in-Ok-clause-stopped
returns-in-Ok-clause-stopped g c =
    input_stopped c.run_rounds.result c.args.options.journal c.args.state (g.R.Read.remaining c.args.reader.now) (g.W.Write.contents c.args.writer.now)
    (g.W.Write.contents c.run_rounds.new.writer) (lists_of c.in-Ok.rounds.items) c.in-Ok.ensures.read (rw c.as_slice.ensures.value at c.run_rounds.ensures.stopped)

pub returns-in-Ok-clause-past : goal.returns-in-Ok-clause-past
returns-in-Ok-clause-past g c = λ steady kind.
    none_unread c.run_rounds.result (λ _. RoundsStopped c.args.options.journal c.args.state None (lists_of c.as_slice.result.now) (g.W.Write.contents c.args.writer.now)
    (g.W.Write.contents c.run_rounds.new.writer)) _ c.run_rounds.ensures.stopped kind

pub returns-in-Err-clause-stopped : goal.returns-in-Err-clause-stopped
returns-in-Err-clause-stopped g c =
    rw c.lane_fault.ensures (unrun c.in-Err.fault c.args.options.journal c.args.state (g.R.Read.remaining c.args.reader.now) (g.W.Write.contents c.args.writer.now)
    (g.W.Write.contents c.args.writer.now) (Appends-nil (g.W.Write.contents c.args.writer.now)))

pub returns-in-Err-clause-past : goal.returns-in-Err-clause-past
returns-in-Err-clause-past g c = λ steady kind.
    let is = fault_is ℕ c.lane_fault.result faults.Read kind in
    unparted c.in-Err.fault _ (λ e. c.in-Err.ensures.many (cc e)) (λ e. c.in-Err.ensures.past steady (cc e)) (cc (c.lane_fault.ensures, is))
