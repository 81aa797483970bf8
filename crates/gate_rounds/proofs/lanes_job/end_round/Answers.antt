use Rattle.std.proofs.KnownBytes.{Appends-nil}
use Rattle.std.proofs.lemmas.Result.{err_from_is_err_and}
use Rattle.gate_rounds.specs.LaneLines.{told_text}
use Rattle.gate_print.proofs.Printed.{all_sent, no_read, part_sent}
use Rattle.gate_rounds.proofs.lanes_job.end_round.Goals as goal

pub returns-in-Err-clause-stopped : goal.returns-in-Err-clause-stopped
returns-in-Err-clause-stopped g c =
    let w = g.W.Write.contents c.args.writer.now in
    let w' = g.W.Write.contents c.print_told.new.writer in
    let text = told_text c.args.journal c.args.round.end in
    (part_sent w w' text c.in-Err.fault c.in-Err.ensures.printed, no_read w w' text c.in-Err.fault c.in-Err.ensures.printed)

pub returns-in_err-next_start-clause-stopped : goal.returns-in_err-next_start-clause-stopped
returns-in_err-next_start-clause-stopped g c =
    let w = g.W.Write.contents c.args.writer.now in
    let w' = g.W.Write.contents c.print_told.new.writer in
    let p = err_from_is_err_and c.from_residual.result c.from_residual.ensures.1 in
    rw (p.1, p.2) (all_sent w w' w' (told_text c.args.journal c.args.round.end) c.in_default.ensures.printed (Appends-nil w'), λ e. cc)
