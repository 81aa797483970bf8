use Rattle.std.proofs.Common.{arith}
use Rattle.std.proofs.lemmas.Result.{err_from_is_err_and}
use Rattle.gate_rounds.specs.Texts.{bytes_of}
use Rattle.gate_rounds.proofs.Telling.{few_entries, round_bounded, round_told, stopped_behind_base, stopped_in_base, stopped_in_end}
use Rattle.gate_rounds.proofs.lanes_job.run_one.Goals as goal

pub end_round-requires : goal.end_round-requires
end_round-requires g c =
    omega (arith, c.requires, few_entries c.args.start.state (bytes_of c.args.parts.now) c.in_ok-round.round.end c.in_ok-round.round.next c.in_ok-round.ensures)

pub returns-in-Err-clause-stopped : goal.returns-in-Err-clause-stopped
returns-in-Err-clause-stopped g c =
    stopped_in_base c.args.options.now.journal c.args.start.state c.args.start.behind (bytes_of c.args.parts.now)
    (g.W.Write.contents c.args.writer.now) (g.W.Write.contents c.print_base.new.writer) c.in-Err.fault c.in-Err.ensures.printed

pub returns-in_err-round-clause-stopped : goal.returns-in_err-round-clause-stopped
returns-in_err-round-clause-stopped g c =
    let p = err_from_is_err_and c.from_residual.result c.from_residual.ensures.1 in
    rw (p.1, p.2) (
      stopped_behind_base c.args.options.now.journal c.args.start.state c.args.start.behind (bytes_of c.args.parts.now)
          (g.W.Write.contents c.args.writer.now) (g.W.Write.contents c.print_base.new.writer) c.in_default.ensures.printed,
      λ e. cc,
    )

pub returns-clause-done : goal.returns-clause-done
returns-clause-done g c =
    round_told c.end_round.result (λ later. later.state) (λ later. later.behind) c.args.options.now.journal c.args.start.state c.args.start.behind
    (bytes_of c.args.parts.now) c.in_ok-round.round.end c.in_ok-round.round.next
    (g.W.Write.contents c.args.writer.now) (g.W.Write.contents c.print_base.new.writer) (g.W.Write.contents c.end_round.new.writer)
    c.in_ok-round.ensures c.in_default.ensures.printed c.end_round.ensures.done c.end_round.ensures.next

pub returns-clause-bound : goal.returns-clause-bound
returns-clause-bound g c =
    round_bounded c.end_round.result (λ later. later.state) (λ later. later.behind) c.args.start.behind c.in_ok-round.round.end.conclusion c.in_ok-round.round.next
    (few_entries c.args.start.state (bytes_of c.args.parts.now) c.in_ok-round.round.end c.in_ok-round.round.next c.in_ok-round.ensures) c.end_round.ensures.next

pub returns-clause-stopped : goal.returns-clause-stopped
returns-clause-stopped g c =
    stopped_in_end c.end_round.result c.args.options.now.journal c.args.start.state c.args.start.behind (bytes_of c.args.parts.now) c.in_ok-round.round.end c.in_ok-round.round.next
    (g.W.Write.contents c.args.writer.now) (g.W.Write.contents c.print_base.new.writer) (g.W.Write.contents c.end_round.new.writer)
    c.in_ok-round.ensures c.in_default.ensures.printed c.end_round.ensures.stopped
