use Rattle.std.proofs.Common.{ap, Err, arith}
use Rattle.std.proofs.lemmas.Result.{err_from_is_err_and}
use Rattle.gate_audit.proofs.EntryTaken.{handed_on}
use Rattle.gate_audit.proofs.SoFar.{SoFar-start, SoFar-base, SoFar-end, SoFar-entry, SoFar-past, SoFar-wrong, base_moves, entry_moves, fewer_left}
use Rattle.gate_audit.proofs.auditing.audit_entries.Goals as goal

pub loop-lines-init : goal.loop-lines-init
loop-lines-init g c =
    SoFar-start c.args.state.now (g.R.Read.remaining c.args.reader.now) c.new-lines.result.lines.count c.new-lines.result.has_ended c.new-counts.result.all c.new-counts.result.in_round
    c.new-lines.ensures.number c.new-lines.ensures.ended c.new-counts.ensures.all c.new-counts.ensures.in_round

pub returns-in_err-take_entry-clause-past : goal.returns-in_err-take_entry-clause-past
returns-in_err-take_entry-clause-past g c = λ steady err.
    let same = handed_on c.from_residual.result c.in_err-take_entry.field-0.0 _ (err_from_is_err_and c.from_residual.result c.from_residual.ensures.1) err in
    SoFar-past c.args.state.now (g.R.Read.remaining c.args.reader.now) (g.R.Read.remaining c.loop-lines.reader) c.loop-lines.lines.lines.count c.loop-lines.lines.has_ended c.loop-lines.state c.loop-lines.counts.all
    c.loop-lines.counts.in_round c.loop-lines.invariant (c.in_err-take_entry.ensures.past steady (ap (λ e. Err e) same))

pub returns-in-Wrong-clause-told : goal.returns-in-Wrong-clause-told
returns-in-Wrong-clause-told g c =
    SoFar-wrong c.args.state.now (g.R.Read.remaining c.args.reader.now) (g.R.Read.remaining c.loop-lines.reader) c.loop-lines.lines.lines.count c.loop-lines.lines.has_ended c.loop-lines.state c.loop-lines.counts
    c.loop-lines.invariant (rw c.in-Wrong.is at c.in_ok-take_entry.ensures.taken)

pub returns-in-End-clause-told : goal.returns-in-End-clause-told
returns-in-End-clause-told g c =
    SoFar-end c.args.state.now (g.R.Read.remaining c.args.reader.now) (g.R.Read.remaining c.loop-lines.reader) c.loop-lines.lines.lines.count c.loop-lines.lines.has_ended c.loop-lines.state c.loop-lines.counts.all
    c.loop-lines.counts.in_round c.loop-lines.invariant (rw c.in-End.is at c.in_ok-take_entry.ensures.taken)

pub with_entry-counts-requires : goal.with_entry-counts-requires
with_entry-counts-requires g c =
    let taken = rw c.in-Legal.is at c.in_ok-take_entry.ensures.taken in
    let moves = entry_moves (g.R.Read.remaining c.loop-lines.reader) (g.R.Read.remaining c.take_entry.new.reader) c.loop-lines.lines.lines.count c.take_entry.new.lines.lines.count c.take_entry.new.lines.has_ended
    c.loop-lines.state c.take_entry.new.state c.loop-lines.counts.in_round taken in
    record { few = omega (arith, c.loop-lines.invariant.most, moves, c.take_entry.new.lines.few); bounded = taken.3 }

pub loop-lines-preserved-in-Legal : goal.loop-lines-preserved-in-Legal
loop-lines-preserved-in-Legal g c =
    rw (c.with_entry-counts.ensures.all, c.with_entry-counts.ensures.in_round)
    (SoFar-entry c.args.state.now (g.R.Read.remaining c.args.reader.now) (g.R.Read.remaining c.loop-lines.reader) (g.R.Read.remaining c.take_entry.new.reader) c.loop-lines.lines.lines.count
    c.take_entry.new.lines.lines.count c.loop-lines.lines.has_ended c.take_entry.new.lines.has_ended c.loop-lines.state c.take_entry.new.state c.loop-lines.counts.all c.loop-lines.counts.in_round
    c.loop-lines.invariant (rw c.in-Legal.is at c.in_ok-take_entry.ensures.taken))

pub loop-lines-preserved : goal.loop-lines-preserved
loop-lines-preserved g c =
    rw (c.with_base-counts.ensures.all, c.with_base-counts.ensures.in_round)
    (SoFar-base c.args.state.now (g.R.Read.remaining c.args.reader.now) (g.R.Read.remaining c.loop-lines.reader) (g.R.Read.remaining c.take_entry.new.reader) c.loop-lines.lines.lines.count
    c.take_entry.new.lines.lines.count c.loop-lines.lines.has_ended c.take_entry.new.lines.has_ended c.loop-lines.state c.take_entry.new.state c.loop-lines.counts.all c.loop-lines.counts.in_round
    c.loop-lines.invariant (rw c.in-Base.is at c.in_ok-take_entry.ensures.taken))

pub loop-lines-smaller-in-Legal : goal.loop-lines-smaller-in-Legal
loop-lines-smaller-in-Legal g c =
    fewer_left c.loop-lines.lines.lines.count c.take_entry.new.lines.lines.count (entry_moves (g.R.Read.remaining c.loop-lines.reader) (g.R.Read.remaining c.take_entry.new.reader) c.loop-lines.lines.lines.count
    c.take_entry.new.lines.lines.count c.take_entry.new.lines.has_ended c.loop-lines.state c.take_entry.new.state c.loop-lines.counts.in_round (rw c.in-Legal.is at c.in_ok-take_entry.ensures.taken)) c.take_entry.new.lines.few

pub loop-lines-smaller : goal.loop-lines-smaller
loop-lines-smaller g c =
    fewer_left c.loop-lines.lines.lines.count c.take_entry.new.lines.lines.count (base_moves (g.R.Read.remaining c.loop-lines.reader) (g.R.Read.remaining c.take_entry.new.reader) c.loop-lines.lines.lines.count
    c.take_entry.new.lines.lines.count c.take_entry.new.lines.has_ended c.loop-lines.state c.take_entry.new.state c.loop-lines.counts.all (rw c.in-Base.is at c.in_ok-take_entry.ensures.taken)) c.take_entry.new.lines.few
