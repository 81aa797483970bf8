use Rattle.std.proofs.Common.{◌≡◌, ◌++◌, ◌+◌, take, drop, get_or, ap, subst, sym, ◌∙◌, Err}
use Rattle.std.specs.Io.KnownBytes.{Appends}
use Rattle.std.proofs.KnownBytes.{Appends-trans}
use Rattle.gate_lines.specs.Lines.{unlines}
use Rattle.gate_rounds.specs.LaneLines.{entry_lines, journal_lines}
use Rattle.gate_rounds.proofs.LaneTexts.{journal_next, journal_stop}
use Rattle.gate_print.proofs.Printed.{handed_on}
use Rattle.gate_rounds.proofs.printing.print_journal.Goals as goal

pub returns-in_err-print_entry-clause-printed : goal.returns-in_err-print_entry-clause-printed
returns-in_err-print_entry-clause-printed g c =
    let w = g.W.Write.contents c.args.writer.now in
    let w'' = g.W.Write.contents c.print_entry.new.writer in
    let fault = c.in_err-print_entry.field-0.0 in
    handed_on w w'' (unlines (journal_lines c.args.entries.now)) _ fault c.from_residual.ensures.1
    (journal_stop w (g.W.Write.contents c.loop-entry.writer) w'' c.args.entries.now c.loop-entry.entry-index c.entry-item.result fault
    c.loop-entry-test.true c.entry-item.is c.loop-entry.invariant c.in_err-print_entry.ensures.printed)

pub loop-entry-preserved : goal.loop-entry-preserved
loop-entry-preserved g c =
    journal_next (g.W.Write.contents c.args.writer.now) (g.W.Write.contents c.loop-entry.writer) (g.W.Write.contents c.print_entry.new.writer)
    c.args.entries.now c.loop-entry.entry-index c.entry-item.result c.loop-entry-test.true c.entry-item.is c.loop-entry.invariant c.in_ok-print_entry.ensures.printed
