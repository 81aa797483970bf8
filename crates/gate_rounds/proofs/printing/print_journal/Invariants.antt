use Rattle.std.proofs.Common.{take}
use Rattle.std.specs.Io.KnownBytes.{Appends}
use Rattle.gate_lines.specs.Lines.{unlines}
use Rattle.gate_rounds.specs.LaneLines.{journal_lines}
use Rattle.gate_rounds.proofs.printing.print_journal.Given as goal

abbrev pub invariant-loop-entry : goal.invariant-loop-entry
invariant-loop-entry g l = Appends (g.W.Write.contents l.initial.writer) (g.W.Write.contents l.writer) (unlines (journal_lines (take l.entry-index l.entries)))
