use Rattle.std.proofs.Common.{take}
use Rattle.std.specs.Io.KnownBytes.{Appends}
use Rattle.gate_rounds.specs.LaneLines.{lanes_text}
use Rattle.gate_rounds.specs.Texts.{texts_of}
use Rattle.gate_rounds.proofs.printing.print_lanes.Given as goal

abbrev pub invariant-loop-i : goal.invariant-loop-i
invariant-loop-i g l = Appends (g.W.Write.contents l.initial.writer) (g.W.Write.contents l.writer) (lanes_text 1 (take l.i (texts_of l.ends)))
