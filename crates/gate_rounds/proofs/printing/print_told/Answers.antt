use Rattle.std.proofs.Common.{◌≡◌, ◌++◌, Err, subst}
use Rattle.std.proofs.KnownBytes.{Appends-trans}
use Rattle.std.specs.Io.KnownBytes.{Appends}
use Rattle.gate_lines.specs.Lines.{unlines}
use Rattle.gate_rounds.specs.LaneLines.{lanes_text, told_lines, told_text}
use Rattle.gate_rounds.specs.Texts.{texts_of}
use Rattle.gate_print.proofs.Printed.{handed_on, printed_then, sent_behind}
use Rattle.gate_rounds.proofs.printing.print_told.Goals as goal

pub returns-in_err-print_conclusion-clause-printed : goal.returns-in_err-print_conclusion-clause-printed
returns-in_err-print_conclusion-clause-printed g c =
    let w = g.W.Write.contents c.args.writer.now in
    let w' = g.W.Write.contents c.print_lanes.new.writer in
    let w'' = g.W.Write.contents c.print_conclusion.new.writer in
    let told = c.args.told.now in
    let fault = c.in_err-print_conclusion.field-0.0 in
    let wrote : Appends w w' (lanes_text 1 (texts_of told.ends.items)) = subst (λ ends. Appends w w' (lanes_text 1 (texts_of ends))) c.as_slice.ensures.value c.in_ok-print_lanes.ensures.printed in
    handed_on w w'' (told_text c.args.journal told) _ fault c.from_residual-in_err-print_conclusion.ensures.1
    (printed_then w w' w'' (lanes_text 1 (texts_of told.ends.items)) (unlines (told_lines c.args.journal told.conclusion)) (Err fault) wrote
    c.in_err-print_conclusion.ensures.printed)

pub returns-clause-printed : goal.returns-clause-printed
returns-clause-printed g c =
    let w = g.W.Write.contents c.args.writer.now in
    let w' = g.W.Write.contents c.print_lanes.new.writer in
    let w'' = g.W.Write.contents c.print_conclusion.new.writer in
    let told = c.args.told.now in
    let wrote : Appends w w' (lanes_text 1 (texts_of told.ends.items)) = subst (λ ends. Appends w w' (lanes_text 1 (texts_of ends))) c.as_slice.ensures.value c.in_ok-print_lanes.ensures.printed in
    sent_behind w w'' (g.W.Write.contents c.send.new.self) (told_text c.args.journal told) c.send.result
    (Appends-trans w w' w'' (lanes_text 1 (texts_of told.ends.items)) (unlines (told_lines c.args.journal told.conclusion)) wrote c.in_ok-print_conclusion.ensures.printed)
    c.send.ensures.kept c.send.ensures.kind
