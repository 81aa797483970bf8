use Rattle.std.proofs.Common.{◌≡◌, ℕ, List, [], ◌∷◌, ◌++◌, codes, string_bytes, Err, ap, subst}
use Rattle.std.specs.Io.KnownBytes.{Appends}
use Rattle.std.specs.Fmt.{decimal}
use Rattle.gate_lines.specs.Lines.{unlines}
use Rattle.gate_rounds.specs.LaneLines.{asked_lines, settled_lines}
use Rattle.gate_rounds.proofs.LaneTexts.{settled_parts}
use Rattle.gate_print.proofs.Printed.{handed_on, printed_then, prints_as, stopped_in_front}
use Rattle.gate_rounds.proofs.printing.print_settled.Goals as goal

abbrev head : List ℕ → List ℕ
head text = codes "settled " ++ (text ++ 10 ∷ [])

pub returns-in_err-print_marked-clause-printed : goal.returns-in_err-print_marked-clause-printed
returns-in_err-print_marked-clause-printed g c =
    let w = g.W.Write.contents c.args.writer.now in
    let w' = g.W.Write.contents c.print_marked.new.writer in
    let fault = c.in_err-print_marked.field-0.0 in
    let s = c.args.settled.now in
    let lines = asked_lines c.args.journal s.journal.entries in
    let is : head (string_bytes c.in_ok-format.field-0) ≡ head (decimal s.count) = ap head c.in_ok-format.ensures.ok in
    handed_on w w' (unlines (settled_lines c.args.journal s)) _ fault c.from_residual-in_err-print_marked.ensures.1
    (prints_as w w' (head (decimal s.count) ++ unlines lines) _ (Err fault) (settled_parts s.count lines)
    (stopped_in_front w w' (head (decimal s.count)) (unlines lines) fault
    (prints_as w w' _ _ (Err fault) is c.in_err-print_marked.ensures.printed)))

pub returns-clause-printed : goal.returns-clause-printed
returns-clause-printed g c =
    let w = g.W.Write.contents c.args.writer.now in
    let w' = g.W.Write.contents c.print_marked.new.writer in
    let w'' = g.W.Write.contents c.print_asked.new.writer in
    let s = c.args.settled.now in
    let lines = asked_lines c.args.journal s.journal.entries in
    let wrote : Appends w w' (head (decimal s.count)) = subst (λ (l : List ℕ). Appends w w' (head l)) c.in_ok-format.ensures.ok c.in_ok-print_marked.ensures.printed in
    let is : unlines (asked_lines c.args.journal c.entries.result.now) ≡ unlines lines = ap (λ es. unlines (asked_lines c.args.journal es)) c.entries.ensures.entries in
    prints_as w w'' (head (decimal s.count) ++ unlines lines) _ _ (settled_parts s.count lines)
    (printed_then w w' w'' (head (decimal s.count)) (unlines lines) _ wrote (prints_as w' w'' _ _ _ is c.print_asked.ensures.printed))
