use Rattle.std.proofs.Common.{◌≡◌, ℕ, List, [], ◌∷◌, ◌++◌, codes, string_bytes, Err, ap, refl, subst}
use Rattle.std.specs.Io.KnownBytes.{Appends}
use Rattle.gate_message.specs.Texts.{reply_text}
use Rattle.gate_events.specs.EventTexts.{text_of}
use Rattle.gate_lines.specs.Lines.{unlines}
use Rattle.gate_lines.specs.declared.fault.LaneFault.TheVariants as faults
use Rattle.gate_rounds.specs.LaneLines.{entry_lines}
use Rattle.gate_rounds.proofs.LaneTexts.{entry_parts}
use Rattle.gate_print.proofs.Printed.{handed_on, printed_then, prints_as, stopped_in_front, unprinted}
use Rattle.gate_rounds.proofs.printing.print_entry.Goals as goal

-- an event's line, and a reply's
abbrev first : List ℕ → List ℕ
first text = codes "> " ++ (text ++ 10 ∷ [])

abbrev second : List ℕ → List ℕ
second text = codes "< " ++ (text ++ 10 ∷ [])

pub returns-in_err-print_marked-clause-printed : goal.returns-in_err-print_marked-clause-printed
returns-in_err-print_marked-clause-printed g c =
    let w = g.W.Write.contents c.args.writer.now in
    let w' = g.W.Write.contents c.print_marked.new.writer in
    let e = c.args.entry.now in
    let fault = c.in_err-print_marked.field-0.0 in
    let is : first (string_bytes c.in_ok-event_text.field-0) ≡ first (text_of e.event) = ap first c.in_ok-event_text.ensures in
    handed_on w w' (unlines (entry_lines e)) _ fault c.from_residual-in_err-print_marked.ensures.1
    (prints_as w w' (first (text_of e.event) ++ second (reply_text e.reply)) _ (Err fault) (entry_parts e)
    (stopped_in_front w w' (first (text_of e.event)) (second (reply_text e.reply)) fault
    (prints_as w w' _ _ (Err fault) is c.in_err-print_marked.ensures.printed)))

pub returns-in_err-text-clause-printed : goal.returns-in_err-text-clause-printed
returns-in_err-text-clause-printed g c =
    let w = g.W.Write.contents c.args.writer.now in
    let w' = g.W.Write.contents c.print_marked.new.writer in
    let e = c.args.entry.now in
    let wrote : Appends w w' (first (text_of e.event)) = subst (λ (l : List ℕ). Appends w w' (first l)) c.in_ok-event_text.ensures c.in_ok-print_marked.ensures.printed in
    handed_on w w' (unlines (entry_lines e)) _ faults.Memory c.from_residual-in_err-text.ensures.1
    (prints_as w w' (first (text_of e.event) ++ second (reply_text e.reply)) _ (Err faults.Memory) (entry_parts e)
    (printed_then w w' w' (first (text_of e.event)) (second (reply_text e.reply)) (Err faults.Memory) wrote (unprinted w' _ faults.Memory refl)))

pub returns-clause-printed : goal.returns-clause-printed
returns-clause-printed g c =
    let w = g.W.Write.contents c.args.writer.now in
    let w' = g.W.Write.contents c.print_marked.new.writer in
    let w'' = g.W.Write.contents c.print_marked-2.new.writer in
    let e = c.args.entry.now in
    let wrote : Appends w w' (first (text_of e.event)) = subst (λ (l : List ℕ). Appends w w' (first l)) c.in_ok-event_text.ensures c.in_ok-print_marked.ensures.printed in
    let is : second (string_bytes c.in_ok-text.field-0) ≡ second (reply_text e.reply) = ap second c.in_ok-text.ensures in
    prints_as w w'' (first (text_of e.event) ++ second (reply_text e.reply)) _ _ (entry_parts e)
    (printed_then w w' w'' (first (text_of e.event)) (second (reply_text e.reply)) _ wrote
    (prints_as w' w'' _ _ _ is c.print_marked-2.ensures.printed))
