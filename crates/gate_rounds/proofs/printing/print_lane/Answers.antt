use Rattle.std.proofs.Common.{◌≡◌, ℕ, List, [], ◌∷◌, ◌++◌, codes, string_bytes, Err, ap, subst}
use Rattle.std.specs.Io.KnownBytes.{Appends}
use Rattle.std.specs.Fmt.{decimal}
use Rattle.gate_print.proofs.Printed.{handed_on, printed_then, prints_as, stopped_in_front, written_once}
use Rattle.gate_rounds.proofs.printing.print_lane.Goals as goal

abbrev head : List ℕ → List ℕ
head text = codes "lane " ++ (text ++ 10 ∷ [])

pub returns-in_err-print_marked-clause-printed : goal.returns-in_err-print_marked-clause-printed
returns-in_err-print_marked-clause-printed g c =
    let w = g.W.Write.contents c.args.writer.now in
    let w' = g.W.Write.contents c.print_marked.new.writer in
    let fault = c.in_err-print_marked.field-0.0 in
    let is : head (string_bytes c.in_ok-format.field-0) ≡ head (decimal c.args.number) = ap head c.in_ok-format.ensures.ok in
    handed_on w w' (head (decimal c.args.number) ++ c.args.text.now) _ fault c.from_residual-in_err-print_marked.ensures.1
    (stopped_in_front w w' (head (decimal c.args.number)) c.args.text.now fault
    (prints_as w w' _ _ (Err fault) is c.in_err-print_marked.ensures.printed))

pub returns-clause-printed : goal.returns-clause-printed
returns-clause-printed g c =
    let w = g.W.Write.contents c.args.writer.now in
    let w' = g.W.Write.contents c.print_marked.new.writer in
    let w'' = g.W.Write.contents c.write_text.new.self in
    let wrote : Appends w w' (head (decimal c.args.number)) = subst (λ (l : List ℕ). Appends w w' (head l)) c.in_ok-format.ensures.ok c.in_ok-print_marked.ensures.printed in
    printed_then w w' w'' (head (decimal c.args.number)) c.args.text.now _ wrote (written_once w' w'' _ _ c.write_text.ensures.written)
