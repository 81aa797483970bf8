use Rattle.std.proofs.Common.{◌≡◌, ℕ, List, [], ◌∷◌, ◌++◌, codes, string_bytes, Err, ap, subst}
use Rattle.std.specs.Io.KnownBytes.{Appends}
use Rattle.std.specs.Fmt.{decimal}
use Rattle.gate_print.proofs.Printed.{handed_on, prints_as, sent_behind}
use Rattle.gate_rounds.proofs.printing.print_base_line.Goals as goal

abbrev line : List ℕ → List ℕ
line text = codes "base " ++ (text ++ 10 ∷ [])

pub returns-in_err-print_marked-clause-printed : goal.returns-in_err-print_marked-clause-printed
returns-in_err-print_marked-clause-printed g c =
    let w = g.W.Write.contents c.args.writer.now in
    let w' = g.W.Write.contents c.print_marked.new.writer in
    let fault = c.in_err-print_marked.field-0.0 in
    let is : line (string_bytes c.in_ok-format.field-0) ≡ line (decimal c.args.count) = ap line c.in_ok-format.ensures.ok in
    handed_on w w' (line (decimal c.args.count)) _ fault c.from_residual-in_err-print_marked.ensures.1
    (prints_as w w' _ _ (Err fault) is c.in_err-print_marked.ensures.printed)

pub returns-clause-printed : goal.returns-clause-printed
returns-clause-printed g c =
    let w = g.W.Write.contents c.args.writer.now in
    let w' = g.W.Write.contents c.print_marked.new.writer in
    let w'' = g.W.Write.contents c.send.new.self in
    let wrote : Appends w w' (line (decimal c.args.count)) = subst (λ (l : List ℕ). Appends w w' (line l)) c.in_ok-format.ensures.ok c.in_ok-print_marked.ensures.printed in
    sent_behind w w' w'' (line (decimal c.args.count)) c.send.result wrote c.send.ensures.kept c.send.ensures.kind
