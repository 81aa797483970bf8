use Rattle.std.proofs.Common.{◌≡◌, ◌++◌, ◌∷◌, [], ◌∙◌, ap, sym, not, false, List, is_some}
use Rattle.std.specs.Map.{lookup}
use Rattle.gate_submission.specs.declared.verdict.VerdictRow.{VerdictRow}
use Rattle.gate_admit.specs.Verdicts.{VerdictTable, has_row_on}
use Rattle.gate_admit.specs.VerdictMap.{rows_of, subject, subject_eq}
use Rattle.gate_admit.proofs.Rows.{has_row_on-entries, rows_of-pushed}
use Rattle.gate_admit.proofs.verdicts.Verdicts.add.Goals as goal

abbrev table : List VerdictRow → VerdictTable → VerdictTable
table rows v = record v { rows = rows }

pub returns-then-contains_key-clause-added : goal.returns-then-contains_key-clause-added
returns-then-contains_key-clause-added g c =
    ap not (sym c.if-contains_key.true ∙ c.contains_key.ensures ∙ has_row_on-entries c.args.row.wtxid c.args.row.input c.self.inside.verdicts.entries ∙ ap (λ (v : VerdictTable). has_row_on v.rows c.args.row.wtxid c.args.row.input) c.self.view_is)

pub returns-clause-added : goal.returns-clause-added
returns-clause-added g c =
    ap not (sym c.if-contains_key.false ∙ c.contains_key.ensures ∙ has_row_on-entries c.args.row.wtxid c.args.row.input c.self.inside.verdicts.entries ∙ ap (λ (v : VerdictTable). has_row_on v.rows c.args.row.wtxid c.args.row.input) c.self.view_is)

pub returns-clause-rows : goal.returns-clause-rows
returns-clause-rows g c =
    let fresh : is_some (lookup (subject_eq (subject c.args.row.wtxid c.args.row.input)) c.self.inside.verdicts.entries) ≡ false = sym c.contains_key.ensures ∙ c.if-contains_key.false in
    let pushed : rows_of c.insert.new.self.entries ≡ rows_of c.self.inside.verdicts.entries ++ c.args.row ∷ [] =
    rows_of-pushed c.self.inside.verdicts.entries c.insert.new.self.entries c.args.row fresh c.in_ok-insert.ensures.entries in
    ap (λ (rows : List VerdictRow). record { rows = rows; other = c.self.inside.other }) pushed
    ∙ ap (λ (v : VerdictTable). table (v.rows ++ c.args.row ∷ []) v) c.self.view_is
