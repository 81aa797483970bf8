use Rattle.std.proofs.Common.{◌≡◌, ◌≤◌, ◌∙◌, ap, arith, length, List, Option}
use Rattle.std.proofs.lemmas.List.{length-map}
use Rattle.gate_submission.specs.declared.verdict.Verdict.{Verdict}
use Rattle.gate_submission.specs.declared.verdict.VerdictRow.{VerdictRow}
use Rattle.gate_admit.specs.declared.verdicts.Subject.{Subject}
use Rattle.gate_admit.specs.Verdicts.{VerdictTable, is_among, rows_for}
use Rattle.gate_admit.specs.VerdictMap.{entries_for, row_of, rows_of}
use Rattle.gate_admit.proofs.Needed.{needed_few, rows_of-needed}
use Rattle.gate_admit.proofs.verdicts.Verdicts.forget.Goals as goal

abbrev table : List VerdictRow → Option Verdict → VerdictTable
table rows other = record { rows = rows; other = other }

pub overflow_sub-result : goal.overflow_sub-result
overflow_sub-result g c =
    omega (arith, c.len.ensures.len, c.len-before.ensures.len, ap length c.take_out.ensures, needed_few c.args.pool.now.entries (is_among c.args.confirmed.now) c.self.inside.verdicts.entries)

pub returns-clause-rows : goal.returns-clause-rows
returns-clause-rows g c =
    let pool = c.args.pool.now.entries in
    let confirmed = is_among c.args.confirmed.now in
    let before : List (Subject × Verdict) = c.self.inside.verdicts.entries in
    ap (λ (es : List (Subject × Verdict)). table (rows_of es) c.self.inside.other) c.take_out.ensures
    ∙ ap (λ (rows : List VerdictRow). table rows c.self.inside.other) (rows_of-needed pool confirmed before)
    ∙ ap (λ (v : VerdictTable). table (rows_for pool confirmed v.rows) v.other) c.self.view_is

pub returns-clause-count : goal.returns-clause-count
returns-clause-count g c =
    let after : List (Subject × Verdict) = c.take_out.new.verdicts.entries in
    let before : List (Subject × Verdict) = c.self.inside.verdicts.entries in
    omega (
      arith,
      c.len.ensures.len,
      c.len-before.ensures.len,
      ap length c.take_out.ensures,
      needed_few c.args.pool.now.entries (is_among c.args.confirmed.now) before,
      length-map after row_of,
      length-map before row_of,
      ap (λ (v : VerdictTable). length v.rows) c.self.view_is,
    )
