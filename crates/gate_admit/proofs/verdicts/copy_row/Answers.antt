use Rattle.std.proofs.Common.{◌≡◌, sym, Some, slice_get}
use Rattle.gate_chain.proofs.Copies.{on_ok_then}
use Rattle.gate_submission.specs.declared.verdict.Verdict.{Verdict}
use Rattle.gate_admit.specs.declared.verdicts.Subject.{Subject}
use Rattle.gate_admit.proofs.Needed.{copied_row}
use Rattle.gate_admit.proofs.verdicts.copy_row.Goals as goal

pub returns-in-Some : goal.returns-in-Some
returns-in-Some g c =
    let entry : Subject × Verdict = (c.in-Some.subject.now, c.in-Some.verdict.now) in
    let there : slice_get c.args.rows.now.entries c.args.place ≡ Some entry = sym c.in-Some.ensures.entry in
    on_ok_then c.put_row.result (copied_row c.args.rows.now.entries c.args.copies.now.entries c.put_row.new.rows.entries c.args.place entry there) c.put_row.ensures
