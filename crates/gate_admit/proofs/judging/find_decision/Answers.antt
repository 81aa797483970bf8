use Rattle.std.proofs.Common.{◌≡◌, None, sym, ap, ◌∙◌, subst, arith}
use Rattle.gate_bytes.specs.Order.{first_failing}
use Rattle.gate_tx.specs.Ids.{txid_of}
use Rattle.gate_standard.specs.declared.Standards.{Standards}
use Rattle.gate_pool.specs.Pool.{entry_by_txid}
use Rattle.gate_admit.specs.Reports.{vsize_of}
use Rattle.gate_submission.specs.Alone.{alone_rules}
use Rattle.gate_admit.proofs.Granted.{unpooled_id, fits_in}
use Rattle.gate_admit.proofs.judging.find_decision.Goals as goal

pub check_families-requires-clause-new : goal.check_families-requires-clause-new
check_families-requires-clause-new g c =
    let entries = c.args.over.now.pool.now.entries in
    ap (λ es. entry_by_txid es (txid_of c.identified-identified.result.now)) (rw c.in-Ok.is at c.in_ok-direct.ensures.entries)
    ∙ ap (λ t. entry_by_txid entries (txid_of t)) (sym c.get-tx.ensures) ∙ unpooled_id c.args.over.now.policy.now entries c.get-tx.result.now (rw c.in-Ok.is at c.in_ok-direct.ensures.ok)

pub check_families-requires-clause-most : goal.check_families-requires-clause-most
check_families-requires-clause-most g c =
    let tx = c.args.candidate.now in
    let policy = c.args.over.now.policy.now in
    let alone : first_failing (alone_rules policy.standards tx) ≡ None = subst (λ (s : Standards). first_failing (alone_rules s tx) ≡ None) c.standards.ensures (sym c.in_default.ensures) in
    omega (arith, c.vsize_of-vsize.ensures.value, ap (vsize_of policy.sigop_size c.in-Ok-check_reports.cost) (c.get-tx.ensures ∙ c.identified-identified.ensures), fits_in policy.standards tx policy.sigop_size c.in-Ok-check_reports.cost c.recall_bounds.ensures.sigop_size_most c.in-Ok-check_reports.ensures.small alone)
