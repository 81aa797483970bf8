use Rattle.std.proofs.Common.{◌≡◌, None, sym, ap, ◌∙◌, subst, arith}
use Rattle.gate_bytes.specs.Order.{first_failing}
use Rattle.gate_standard.specs.declared.Standards.{Standards}
use Rattle.gate_submission.specs.Alone.{alone_rules}
use Rattle.gate_admit.specs.Reports.{vsize_of}
use Rattle.gate_admit.proofs.Granted.{fits_in}
use Rattle.gate_package.proofs.half.first_half.Goals as goal

pub returns-clause-fits : goal.returns-clause-fits
returns-clause-fits g c =
    let tx = c.args.candidate.now in
    let policy = c.args.under.now.policy.now in
    let alone : first_failing (alone_rules policy.standards tx) ≡ None = subst (λ (s : Standards). first_failing (alone_rules s tx) ≡ None) c.standards.ensures (sym c.in_default.ensures) in
    record {
      fee_in_range = omega (arith, c.in-Ok-check_balance.ensures.ok, c.in-Ok-check_coins_paid.ensures.small);
      some = omega (arith, c.vsize_of-vsize.ensures.some);
      few = omega (
        arith,
        c.vsize_of-vsize.ensures.value,
        ap (vsize_of policy.sigop_size c.in-Ok-check_reports.cost) (c.get-tx.ensures ∙ c.identified.ensures),
        fits_in policy.standards tx policy.sigop_size c.in-Ok-check_reports.cost c.recall_bounds.ensures.sigop_size_most c.in-Ok-check_reports.ensures.small alone,
      );
    }
