use Rattle.std.proofs.Common.{rules, ◌≡◌, ◌∙◌, true, false, None, Ok, sym, ap, subst, arith}
use Rattle.std.proofs.lemmas.List.Sums.{count_by_more_yes, count_by_more_no}
use Rattle.std.specs.Prelude.{IfOk, OnOk}
use Rattle.gate_bytes.specs.Order.{first_failing}
use Rattle.gate_standard.specs.Outputs.{carries_data}
use Rattle.gate_standard.specs.Rules.{rules_of_output}
use Rattle.gate_standard.proofs.Carrying.{output_fails, output_passes}
use Rattle.gate_standard.proofs.standard.count_carriers.Goals as goal
use Rattle.gate_standard.proofs.standard.count_carriers.Goals.{in-Ok-true, in-Ok-false}

pub returns-in-Err-clause-err : goal.returns-in-Err-clause-err
returns-in-Err-clause-err c =
    c.loop-output.invariant.rest
    ∙ output_fails c.args.standards.now c.loop-output.left c.args.outputs.now c.loop-output.output-index c.output-item.result c.in-Err.denial c.loop-output-test.true
    c.output-item.is c.in-Err.ensures.err

pub loop-output-preserved : goal.loop-output-preserved
loop-output-preserved c =
    let o = c.output-item.result in
    let left = c.loop-output.left in
    elim c.if-check_output.branch [
      | in-Ok-true w ↦
          let so : c.check_output.result ≡ Ok true = search rules in
          let carries : true ≡ carries_data o = subst (λ r. IfOk r (λ b. b ≡ carries_data o)) so c.check_output.ensures.carries in
          let passes = subst (λ r. OnOk r (first_failing (rules_of_output c.args.standards.now left o) ≡ None)) so c.check_output.ensures.passes in
          record {
            rest = c.loop-output.invariant.rest
                ∙ output_passes c.args.standards.now left c.if-check_output.left c.args.outputs.now c.loop-output.output-index o c.loop-output-test.true c.output-item.is passes (search rules);
            counted = omega (
              arith,
              w.carriers-is,
              c.loop-output.invariant.counted,
              count_by_more_yes carries_data c.args.outputs.now c.loop-output.output-index o c.loop-output-test.true (ap carries_data (sym c.output-item.is) ∙ sym carries),
            );
            few = omega (arith, w.carriers-is, c.loop-output.invariant.few);
          }
      | in-Ok-false w ↦
          let so : c.check_output.result ≡ Ok false = search rules in
          let carries : false ≡ carries_data o = subst (λ r. IfOk r (λ b. b ≡ carries_data o)) so c.check_output.ensures.carries in
          let passes = subst (λ r. OnOk r (first_failing (rules_of_output c.args.standards.now left o) ≡ None)) so c.check_output.ensures.passes in
          record {
            rest = c.loop-output.invariant.rest
                ∙ output_passes c.args.standards.now left c.if-check_output.left c.args.outputs.now c.loop-output.output-index o c.loop-output-test.true c.output-item.is passes (search rules);
            counted = omega (
              arith,
              w.carriers-is,
              c.loop-output.invariant.counted,
              count_by_more_no carries_data c.args.outputs.now c.loop-output.output-index o c.loop-output-test.true (ap carries_data (sym c.output-item.is) ∙ sym carries),
            );
            few = omega (arith, w.carriers-is, c.loop-output.invariant.few);
          }
    ]
