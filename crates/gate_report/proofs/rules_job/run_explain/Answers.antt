use Rattle.std.proofs.Common.{◌∙◌, ap, List, map}
use Rattle.gate_rules.specs.Rules.{key_of}
use Rattle.gate_rules.specs.declared.rule.Rule.{Rule}
use Rattle.gate_report.proofs.RulesTold.{rules_printed, rules_stopped}
use Rattle.gate_report.proofs.rules_job.run_explain.Goals as goal

pub returns-clause-done : goal.returns-clause-done
returns-clause-done g c =
    rules_printed _ _ (ap (λ (rules : List Rule). map key_of rules) c.as_slice.ensures.value ∙ c.in_ok-rules.ensures) _ _ _ c.print_rules.ensures.done

pub returns-clause-stopped : goal.returns-clause-stopped
returns-clause-stopped g c =
    rules_stopped _ _ (ap (λ (rules : List Rule). map key_of rules) c.as_slice.ensures.value ∙ c.in_ok-rules.ensures) _ _ _ c.print_rules.ensures.stopped
