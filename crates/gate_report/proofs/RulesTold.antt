-- The rules of a table were printed, or not whole.
use Rattle.std.proofs.Common.{◌≡◌, ℕ, List, map, Option, Result, Ok, Err, IfOk, IfErr}
use Rattle.gate_lines.specs.declared.fault.LaneFault.{LaneFault}
use Rattle.gate_lines.specs.declared.fault.LaneFault.TheVariants as lane
use Rattle.gate_report.specs.Explaining.{RulesPrinted, RulesStopped, TheseRulesPrinted, TheseRulesStopped}
use Rattle.gate_rules.specs.Key.{Key}
use Rattle.gate_rules.specs.Rules.{key_of}
use Rattle.gate_rules.specs.declared.rule.Rule.{Rule}

pub rules_printed : (keys : List Key) (rules : List Rule) → map key_of rules ≡ keys → (before after : Option (List ℕ)) (result : Result ℕ LaneFault)
    → IfOk result (λ status. TheseRulesPrinted rules before after status) → IfOk result (λ status. RulesPrinted keys before after status)
rules_printed keys rules e before after (Ok status) h = (rules, e, h)
rules_printed keys rules e before after (Err fault) h = tt

pub rules_stopped : (keys : List Key) (rules : List Rule) → map key_of rules ≡ keys → (before after : Option (List ℕ)) (result : Result ℕ LaneFault)
    → IfErr result (λ fault. TheseRulesStopped rules before after fault) → IfErr result (λ fault. RulesStopped keys before after fault)
rules_stopped keys rules e before after (Ok status) h = tt
rules_stopped keys rules e before after (Err lane.Read) h = h
rules_stopped keys rules e before after (Err lane.Write) h = (rules, e, h)
rules_stopped keys rules e before after (Err lane.Memory) h = h
