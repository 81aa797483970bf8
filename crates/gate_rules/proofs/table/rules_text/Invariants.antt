use Rattle.std.proofs.Common.{◌≡◌, take, string_bytes}
use Rattle.gate_rules.specs.Texts.{rules_text}
use Rattle.gate_rules.proofs.table.rules_text.Given as goal

abbrev pub invariant-loop-rule : goal.invariant-loop-rule
invariant-loop-rule l = string_bytes l.text ≡ rules_text (take l.rule-index l.rules)
