-- What is printed of the rules.
use Rattle.std.specs.Prelude.{◌≡◌, ℕ, List, [], ◌∷◌, map, filter, Option}
use Rattle.std.specs.Io.KnownBytes.{Appends}
use Rattle.gate_lines.specs.declared.fault.LaneFault.{LaneFault}
use Rattle.gate_lines.specs.declared.fault.LaneFault.TheVariants as lane
use Rattle.gate_print.specs.Printing.{PartSent}
use Rattle.gate_rules.specs.Key.{Key}
use Rattle.gate_rules.specs.Keys.{table_keys}
use Rattle.gate_rules.specs.Rules.{is_named, key_of}
use Rattle.gate_rules.specs.Texts.{rules_text}
use Rattle.gate_rules.specs.declared.rule.Rule.{Rule}

-- the rules that a word names, in the order of the table
abbrev pub found_keys : List ℕ → List Key
found_keys word = filter (is_named word) table_keys

abbrev pub found_status : List Rule → ℕ
found_status [] = 1
found_status (rule ∷ rules) = 0

-- the lines of these rules were printed
abbrev pub TheseRulesPrinted : List Rule → Option (List ℕ) → Option (List ℕ) → ℕ → Type 0
TheseRulesPrinted rules before after status = Appends before after (rules_text rules) × (status ≡ found_status rules)

abbrev pub TheseRulesStopped : List Rule → Option (List ℕ) → Option (List ℕ) → LaneFault → Type 0
TheseRulesStopped rules before after lane.Read = ⊥
TheseRulesStopped rules before after lane.Write = PartSent before after (rules_text rules)
TheseRulesStopped rules before after lane.Memory = Appends before after []

-- the lines of rules with these keys were printed
abbrev pub RulesPrinted : List Key → Option (List ℕ) → Option (List ℕ) → ℕ → Type 0
RulesPrinted keys before after status = (rules : List Rule) × (map key_of rules ≡ keys) × TheseRulesPrinted rules before after status

-- printing the lines of these rules stopped: nothing was written if memory ran out
abbrev pub RulesStopped : List Key → Option (List ℕ) → Option (List ℕ) → LaneFault → Type 0
RulesStopped keys before after lane.Read = ⊥
RulesStopped keys before after lane.Write = (rules : List Rule) × (map key_of rules ≡ keys) × PartSent before after (rules_text rules)
RulesStopped keys before after lane.Memory = Appends before after []
