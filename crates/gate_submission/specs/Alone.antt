-- The rules on a submission alone.
use Rattle.std.specs.Prelude.{List, ◌++◌, Option, Some, None}
use Rattle.gate_bytes.specs.Order.{Rule, first_failing}
use Rattle.gate_tx.specs.Tx.{Tx}
use Rattle.gate_rules.specs.declared.Denial.{Denial}
use Rattle.gate_rules.specs.declared.Denial.TheVariants.{Decode}
use Rattle.gate_standard.specs.Rules.{transaction_rules, version_rules, form_rules, output_rules}
use Rattle.gate_standard.specs.declared.Standards.{Standards}

-- A2 to A11 and A13 to A15: the transaction alone, whatever an operator sets
unfoldable pub own_rules : Tx → List (Rule Denial)
own_rules tx = transaction_rules tx ++ form_rules tx

-- A2 to A19: the transaction alone, beside what an operator takes for standard
unfoldable pub alone_rules : Standards → Tx → List (Rule Denial)
alone_rules standards tx = transaction_rules tx ++ (version_rules standards.truc tx ++ (form_rules tx ++ output_rules standards tx))

-- the denial by A1, that there is no transaction, or by the rules on a transaction alone that no operator sets
abbrev pub first_denial : Option Tx → Option Denial
first_denial None = Some Decode
first_denial (Some tx) = first_failing (own_rules tx)

-- the denial by A1, or by the rules on a transaction alone, beside what an operator takes for standard
abbrev pub denial_by : Standards → Option Tx → Option Denial
denial_by standards None = Some Decode
denial_by standards (Some tx) = first_failing (alone_rules standards tx)
