-- What a check comes to.
use Rattle.std.proofs.Common.{◌≡◌, ◌≤◌, ℕ, List, Option, Some, None, subst, ◌∙◌, arith}
use Rattle.gate_bytes.specs.Order.{first_failing}
use Rattle.gate_lines.specs.Lines.{unlines}
use Rattle.gate_check.specs.Checks.{check_lines, check_status, input_spells, verdict_status}
use Rattle.gate_rules.specs.declared.Denial.{Denial}
use Rattle.gate_standard.specs.Standards.{usual_standards}
use Rattle.gate_submission.specs.Alone.{alone_rules}
use Rattle.gate_tx.specs.Tx.{Tx}
use Rattle.gate_c.specs.Outputs.{TextPut}

verdict_least : (denial : Option Denial) → verdict_status denial ≤ 1
verdict_least None = omega arith
verdict_least (Some denial) = omega arith

-- the status of a check is 0 or 1
status_least : (tx : Option Tx) → check_status tx ≤ 1
status_least None = omega arith
status_least (Some tx) = verdict_least (first_failing (alone_rules usual_standards tx))

-- a text that was put is that of the check, with its status
pub check_called : (input text before after : List ℕ) (code checked size status : ℕ) → text ≡ unlines (check_lines (input_spells input)) → checked ≡ check_status (input_spells input)
    → (checked ≤ 1 → code ≡ checked) → TextPut code text before after size status
    → TextPut (check_status (input_spells input)) (unlines (check_lines (input_spells input))) before after size status
check_called input text before after code checked size status is told known put =
    let least : checked ≤ 1 = rw told (status_least (input_spells input)) in
    subst (λ (n : ℕ). TextPut n (unlines (check_lines (input_spells input))) before after size status) (known least ∙ told)
    (subst (λ (t : List ℕ). TextPut code t before after size status) is put)
