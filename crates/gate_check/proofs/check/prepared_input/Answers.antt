use Rattle.std.proofs.Common.{◌≡◌, ℕ, ◌≤◌, nat_le, List, true, length, IfOk, Option, refl, subst, sym, ◌∙◌, ap, arith}
use Rattle.std.proofs.lemmas.Bool.Decides.{nat_tests}
use Rattle.gate_events.specs.EventLines.{prepared_of}
use Rattle.gate_lines.specs.Lines.{if_text}
use Rattle.gate_lines.proofs.TextLines.{if_text-read, if_text-no_text}
use Rattle.gate_tx.specs.Tx.{Tx}
use Rattle.gate_check.specs.Checks.{input_spells, trimmed}
use Rattle.gate_check.specs.Inputs.{input_limit}
use Rattle.gate_check.proofs.check.prepared_input.Goals as goal

fits : (n m : ℕ) → n ≤ m → nat_le n m ≡ true
fits n m h = grind (arith, nat_tests)

within_limit : (input : List ℕ) → length input ≤ input_limit → input_spells input ≡ if_text prepared_of (trimmed input)
within_limit input few = rw (fits (length input) input_limit few) refl

pub returns-in-Ok : goal.returns-in-Ok
returns-in-Ok c =
    let spelled : IfOk c.prepared.result (λ found. found ≡ if_text prepared_of (trimmed c.args.input.now)) = subst (λ line. IfOk c.prepared.result (λ found. found ≡ if_text prepared_of line)) c.trim.ensures
    (if_text-read prepared_of _ _ _ c.in-Ok.ensures.cases.0 c.in-Ok.ensures.cases.1 c.prepared.ensures) in
    subst (λ (tx : Option Tx). IfOk c.prepared.result (λ found. found ≡ tx)) (sym (within_limit c.args.input.now c.requires)) spelled

pub returns-in-Err : goal.returns-in-Err
returns-in-Err c = c.undecodable.ensures ∙ sym (if_text-no_text prepared_of _ c.in-Err.ensures.cases.0) ∙ ap (if_text prepared_of) c.trim.ensures ∙ sym (within_limit c.args.input.now c.requires)
