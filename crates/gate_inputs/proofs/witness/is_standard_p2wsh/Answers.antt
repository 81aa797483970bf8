use Rattle.std.proofs.Common.{◌∙◌, ap, true, sym, length, List, ℕ}
use Rattle.gate_inputs.specs.Reports.{is_standard_p2wsh_stack}
use Rattle.gate_inputs.proofs.Ends.{from_last-append, from_last-none}
use Rattle.gate_inputs.proofs.witness.is_standard_p2wsh.Goals as goal

pub returns-in-Some : goal.returns-in-Some
returns-in-Some c = c.is_standard_p2wsh_stack.ensures ∙ sym (from_last-append true is_standard_p2wsh_stack c.args.witness.now c.in-Some.items c.in-Some.script.now c.in-Some.ensures)

pub returns-in-None : goal.returns-in-None
returns-in-None c = sym (from_last-none true is_standard_p2wsh_stack c.args.witness.now (ap (λ (items : List (List ℕ)). length items) c.in-None.ensures))
