use Rattle.std.proofs.Common.{◌≡◌, take, string_bytes}
use Rattle.gate_register.specs.Texts.{rows_text}
use Rattle.gate_register.proofs.text.rows_text.Given as goal

abbrev pub invariant-loop-row : goal.invariant-loop-row
invariant-loop-row l = string_bytes l.text ≡ rows_text (take l.row-index l.rows)
