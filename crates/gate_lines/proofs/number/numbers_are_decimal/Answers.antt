use Rattle.gate_lines.proofs.Decimals.{number_decimal, decimal_number}
use Rattle.gate_lines.proofs.number.numbers_are_decimal.Goals as goal

pub returns : goal.returns
returns c = λ text n. (λ h. number_decimal text n h, λ h. decimal_number text n h.0 h.1)
