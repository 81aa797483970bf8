use Rattle.std.proofs.Common.{◌∙◌, ap}
use Rattle.hex.specs.Hex.{encode_lower}
use Rattle.json.specs.Print.{quoted}
use Rattle.gate_tx.specs.Text.{text}
use Rattle.gate_rpc.proofs.writing.transaction_json.Goals as goal

pub returns : goal.returns
returns c = c.in_ok-quoted_digits.ensures ∙ ap (λ b. quoted (encode_lower b)) (c.as_slice.ensures.value ∙ c.in_ok-bytes.ensures.text ∙ ap text c.transaction.ensures)
