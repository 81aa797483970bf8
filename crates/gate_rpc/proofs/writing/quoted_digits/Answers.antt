use Rattle.std.proofs.Common.{◌∷◌, ◌++◌, [], ◌∙◌, ap}
use Rattle.std.proofs.lemmas.Result.{IfOk-weaker}
use Rattle.gate_rpc.proofs.Digits.{quoted_hex}
use Rattle.gate_rpc.proofs.writing.quoted_digits.Goals as goal

pub returns : goal.returns
returns c = IfOk-weaker c.format.result _ _ (λ text is. is ∙ ap (λ t. 34 ∷ (t ++ 34 ∷ [])) c.in_ok-digits.ensures ∙ quoted_hex c.args.bytes.now c.recall_bytes.ensures) c.format.ensures.ok
