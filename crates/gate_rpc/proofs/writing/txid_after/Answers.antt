use Rattle.std.proofs.Common.{◌++◌, ◌∙◌, ap, subst}
use Rattle.std.proofs.lemmas.Result.{IfOk-weaker}
use Rattle.hex.specs.Hex.{IsBytes}
use Rattle.gate_rpc.proofs.Digits.{quoted_id}
use Rattle.gate_rpc.proofs.writing.txid_after.Goals as goal

pub returns : goal.returns
returns c = IfOk-weaker c.format.result _ _ (λ text is. is ∙ ap (λ t. c.args.before.now ++ t) (quoted_id c.args.txid.now (subst IsBytes c.as_bytes.ensures.bytes c.recall_bytes.ensures))) c.format.ensures.ok
