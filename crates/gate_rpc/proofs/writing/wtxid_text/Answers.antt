use Rattle.std.proofs.Common.{◌∙◌, subst}
use Rattle.std.proofs.lemmas.Result.{IfOk-weaker}
use Rattle.hex.specs.Hex.{IsBytes}
use Rattle.gate_rpc.proofs.Digits.{quoted_id}
use Rattle.gate_rpc.proofs.writing.wtxid_text.Goals as goal

pub returns : goal.returns
returns c = IfOk-weaker c.format.result _ _ (λ text is. is ∙ quoted_id c.args.wtxid.now (subst IsBytes c.as_bytes.ensures.bytes c.recall_bytes.ensures)) c.format.ensures.ok
