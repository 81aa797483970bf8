use Rattle.std.proofs.Common.{◌∙◌, ap}
use Rattle.std.proofs.lemmas.Result.{IfOk-weaker}
use Rattle.json.specs.Print.{quoted}
use Rattle.gate_rpc.proofs.Objects.{rejected_whole}
use Rattle.gate_rpc.proofs.writing.rejected_json.Goals as goal

pub returns : goal.returns
returns c = IfOk-weaker c.rejected_text.result _ _ (λ text is. is ∙ rejected_whole _ _ _ _ c.args.txid.now c.args.wtxid.now c.args.denial.now (c.as_str.ensures.value ∙ c.in_ok-reason.ensures ∙ ap quoted c.reject_reason.ensures) (c.as_str-2.ensures.value ∙ c.in_ok-rule.ensures) (c.as_str-3.ensures.value ∙ c.in_ok-txid.ensures) (c.as_str-4.ensures.value ∙ c.in_ok-wtxid.ensures)) c.rejected_text.ensures
