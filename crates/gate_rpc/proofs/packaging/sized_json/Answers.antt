use Rattle.std.proofs.Common.{◌∙◌, ap}
use Rattle.std.proofs.lemmas.Result.{IfOk-weaker}
use Rattle.gate_rpc.specs.Packages.{sized_text}
use Rattle.gate_rpc.proofs.packaging.sized_json.Goals as goal

pub returns : goal.returns
returns c = IfOk-weaker c.sized_text.result _ _ (λ text is. is ∙ ap (λ txid. sized_text c.args.fees.now txid c.args.vsize) (c.as_str.ensures.value ∙ c.in_ok-txid.ensures)) c.sized_text.ensures
