use Rattle.std.proofs.Common.{◌∙◌}
use Rattle.std.proofs.lemmas.Result.{IfOk-weaker}
use Rattle.gate_rpc.proofs.Objects.{spending_whole}
use Rattle.gate_rpc.proofs.writing.spending_json.Goals as goal

pub returns : goal.returns
returns c = IfOk-weaker c.spending_start.result _ _
    (λ text is. is ∙ spending_whole c.args.spending.now c.as_str.result.now _ (c.as_str.ensures.value ∙ c.in_ok-txid.ensures) (c.as_str-2.ensures.value ∙ c.in_ok-rest.ensures))
    c.spending_start.ensures
