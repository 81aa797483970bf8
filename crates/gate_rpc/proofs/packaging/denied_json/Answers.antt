use Rattle.std.proofs.Common.{◌∙◌, ap}
use Rattle.json.specs.Print.{quoted}
use Rattle.gate_rpc.proofs.Packaged.{denied_whole}
use Rattle.gate_rpc.proofs.packaging.denied_json.Goals as goal

pub returns : goal.returns
returns c =
    c.in_ok-denied_text.ensures
    ∙ denied_whole _ _ _ c.args.txid.now c.args.denial.now (c.as_str.ensures.value ∙ c.in_ok-reason.ensures ∙ ap quoted c.row.ensures.token) (c.as_str-2.ensures.value ∙ c.in_ok-rule.ensures) (c.as_str-3.ensures.value ∙ c.in_ok-txid.ensures)
