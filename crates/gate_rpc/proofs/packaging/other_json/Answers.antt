use Rattle.std.proofs.Common.{◌∙◌}
use Rattle.gate_rpc.proofs.Packaged.{other_whole}
use Rattle.gate_rpc.proofs.packaging.other_json.Goals as goal

pub returns : goal.returns
returns c = c.in_ok-other_text.ensures ∙ other_whole _ _ c.args.other.now c.args.txid.now (c.as_str.ensures.value ∙ c.in_ok-other.ensures) (c.as_str-2.ensures.value ∙ c.in_ok-txid.ensures)
