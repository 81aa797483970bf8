use Rattle.std.proofs.Common.{◌∙◌}
use Rattle.gate_rpc.specs.Packages.{base_json}
use Rattle.gate_rpc.proofs.Packaged.{base_is, sized_whole}
use Rattle.gate_rpc.proofs.packaging.known_json.Goals as goal

pub returns : goal.returns
returns c = c.in_ok-sized_json.ensures ∙ sized_whole (base_json c.args.fee) c.args.txid.now c.args.vsize _ (c.as_str.ensures.value ∙ c.in_ok-fees.ensures ∙ base_is c.args.fee)
