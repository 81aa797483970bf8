use Rattle.std.proofs.Common.{◌∙◌}
use Rattle.gate_rpc.specs.Packages.{taken_fees}
use Rattle.gate_rpc.proofs.Packaged.{sized_whole}
use Rattle.gate_rpc.proofs.packaging.taken_json.Goals as goal

pub returns : goal.returns
returns c = c.in_ok-sized_json.ensures ∙ sized_whole (taken_fees c.args.all.now c.args.together c.args.wtxid.now c.args.fee c.args.vsize) c.args.txid.now c.args.vsize _ (c.as_str.ensures.value ∙ c.in_ok-fees.ensures)
