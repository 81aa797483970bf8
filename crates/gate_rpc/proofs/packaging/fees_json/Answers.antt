use Rattle.std.proofs.Common.{◌∙◌}
use Rattle.gate_rpc.proofs.Packaged.{fees_whole}
use Rattle.gate_rpc.proofs.packaging.fees_json.Goals as goal

pub returns : goal.returns
returns c = c.in_ok-fees_text.ensures ∙ fees_whole c.args.base c.args.fee c.args.vsize _ c.args.wtxids.now _ c.told_rate-rate.ensures (c.as_str.ensures.value ∙ c.in_ok-wtxids.ensures)
