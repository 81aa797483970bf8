use Rattle.std.proofs.Common.{◌∙◌}
use Rattle.gate_rpc.proofs.Alone.{none_is_empty}
use Rattle.gate_rpc.proofs.params.takes_none.Goals as goal

pub returns : goal.returns
returns c = c.is_empty.ensures ∙ none_is_empty c.args.params.now
