use Rattle.std.proofs.Common.{◌∙◌, sym, ap}
use Rattle.gate_rpc.specs.Calls.{keys_in}
use Rattle.gate_rpc.proofs.Each.{keys_counted}
use Rattle.gate_rpc.proofs.params.keys_in.Goals as goal

pub returns-in-Some : goal.returns-in-Some
returns-in-Some c = c.len.ensures.len ∙ sym (keys_counted _) ∙ ap keys_in c.in-Some.ensures
