use Rattle.gate_bytes.proofs.OrderLemmas.{first_failing_is_first}
use Rattle.gate_core.specs.Access.{caller_rules}
use Rattle.gate_core.proofs.laws.access_follows_the_order.Goals as goal

pub returns : goal.returns
returns c = λ w event. first_failing_is_first (caller_rules w event)
