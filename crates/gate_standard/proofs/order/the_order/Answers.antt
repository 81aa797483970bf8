use Rattle.gate_bytes.proofs.OrderLemmas.{first_failing_is_first}
use Rattle.gate_standard.proofs.order.the_order.Goals as goal

pub returns : goal.returns
returns c = first_failing_is_first
