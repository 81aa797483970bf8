use Rattle.gate_rpc.proofs.Intersections.{lists_are_intersections}
use Rattle.gate_rpc.proofs.law.lists_are_intersections.Goals as goal

pub returns : goal.returns
returns c = lists_are_intersections
