use Rattle.gate_graph.proofs.Joining.{LeavesFamilies-root}
use Rattle.gate_graph.proofs.law.roots_leave_families.Goals as goal

pub returns : goal.returns
returns c = LeavesFamilies-root
