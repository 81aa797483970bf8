use Rattle.gate_graph.proofs.Joining.{HasNoFamily-stranger}
use Rattle.gate_graph.proofs.law.strangers_have_no_family.Goals as goal

pub returns : goal.returns
returns c = HasNoFamily-stranger
