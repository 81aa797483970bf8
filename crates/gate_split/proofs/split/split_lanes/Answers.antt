use Rattle.std.proofs.Common.{ℕ}
use Rattle.std.specs.Global.{Vec}
use Rattle.std.proofs.lemmas.Result.{IfOk-weaker}
use Rattle.gate_split.specs.Splitting.{rounds_bytes, so_far}
use Rattle.gate_split.proofs.Splits.{rounds_read}
use Rattle.gate_split.proofs.split.split_lanes.Goals as goal

pub returns-clause-read : goal.returns-clause-read
returns-clause-read g c =
    IfOk-weaker _ _ _ (λ (rounds : Vec (Vec (Vec ℕ))). λ h. rounds_read _ (so_far c.in_ok-take_lines.field-0) (rounds_bytes rounds.items) c.in_ok-take_lines.ensures.read h.0 h.1) c.close.ensures.read
