use Rattle.std.proofs.Common.{◌≡◌, false, take}
use Rattle.std.specs.List.{list_any}
use Rattle.gate_diagram.specs.Diagram.{is_below}
use Rattle.gate_diagram.proofs.diagram.is_below_at.Given as goal

abbrev pub invariant-loop-rate : goal.invariant-loop-rate
invariant-loop-rate l = list_any (is_below l.chunks l.others) (take l.rate-index l.rates) ≡ false
