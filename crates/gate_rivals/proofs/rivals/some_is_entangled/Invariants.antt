use Rattle.std.proofs.Common.{◌≡◌, false, take}
use Rattle.std.specs.List.{list_any}
use Rattle.gate_rivals.specs.Rivals.{is_entangled}
use Rattle.gate_rivals.proofs.rivals.some_is_entangled.Given as goal

abbrev pub invariant-loop-entry : goal.invariant-loop-entry
invariant-loop-entry g l = list_any (is_entangled l.pool.entries) (take l.entry-index l.entries) ≡ false
