use Rattle.std.proofs.Common.{◌≡◌, false, take}
use Rattle.std.specs.List.{list_any}
use Rattle.gate_rivals.specs.Rivals.{has_much_kin}
use Rattle.gate_rivals.proofs.rivals.some_has_much_kin.Given as goal

abbrev pub invariant-loop-entry : goal.invariant-loop-entry
invariant-loop-entry g l = list_any (has_much_kin l.pool.entries) (take l.entry-index l.entries) ≡ false
