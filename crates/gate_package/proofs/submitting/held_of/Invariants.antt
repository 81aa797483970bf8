use Rattle.std.proofs.Common.{◌≡◌, take}
use Rattle.gate_package.specs.Packages.{held_txids}
use Rattle.gate_package.proofs.submitting.held_of.Given as goal

abbrev pub invariant-loop-member : goal.invariant-loop-member
invariant-loop-member l = l.held.items ≡ held_txids (take l.member-index l.members)
