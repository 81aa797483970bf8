use Rattle.std.proofs.Common.{◌≡◌, ◌++◌, drop, take}
use Rattle.gate_package.specs.Packages.{granted}
use Rattle.gate_package.proofs.submitting.grant_denied.Given as goal

abbrev pub invariant-loop-member : goal.invariant-loop-member
invariant-loop-member l = take l.member-index l.member-items ++ granted l.told l.prices (drop l.member-index l.member-items) ≡ granted l.fn.replaced l.fn.prices l.fn.members.items
