use Rattle.std.proofs.Common.{◌≡◌, ◌≤◌, take}
use Rattle.std.specs.List.{count_by}
use Rattle.gate_package.specs.Packages.{is_denied}
use Rattle.gate_package.proofs.submitting.count_denied.Given as goal

abbrev pub invariant-loop-member : goal.invariant-loop-member
invariant-loop-member l = (l.count ≡ count_by is_denied (take l.member-index l.members)) × (l.count ≤ l.member-index)
