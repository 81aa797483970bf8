use Rattle.std.proofs.Common.{◌≡◌, ◌++◌, map, take, drop}
use Rattle.gate_submission.specs.PackageOutcomes.{left}
use Rattle.gate_submission.proofs.package_outcome.settle_all.Given as goal

abbrev pub invariant-loop-member : goal.invariant-loop-member
invariant-loop-member l = take l.member-index l.member-items ++ map (left l.gone) (drop l.member-index l.member-items) ≡ map (left l.gone) l.fn.members
