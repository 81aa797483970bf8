use Rattle.std.proofs.Common.{◌≡◌, ◌≤◌, ◌++◌, take, drop}
use Rattle.gate_package.specs.Packages.{one_refused}
use Rattle.gate_package.proofs.submitting.refuse_denied.Given as goal

abbrev pub invariant-loop-member : goal.invariant-loop-member
invariant-loop-member l =
    (l.place ≤ l.member-index) × (take l.member-index l.member-items ++ one_refused l.one l.place (drop l.member-index l.member-items) ≡ one_refused l.one 0 l.fn.members.items)
