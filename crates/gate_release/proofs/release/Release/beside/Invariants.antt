use Rattle.std.proofs.Common.{◌≡◌, drop}
use Rattle.gate_release.specs.Releases.{policy_beside}
use Rattle.gate_release.proofs.release.Release.beside.Given as goal

abbrev pub invariant-loop-choice : goal.invariant-loop-choice
invariant-loop-choice l = policy_beside l.self l.said l.policy (drop l.choice-index l.choice-items) ≡ policy_beside l.self l.said l.fn.policy l.choice-items
