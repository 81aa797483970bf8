use Rattle.std.proofs.Common.{◌≡◌, take}
use Rattle.gate_admit.specs.Rules.{heights_of}
use Rattle.gate_admit.proofs.locking.heights_of.Given as goal

abbrev pub invariant-loop-coin : goal.invariant-loop-coin
invariant-loop-coin l = l.heights.items ≡ heights_of (take l.coin-index l.coins)
