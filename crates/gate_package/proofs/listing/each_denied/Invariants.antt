use Rattle.std.proofs.Common.{◌≡◌, take}
use Rattle.gate_package.specs.Listed.{each_denied}
use Rattle.gate_package.proofs.listing.each_denied.Given as goal

abbrev pub invariant-loop : goal.invariant-loop
invariant-loop l = l.fates.items ≡ each_denied l.denial (take l.index l.these)
