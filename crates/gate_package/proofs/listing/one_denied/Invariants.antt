use Rattle.std.proofs.Common.{◌≡◌, ◌++◌, drop}
use Rattle.gate_package.specs.Listed.{one_denied}
use Rattle.gate_package.proofs.listing.one_denied.Given as goal

abbrev pub invariant-loop : goal.invariant-loop
invariant-loop l = (l.place ≡ l.index) × (l.fates.items ++ one_denied l.one l.place (drop l.index l.these) ≡ one_denied l.one 0 l.these)
