use Rattle.std.proofs.Common.{◌≡◌, ◌++◌, drop}
use Rattle.gate_package.specs.Listed.{allowed_until}
use Rattle.gate_package.proofs.listing.allowed_until.Given as goal

abbrev pub invariant-loop-price : goal.invariant-loop-price
invariant-loop-price l = (l.place ≡ l.price-index) × (l.fates.items ++ allowed_until l.one l.place (drop l.price-index l.prices) ≡ allowed_until l.one 0 l.prices)
