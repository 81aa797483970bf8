use Rattle.std.proofs.Common.{◌≡◌, take}
use Rattle.gate_diagram.specs.Prices.{price_sum_fee, price_sum_size}
use Rattle.gate_diagram.proofs.price.sum_of.Given as goal

abbrev pub invariant-loop-price : goal.invariant-loop-price
invariant-loop-price l = (l.sum.fee ≡ price_sum_fee (take l.price-index l.prices)) × (l.sum.vsize ≡ price_sum_size (take l.price-index l.prices))
