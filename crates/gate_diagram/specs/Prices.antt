-- What transactions of a package pay together, as far as 64 bits hold it.
use Rattle.std.specs.Prelude.{ℕ, List, min, sum_by}
use Rattle.gate_diagram.specs.declared.price.Price.{Price}

abbrev pub price_sum_fee : List Price → ℕ
price_sum_fee prices = min 0xffff_ffff_ffff_ffff (sum_by (λ (p : Price). p.fee) prices)

abbrev pub price_sum_size : List Price → ℕ
price_sum_size prices = min 0xffff_ffff_ffff_ffff (sum_by (λ (p : Price). p.vsize) prices)
