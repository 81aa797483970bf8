-- What two that are judged together pay, within bounds.
use Rattle.std.proofs.Common.{◌≡◌, ◌≤◌, ◌<◌, List, [], ◌∷◌, length, arith}
use Rattle.std.specs.Prelude.{All}
use Rattle.std.proofs.lemmas.List.Elements.{All-head, All-tail}
use Rattle.gate_admit.specs.Bounds.{FitsEntry}
use Rattle.gate_diagram.specs.declared.Price.{Price}
use Rattle.gate_diagram.specs.Diagram.{IsSmall}
use Rattle.gate_diagram.specs.Prices.{price_sum_fee, price_sum_size}

abbrev Fit : Price → Type 0
Fit price = FitsEntry price.fee price.vsize

pub record OfTwo (prices : List Price) : Type 0 where
  pub fee : price_sum_fee prices ≤ 4_200_000_000_000_000
  pub vsize : price_sum_size prices ≤ 20_000_000
  pub some : 0 < price_sum_size prices

pub of_two : (prices : List Price) → All (λ (price : Price). FitsEntry price.fee price.vsize) prices → length prices ≡ 2 → OfTwo prices
of_two [] all many = absurd (omega (arith, many))
of_two (p ∷ []) all many = absurd (omega (arith, many))
of_two (p ∷ (q ∷ (r ∷ rest))) all many = absurd (omega (arith, many))
of_two (p ∷ (q ∷ [])) all many =
    let first = All-head Fit p (q ∷ []) all in
    let second = All-head Fit q [] (All-tail Fit p (q ∷ []) all) in
    record {
      fee = omega (arith, first.fee_in_range, second.fee_in_range);
      vsize = omega (arith, first.few, second.few);
      some = omega (arith, first.some, second.some);
    }

pub one_small : (price : Price) → FitsEntry price.fee price.vsize → IsSmall price
one_small price h = record { fee = omega (arith, h.fee_in_range); vsize = omega (arith, h.few) }
