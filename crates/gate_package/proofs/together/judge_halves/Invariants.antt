use Rattle.std.proofs.Common.{◌≡◌, [], take, drop}
use Rattle.std.specs.Prelude.{All}
use Rattle.gate_admit.specs.Bounds.{FitsEntry}
use Rattle.gate_admit.specs.Lending.{lent_with}
use Rattle.gate_diagram.specs.declared.Price.{Price}
use Rattle.gate_package.specs.Together.{halves_as}
use Rattle.gate_package.proofs.Halves.{with_all}
use Rattle.gate_package.proofs.together.judge_halves.Given as goal

abbrev pub invariant-loop-tx : goal.invariant-loop-tx
invariant-loop-tx g l = record {
  at : l.place ≡ l.tx-index;
  fit : All (λ (price : Price). FitsEntry price.fee price.vsize) l.prices.items;
  rest : with_all l.prices.items (halves_as l.role l.max_rate (lent_with l.under l.pool.entries) (take l.tx-index l.these) l.place (drop l.tx-index l.these))
      ≡ halves_as l.role l.max_rate (lent_with l.under l.pool.entries) [] 0 l.these;
}
