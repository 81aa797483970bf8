use Rattle.std.proofs.Common.{rules}
use Rattle.std.proofs.lemmas.List.Sorted.{IsNonDecreasingBy-from_sort_by_key}
use Rattle.gate_pool.specs.declared.moves.Seated.{Seated}
use Rattle.gate_pool.proofs.moves.sort_by_seat.Goals as goal

pub returns-clause-order : goal.returns-clause-order
returns-clause-order c = IsNonDecreasingBy-from_sort_by_key (λ (s : Seated). s.place) _ c.sort_unstable_by_key.ensures.sorted (λ a r q k. search rules)
