use Rattle.std.proofs.Common.{rules}
use Rattle.std.proofs.lemmas.List.Sorted.{IsNonDecreasingBy-from_sort_by_key}
use Rattle.gate_pool.proofs.Admission.{number_in}
use Rattle.gate_pool.proofs.reading.sort_by_place.Goals as goal

pub returns-clause-order : goal.returns-clause-order
returns-clause-order g c = IsNonDecreasingBy-from_sort_by_key (number_in c.args.nodes.now.places) _ c.sort_unstable_by_key.ensures.sorted (λ a r q k. search rules)
