use Rattle.std.proofs.Common.{rules, not}
use Rattle.std.specs.Prelude.{◌==◌}
use Rattle.std.proofs.lemmas.Fn.{filter_same}
use Rattle.gate_graph.proofs.take.leave_out.Goals as goal

pub returns-clause-left : goal.returns-clause-left
returns-clause-left c = filter_same _ (λ p. not (p == c.args.place)) _ (λ x b f' k. search rules) _ _ c.retain.ensures.filtered
