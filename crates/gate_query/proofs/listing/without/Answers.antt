use Rattle.std.proofs.Common.{rules, not, ◌∙◌}
use Rattle.std.specs.Str.{bytes_eq}
use Rattle.std.proofs.lemmas.Fn.{filter_same}
use Rattle.gate_query.proofs.listing.without.Goals as goal

pub returns : goal.returns
returns c = c.from_vec.ensures ∙ filter_same _ (λ other. not (bytes_eq other c.args.txid.now)) _ (λ x b f' k. search rules) _ _ c.retain.ensures.filtered
