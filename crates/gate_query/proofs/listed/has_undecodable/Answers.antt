use Rattle.std.proofs.Common.{rules, tests, Option}
use Rattle.std.specs.Prelude.{is_none}
use Rattle.std.proofs.lemmas.Iterator.{YieldsList-from_slice}
use Rattle.std.proofs.lemmas.Iterator.Search.{any_from_yields_List}
use Rattle.gate_tx.specs.Tx.{Tx}
use Rattle.gate_query.proofs.listed.has_undecodable.Goals as goal

pub returns : goal.returns
returns c = any_from_yields_List (λ (t : Option Tx). is_none t) _ _ c.any.result c.any.ensures.ran (YieldsList-from_slice c.args.submissions.now cc) (λ x b q k. search (rules, tests))
