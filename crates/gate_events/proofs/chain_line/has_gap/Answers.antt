use Rattle.std.proofs.Common.{◌==◌, length, List, ℕ, rules, tests}
use Rattle.std.proofs.lemmas.Iterator.Search.{any_from_yields_List}
use Rattle.std.proofs.lemmas.Iterator.Splits.{YieldsList-from_slice_split}
use Rattle.gate_events.proofs.chain_line.has_gap.Goals as goal

pub returns : goal.returns
returns c =
    any_from_yields_List (λ (word : List ℕ). length word == 0) _ _ _ c.any.ensures.ran
    (YieldsList-from_slice_split _ _ c.args.text.now c.split.ensures.rest c.split.ensures.done c.split.ensures.closure (λ x r q k. search (rules, tests)))
    (λ x r q k. search (rules, tests))
