use Rattle.std.proofs.Common.{◌∙◌, ap, arith}
use Rattle.std.specs.List.{flat_map}
use Rattle.std.proofs.lemmas.List.{take_all}
use Rattle.gate_query.specs.Queries.{known_at}
use Rattle.gate_query.proofs.Entries.{all_known}
use Rattle.gate_query.proofs.known.entries_known.Goals as goal

pub returns : goal.returns
returns g c =
    let entries = c.args.pool.now.entries in
    c.from_vec.ensures ∙ c.loop-txid.invariant
    ∙ ap (flat_map (known_at entries)) (take_all c.loop-txid.txid-index _ (omega (arith, c.loop-txid-test.false)) ∙ c.as_slice-txid-items.ensures ∙ c.in_ok-txids.ensures)
    ∙ all_known entries c.recall_distinct.ensures
