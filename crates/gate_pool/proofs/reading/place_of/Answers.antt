use Rattle.std.proofs.Common.{ap, ◌∙◌}
use Rattle.std.specs.Option.{unwrap_or}
use Rattle.gate_pool.proofs.Admission.{told_place}
use Rattle.gate_pool.proofs.reading.place_of.Goals as goal

pub returns : goal.returns
returns g c =
    let spots = c.args.nodes.now.places in
    let x = c.args.txid.now in
    c.unwrap_or.ensures ∙ ap (λ o. unwrap_or o 0) (told_place spots c.node_id.result x c.place.result c.node_id.ensures c.place.ensures.sound c.place.ensures.whole)
