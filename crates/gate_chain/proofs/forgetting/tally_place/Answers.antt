use Rattle.std.proofs.Common.{◌++◌, sym, take}
use Rattle.gate_tx.specs.declared.OutPoint.{OutPoint}
use Rattle.gate_chain.specs.declared.marked.Marked.{Marked}
use Rattle.gate_chain.proofs.Copies.{on_ok_then}
use Rattle.gate_chain.proofs.Noted.{tally_next}
use Rattle.gate_chain.proofs.forgetting.tally_place.Goals as goal

pub returns-in-Some-clause-tally : goal.returns-in-Some-clause-tally
returns-in-Some-clause-tally g c =
    let e : OutPoint × Marked = (c.in-Some.outpoint.now, c.in-Some.marked.now) in
    let table = c.args.coins.now.entries in
    on_ok_then c.tally_coin.result (λ step es before. tally_next _ _ es table c.args.place e _ _ _ (sym c.in-Some.ensures.entry) (step (es ++ take c.args.place table) before)) c.tally_coin.ensures.tally
