use Rattle.std.proofs.Common.{sym, subst, refl}
use Rattle.std.specs.Prelude.{Contains}
use Rattle.gate_graph.specs.Holding.{id_at}
use Rattle.gate_graph.proofs.Holdings.{find_is}
use Rattle.gate_graph.proofs.Merging.{AddsNoChain-gains}
use Rattle.gate_graph.proofs.Tabling.{tables_same}
use Rattle.gate_graph.proofs.merge.adds_no_chain.Goals as goal

pub returns-clause-adds : goal.returns-clause-adds
returns-clause-adds g c t =
    let hs = c.args.slots.now.held in
    let x = id_at c.args.slots.now.spots c.args.place in
    let k = c.at.result.now in
    let w = find_is hs x k c.at.ensures in
    AddsNoChain-gains hs x k c.requires.last c.requires.tables.apart w.0 w.1 (λ p named. c.each_gains_one.ensures.gain t p (subst (λ l. Contains l p) (sym c.as_slice-parents.ensures.value) named))

pub returns-clause-tables : goal.returns-clause-tables
returns-clause-tables g c = tables_same c.args.slots.now c.args.slots.now c.args.links.now c.args.scratch.now _ c.requires.tables refl c.each_gains_one.ensures.clear c.each_gains_one.ensures.capacity refl
