use Rattle.std.proofs.Common.{◌≡◌, ap, ◌∙◌, subst}
use Rattle.std.specs.Prelude.{IfSome}
use Rattle.gate_graph.specs.declared.held.Totals.{Totals}
use Rattle.gate_pool.specs.Family.{totals_of}
use Rattle.gate_rbf.proofs.Counted.{entry_found}
use Rattle.gate_admit.proofs.Kinship.{below_and_itself}
use Rattle.gate_admit.proofs.truc.count_below.Goals as goal

pub unwrap-requires : goal.unwrap-requires
unwrap-requires g c = c.totals.ensures.found ∙ entry_found c.args.pool.now.entries c.args.txid.now c.requires

pub returns : goal.returns
returns g c =
    let entries = c.args.pool.now.entries in
    let x = c.args.txid.now in
    let kept : c.unwrap.result.now ≡ totals_of entries x = subst (λ o. IfSome o (λ totals. totals.now ≡ totals_of entries x)) c.unwrap.ensures c.totals.ensures.totals in
    ap (λ (t : Totals). t.below.count) kept ∙ below_and_itself entries x c.recall_distinct.ensures.txids c.requires
