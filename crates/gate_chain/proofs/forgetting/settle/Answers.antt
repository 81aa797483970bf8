use Rattle.std.proofs.Common.{Bool, ◌++◌, ◌∙◌, ap, sym, subst, take}
use Rattle.std.specs.List.{list_any, IsDistinct}
use Rattle.std.specs.Map.{keys_of}
use Rattle.gate_tx.specs.Coins.{point_eq}
use Rattle.gate_tx.specs.declared.OutPoint.{OutPoint}
use Rattle.indexmap.specs.IndexMap.{insert_all}
use Rattle.gate_chain.specs.Parting.{is_kept, kept_of}
use Rattle.gate_chain.proofs.Joined.{inserted}
use Rattle.gate_chain.proofs.Noted.{distinct_filter, filter-both}
use Rattle.gate_chain.proofs.forgetting.settle.Goals as goal

pub returns-clause-opening : goal.returns-clause-opening
returns-clause-opening g c = λ d.
    let later : OutPoint → Bool = λ p. list_any (point_eq p) c.args.later.now.keys in
    let wanted : OutPoint → Bool = g.T.CoinTest.wanted c.args.test.now in
    let o = c.args.coins.now.opening.entries in
    let t = take c.args.count c.args.coins.now.made.entries in
    let both = filter-both (is_kept later wanted) o t in
    let joined = rw c.unwrap.ensures at c.append-joined.ensures.entries in
    joined
    ∙ (λ j. insert_all point_eq ((c.keep_needed.ensures.entries ∙ ap (kept_of later wanted) c.in_ok-reserve.ensures.entries) j) ((c.keep_needed-2.ensures.entries ∙ ap (kept_of later wanted) c.in_ok-rest.ensures.kept) j))
    ∙ inserted (kept_of later wanted o) (kept_of later wanted t) (subst (λ l. IsDistinct point_eq (keys_of l)) both (distinct_filter (is_kept later wanted) (o ++ t) d))
    ∙ sym both
