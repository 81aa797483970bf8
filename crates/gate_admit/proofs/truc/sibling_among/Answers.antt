use Rattle.std.proofs.Common.{◌≡◌, Bool, List, sym, subst}
use Rattle.std.specs.Prelude.{IfOk}
use Rattle.std.specs.List.{list_any}
use Rattle.std.proofs.lemmas.List.Kept.{AllPairs-filter}
use Rattle.gate_tx.specs.declared.TxIn.{TxIn}
use Rattle.gate_tx.specs.Ids.{txid_of}
use Rattle.gate_graph.specs.Family.{reaches}
use Rattle.gate_pool.specs.Distinct.{AreDistinct}
use Rattle.gate_pool.specs.Pool.{Admitted}
use Rattle.gate_pool.specs.Family.{steps, ancestors_above}
use Rattle.gate_pool.proofs.Adding.{DifferById}
use Rattle.gate_admit.proofs.Kinship.{first_is_entry, none_first, one_first, sibling_of_none, sibling_of_one}
use Rattle.gate_admit.proofs.truc.sibling_among.Goals as goal

pub sibling_below-requires : goal.sibling_below-requires
sibling_below-requires g c =
    let direct = c.args.direct.now in
    let test : Admitted → Bool = λ a. list_any (λ (i : TxIn). reaches (steps direct.entries) (txid_of a.tx) i.prevout.txid) direct.tx.inputs in
    first_is_entry direct.entries test c.args.above.now c.in-Some.parent.now (sym c.in-Some.ensures.value) c.requires.ids

pub returns-in-Some : goal.returns-in-Some
returns-in-Some g c =
    let direct = c.args.direct.now in
    let these = ancestors_above direct.entries direct.tx.inputs in
    let distinct : AreDistinct direct.entries = subst (λ (l : List Admitted). AreDistinct l) c.pool.ensures c.recall_distinct.ensures in
    let test : Admitted → Bool = λ a. list_any (λ (i : TxIn). reaches (steps direct.entries) (txid_of a.tx) i.prevout.txid) direct.tx.inputs in
    let parent = c.in-Some.parent.now in
    let one = one_first these c.args.above.now parent (AllPairs-filter DifferById test direct.entries distinct.txids) (sym c.in-Some.ensures.value) c.requires.few c.requires.ids in
    subst (λ o. IfOk c.sibling_below.result (λ id. id ≡ o)) (sym (sibling_of_one direct.entries direct.tx these one.0 parent one.1 one.2)) c.sibling_below.ensures

pub returns-in-None : goal.returns-in-None
returns-in-None g c =
    let direct = c.args.direct.now in
    let these = ancestors_above direct.entries direct.tx.inputs in
    sym (sibling_of_none direct.entries direct.tx these (none_first these c.args.above.now (sym c.in-None.ensures.value) c.requires.ids))
