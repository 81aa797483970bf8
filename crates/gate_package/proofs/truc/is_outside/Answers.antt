use Rattle.std.proofs.Common.{◌||◌, ◌∙◌, not, List, [], length, ap, sym, subst, arith}
use Rattle.std.specs.Prelude.{◌==◌, Contains}
use Rattle.std.specs.List.{list_any}
use Rattle.std.proofs.lemmas.Bool.{or_left}
use Rattle.std.proofs.lemmas.List.Kept.{AllPairs-filter}
use Rattle.gate_bytes.proofs.Members.{Contains-head}
use Rattle.gate_tx.specs.declared.TxIn.{TxIn}
use Rattle.gate_tx.specs.Ids.{txid_of}
use Rattle.gate_graph.specs.Family.{reaches}
use Rattle.gate_pool.specs.Family.{ancestors_above, steps}
use Rattle.gate_pool.specs.Pool.{Admitted}
use Rattle.gate_pool.proofs.Adding.{DifferById}
use Rattle.gate_pool.proofs.Walking.{Contains-from_filter}
use Rattle.gate_package.specs.Kinship.{is_outside, is_outside_entry}
use Rattle.gate_package.proofs.Placing.{many_outside, none_by_ids, one_by_ids}
use Rattle.gate_package.proofs.truc.is_outside.Goals as goal

pub returns-in-empty : goal.returns-in-empty
returns-in-empty g c =
    let above = ancestors_above c.args.pool.now.entries c.args.tx.now.inputs in
    c.is_outside_together.ensures
    ∙ sym (ap (λ (l : List Admitted). is_outside c.args.pool.now.entries c.args.these.now c.args.tx.now c.args.vsize l c.args.parents.now) (none_by_ids c.args.above.now above (omega (arith, c.in-empty.len_below)) c.requires))

pub returns-then-not-is_empty : goal.returns-then-not-is_empty
returns-then-not-is_empty g c =
    let entries = c.args.pool.now.entries in
    let these = c.args.these.now in
    let tx = c.args.tx.now in
    let test = λ (e : Admitted). list_any (λ (i : TxIn). reaches (steps entries) (txid_of e.tx) i.prevout.txid) tx.inputs in
    let one = one_by_ids c.args.above.now (ancestors_above entries tx.inputs) c.entry-item.result (omega (arith, c.in-len1.len_at_least)) (omega (arith, c.in-len1.len_below)) c.entry-item.is
    (AllPairs-filter DifferById test entries c.recall_distinct.ensures.txids) c.requires in
    ap not c.if-not-is_empty.true
    ∙ sym (ap (λ (l : List Admitted). is_outside entries these tx c.args.vsize l c.args.parents.now) one.1
    ∙ or_left (not (length c.args.parents.now == 0)) (is_outside_entry entries these tx c.args.vsize one.0) (ap not (sym c.is_empty.ensures ∙ c.if-not-is_empty.true)))

pub returns-else-not-is_empty : goal.returns-else-not-is_empty
returns-else-not-is_empty g c =
    let entries = c.args.pool.now.entries in
    let these = c.args.these.now in
    let tx = c.args.tx.now in
    let test = λ (e : Admitted). list_any (λ (i : TxIn). reaches (steps entries) (txid_of e.tx) i.prevout.txid) tx.inputs in
    let one = one_by_ids c.args.above.now (ancestors_above entries tx.inputs) c.entry-item.result (omega (arith, c.in-len1.len_at_least)) (omega (arith, c.in-len1.len_below)) c.entry-item.is
    (AllPairs-filter DifferById test entries c.recall_distinct.ensures.txids) c.requires in
    let member : Contains entries one.0 = Contains-from_filter test entries one.0 (subst (λ (l : List Admitted). Contains l one.0) (sym one.1) (Contains-head one.0 [])) in
    c.is_outside_entry.ensures tx (sym c.txid.ensures) one.0 member one.2
    ∙ sym (ap (λ (l : List Admitted). is_outside entries these tx c.args.vsize l c.args.parents.now) one.1
    ∙ ap (λ b. b || is_outside_entry entries these tx c.args.vsize one.0) (ap not (sym c.is_empty.ensures ∙ c.if-not-is_empty.false)))

pub returns-in_default : goal.returns-in_default
returns-in_default g c =
    let entries = c.args.pool.now.entries in
    let tx = c.args.tx.now in
    let test = λ (e : Admitted). list_any (λ (i : TxIn). reaches (steps entries) (txid_of e.tx) i.prevout.txid) tx.inputs in
    sym (many_outside entries c.args.these.now tx c.args.vsize c.args.above.now (ancestors_above entries tx.inputs) c.args.parents.now (omega (arith, c.in_default.len_at_least))
    (AllPairs-filter DifferById test entries c.recall_distinct.ensures.txids) c.requires)
