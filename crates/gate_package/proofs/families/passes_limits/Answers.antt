use Rattle.std.proofs.Common.{◌≡◌, ◌-◌, ◌<◌, List, length, map, sym, ap, ◌∙◌, subst, arith}
use Rattle.std.specs.List.{flat_map, list_any}
use Rattle.std.proofs.lemmas.List.Kept.{AllPairs-filter}
use Rattle.gate_tx.specs.declared.TxIn.{TxIn}
use Rattle.gate_tx.specs.Ids.{txid_of}
use Rattle.gate_graph.specs.Family.{reaches}
use Rattle.gate_pool.specs.Family.{AreIdsOf, ancestors_above, steps, sums_of}
use Rattle.gate_pool.specs.Pool.{Admitted}
use Rattle.gate_pool.proofs.Adding.{DifferById}
use Rattle.gate_pool.proofs.Ids.{ids_length}
use Rattle.gate_rivals.specs.Rivals.{inputs_of, point_of}
use Rattle.gate_package.specs.Together.{above_all}
use Rattle.gate_package.proofs.Crowding.{crowd_asked, passes_above, passes_alone, room_for, same_above}
use Rattle.gate_package.proofs.families.passes_limits.Goals as goal

pub returns-then-are_too_many : goal.returns-then-are_too_many
returns-then-are_too_many g c =
    sym (passes_alone c.args.policy.now c.args.pool.now.entries c.args.these.now c.args.vsize c.usual_limits-limits.result c.usual_limits-limits.ensures (sym c.are_too_many.ensures ∙ c.if-are_too_many.true))

pub overflow_sub-most : goal.overflow_sub-most
overflow_sub-most g c = let room = room_for c.usual_limits-limits.result (length c.args.these.now) c.args.vsize (sym c.are_too_many.ensures ∙ c.if-are_too_many.false) in omega (arith, room.ancestors)

pub returns-in_default : goal.returns-in_default
returns-in_default g c =
    let entries = c.args.pool.now.entries in
    let txs = c.args.these.now in
    let limits = c.usual_limits-limits.result in
    let same : ancestors_above entries c.as_slice.result.now ≡ above_all entries txs = same_above entries c.as_slice.result.now (flat_map inputs_of txs) (ap (map point_of) c.as_slice.ensures.value ∙ c.in_ok-inputs.ensures) in
    let many : limits.ancestors - length txs < length (above_all entries txs) = subst (λ (l : List Admitted). limits.ancestors - length txs < length l) same (c.in_ok-above.ensures.many c.in_default.is) in
    sym (passes_above c.args.policy.now entries txs c.args.vsize limits c.usual_limits-limits.ensures many)

pub crowd-requires-clause-small : goal.crowd-requires-clause-small
crowd-requires-clause-small g c = rw c.in-Some.is at c.in_ok-above.ensures.small

pub crowd-requires-clause-few : goal.crowd-requires-clause-few
crowd-requires-clause-few g c = (room_for c.usual_limits-limits.result (length c.args.these.now) c.args.vsize (sym c.are_too_many.ensures ∙ c.if-are_too_many.false)).descendants

pub returns : goal.returns
returns g c =
    let entries = c.args.pool.now.entries in
    let txs = c.args.these.now in
    let limits = c.usual_limits-limits.result in
    let found : List TxIn = c.as_slice.result.now in
    let same : ancestors_above entries found ≡ above_all entries txs = same_above entries found (flat_map inputs_of txs) (ap (map point_of) c.as_slice.ensures.value ∙ c.in_ok-inputs.ensures) in
    let test = λ (e : Admitted). list_any (λ (i : TxIn). reaches (steps entries) (txid_of e.tx) i.prevout.txid) found in
    let are : AreIdsOf c.in-Some.above.ids.items (ancestors_above entries found) = rw c.in-Some.is at c.in_ok-above.ensures.found in
    let sums : c.in-Some.above.sums ≡ sums_of (ancestors_above entries found) = rw c.in-Some.is at c.in_ok-above.ensures.sums in
    let few = rw c.in-Some.is at c.in_ok-above.ensures.few in
    let many : length c.in-Some.above.ids.items ≡ length (ancestors_above entries found) = ids_length c.in-Some.above.ids.items (ancestors_above entries found) (AllPairs-filter DifferById test entries c.recall_distinct.ensures.txids) are in
    crowd_asked c.args.policy.now entries txs c.args.vsize limits c.usual_limits-limits.ensures (sym c.are_too_many.ensures ∙ c.if-are_too_many.false) (ancestors_above entries found) same (omega (arith, few, many, c.in-Some.above.ids.ok.0)) c.crowd.result (c.crowd.ensures test are sums)
