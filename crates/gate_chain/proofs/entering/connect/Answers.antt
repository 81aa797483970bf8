use Rattle.std.proofs.Common.{◌∙◌, refl, arith, ◌≤◌, length, length-append}
use Rattle.gate_chain.specs.Marking.{all_in}
use Rattle.gate_chain.proofs.Growing.{starts, spent_made, count_coins, count_ids, first_is, stops, goes, ends}
use Rattle.gate_chain.proofs.TwoTables.{count_same}
use Rattle.gate_chain.proofs.entering.connect.Goals as goal

pub loop-place-init : goal.loop-place-init
loop-place-init g c = (refl, λ h o a. (starts h c.args.block.header _ _ a, refl))

pub loop-place-preserved : goal.loop-place-preserved
loop-place-preserved g c = (
  c.in_default.ensures.opening ∙ c.loop-place.invariant.0,
  λ h o a.
      let i = c.loop-place.invariant.1 h o a in
      let e = rw c.get.ensures at (c.in_default.ensures.entered h c.args.block.header _ o (first_is _ c.loop-place.place c.loop-place-test.true) i.0) in
      goes h c.args.block.header _ c.loop-place.place c.index-txs-place.result c.loop-place-test.true c.index-txs-place.is i.1 _ _ e.0 e.1,
)

pub returns-in-Err-clause-connected : goal.returns-in-Err-clause-connected
returns-in-Err-clause-connected g c = λ h o n a.
    let i = c.loop-place.invariant.1 h o a in
    let e = rw c.get.ensures at (c.in-Err.ensures.entered h c.args.block.header _ o (first_is _ c.loop-place.place c.loop-place-test.true) i.0) in
    let stays = count_same c.args.coins.now.opening.entries c.enter.new.coins.opening.entries (c.in-Err.ensures.opening ∙ c.loop-place.invariant.0) in
    let before = c.len-coins_before.ensures.len in
    let both = length-append c.args.coins.now.opening.entries c.args.coins.now.made.entries in
    let all = count_coins h (all_in c.args.coins.now) c.args.txids.now.keys a in (
      c.leave.ensures.left h c.args.block.header (spent_made h _ _ a) i.1 (omega arith) (c.len-ids_before.ensures.len ∙ count_ids h _ _ a) e.0,
      rw c.transactions-txs.ensures at (stops h c.args.block.header _ c.loop-place.place c.index-txs-place.result c.loop-place-test.true c.index-txs-place.is i.1 c.in-Err.fault e.1),
    )

pub returns-clause-connected : goal.returns-clause-connected
returns-clause-connected g c = λ h o n a.
    let i = rw c.transactions-txs.ensures at (c.loop-place.invariant.1 h o a) in
    let le : length c.transactions-txs.result.now ≤ c.loop-place.place = omega (arith, c.loop-place-test.false) in
    let before = c.len-coins_before.ensures.len in
    let both = length-append c.args.coins.now.opening.entries c.args.coins.now.made.entries in
    let e = ends h c.args.block c.len-coins_before.result c.len-ids_before.result c.loop-place.place _ _ _ _ a (omega arith) c.len-ids_before.ensures.len
    (rw c.transactions-txs.ensures at le) i.0 i.1 in
    (refl, e.0, e.1, e.2)
