use Rattle.std.proofs.Common.{◌≡◌, ◌∙◌, true, false, Some, None, Ok, sym}
use Rattle.std.proofs.lemmas.Result.{err_from_is_err_and}
use Rattle.gate_psbt.specs.Maps.{has_key, map_at, pair_at}
use Rattle.gate_psbt.proofs.Steps.{pair_ends, pair_fails, pair_next, pair_twice, pairs_run_out, pairs_start}
use Rattle.gate_psbt.proofs.map.take_map.Goals as goal

pub loop-init : goal.loop-init
loop-init c = rw (c.new-pairs.ensures.items, c.left-most.ensures) (pairs_start c.args.owner c.args.cursor.now)

pub returns-in_err-take_pair : goal.returns-in_err-take_pair
returns-in_err-take_pair c =
    let p = err_from_is_err_and c.from_residual.result c.from_residual.ensures.1 in
    rw (p.1, p.2) (pair_fails c.args.owner c.left-most.result c.loop.counter c.loop.pairs.items c.loop.cursor (map_at c.args.owner c.args.cursor.now) c.in_err-take_pair.field-0.0 c.loop-test.true c.in_err-take_pair.ensures c.loop.invariant)

pub returns-in-None : goal.returns-in-None
returns-in-None c =
    let read : pair_at c.args.owner c.loop.cursor ≡ Ok (None, c.take_pair.new.cursor) = rw (← c.in-None.is) c.in_ok-take_pair.ensures in
    pair_ends c.args.owner c.left-most.result c.loop.counter c.loop.pairs.items c.loop.cursor (map_at c.args.owner c.args.cursor.now) c.take_pair.new.cursor c.loop-test.true read c.loop.invariant

pub returns-then-has_key : goal.returns-then-has_key
returns-then-has_key c =
    let read : pair_at c.args.owner c.loop.cursor ≡ Ok (Some c.in-Some.pair, c.take_pair.new.cursor) = rw (← c.in-Some.is) c.in_ok-take_pair.ensures in
    let old : has_key c.loop.pairs.items c.in-Some.pair.0 ≡ true = rw (← c.deref.ensures.value, ← c.key.ensures) (sym c.has_key.ensures ∙ c.if-has_key.true) in
    pair_twice c.args.owner c.left-most.result c.loop.counter c.loop.pairs.items c.loop.cursor (map_at c.args.owner c.args.cursor.now) c.in-Some.pair c.take_pair.new.cursor c.loop-test.true read old c.loop.invariant

pub loop-preserved : goal.loop-preserved
loop-preserved c =
    let read : pair_at c.args.owner c.loop.cursor ≡ Ok (Some c.in-Some.pair, c.take_pair.new.cursor) = rw (← c.in-Some.is) c.in_ok-take_pair.ensures in
    let new : has_key c.loop.pairs.items c.in-Some.pair.0 ≡ false = rw (← c.deref.ensures.value, ← c.key.ensures) (sym c.has_key.ensures ∙ c.if-has_key.false) in
    rw c.in_ok-push-in-Some.ensures.items (pair_next c.args.owner c.left-most.result c.loop.counter c.loop.pairs.items c.loop.cursor (map_at c.args.owner c.args.cursor.now) c.in-Some.pair c.take_pair.new.cursor c.loop-test.true read new c.loop.invariant)

pub returns : goal.returns
returns c = pairs_run_out c.args.owner c.left-most.result c.loop.counter c.loop.pairs.items c.loop.cursor (map_at c.args.owner c.args.cursor.now) c.loop-test.false c.loop.invariant
