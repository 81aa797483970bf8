use Rattle.std.proofs.Common.{◌+◌, not, sym}
use Rattle.std.proofs.lemmas.Slice.Zip.{either_empty_from_Zip}
use Rattle.std.specs.Iterator.Adapters.{zip_first, zip_second}
use Rattle.std.specs.Slice.Iter.{iter_rest}
use Rattle.gate_chain.specs.Times.{tip_of}
use Rattle.gate_locks.specs.Locks.{has_relative_locks, sequence_locks_met_by}
use Rattle.gate_locks.proofs.Each.{left_after, none_left, or_true}
use Rattle.gate_locks.proofs.relative.sequence_locks_met.Goals as goal

pub loop-input-preserved : goal.loop-input-preserved
loop-input-preserved g c =
    let chain = c.args.chain.now in
    let s = c.loop-input.input-iterator in
    let t = c.next.new.self in
    let step = c.in-Some.ensures.steps in
    left_after chain (tip_of chain + 1) c.args.tx.now.inputs c.args.heights.now (iter_rest (zip_first s)) (iter_rest (zip_first t)) (iter_rest (zip_second s)) (iter_rest (zip_second t)) c.in-Some.input.now c.in-Some.height.now
    step.0 step.1 (sym c.if-not-is_lock_met.ensures) c.loop-input.invariant

pub returns : goal.returns
unfolding sequence_locks_met_by
returns g c =
    let chain = c.args.chain.now in
    let s = c.loop-input.input-iterator in
    let ended = either_empty_from_Zip s c.next.new.self _ c.in-None.is c.next.ensures.steps in
    or_true (not (has_relative_locks c.args.tx.now.version)) _
    (none_left chain (tip_of chain + 1) c.args.tx.now.inputs c.args.heights.now (iter_rest (zip_first s)) (iter_rest (zip_second s)) ended c.loop-input.invariant)
